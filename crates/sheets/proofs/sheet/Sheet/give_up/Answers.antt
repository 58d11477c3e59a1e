use Rattle.kinds.proofs.Grouped.{group_of}
use Rattle.sheets.proofs.Keeping.{follows_back, follows_out, given_up, this_count}
use Rattle.sheets.proofs.Parked.{untouched}
use Rattle.sheets.proofs.sheet.Sheet.give_up.Goals as goal
use Rattle.sheets.specs.History.{give_up}
use Rattle.std.proofs.Common.{refl}

pub returns-in_default-clause-follows_history : goal.returns-in_default-clause-follows_history
returns-in_default-clause-follows_history g c =
    follows_back g.K.Kind g.K.Reckoned (give_up c.args.slip.unit) c.args.self.now c.hand_back.result.refusal 5 c.hand_back.ensures.1 c.in_default.ensures

pub returns-clause-follows_history : goal.returns-clause-follows_history
returns-clause-follows_history g c =
    let s = c.args.self.now in
    let N = g.K.Kind in
    let R = g.K.Reckoned in
    let u = c.args.slip.unit in
    follows_out N R (give_up u) s _ _ c.in-Some.ensures.1 (λ h k. (given_up N R (group_of g.met.K.Reckoned) h s _ k u (record { unit = refl; entries = refl; parked = refl; table = untouched R s.cells }), this_count N R h s _ k c.count.ensures))

use Rattle.kinds.proofs.Grouped.{group_of}
use Rattle.kinds.specs.Refusals.{refusal}
use Rattle.sheets.proofs.Keeping.{enough, too_little, entered, follows_no, follows_out, next_count, wanted_kept}
use Rattle.sheets.proofs.sheet.Sheet.enter.Goals as goal
use Rattle.sheets.specs.History.{enter, refuses}
use Rattle.sheets.specs.Sheets.{stands}
use Rattle.std.proofs.Common.{◌≡◌, Some, None, refl, arith}

pub returns-then-free-wanted-clause-follows_history : goal.returns-then-free-wanted-clause-follows_history
returns-then-free-wanted-clause-follows_history g c =
    let s = c.args.self.now in
    let no : refuses (stands s) (enter c.args.entry) ≡ Some (refusal 2) = too_little _ _ 2 _ _ c.wanted.ensures c.free.ensures c.if-free-wanted.true in
    follows_no g.K.Kind g.K.Reckoned (enter c.args.entry) s (refusal 2) no

pub invariant_of-self : goal.invariant_of-self
invariant_of-self g c =
    let s = c.args.self.now in
    record { room = omega (arith, wanted_kept s.parked, c.wanted.ensures, c.free.ensures, c.add.ensures.counts, c.add.ensures.table.cells) }

pub returns-clause-follows_history : goal.returns-clause-follows_history
returns-clause-follows_history g c =
    let s = c.args.self.now in
    let e = c.args.entry in
    let N = g.K.Kind in
    let R = g.K.Reckoned in
    let yes : refuses (stands s) (enter e) ≡ None = enough _ _ 2 _ _ c.wanted.ensures c.free.ensures c.if-free-wanted.false in
    follows_out N R (enter e) s _ _ yes (λ h k. (entered N R (group_of g.met.K.Reckoned) h s _ k e (record { unit = refl; entries = c.add.ensures.adds; parked = refl; table = c.add.ensures.table }), next_count N R h s _ k c.add.ensures.answers))

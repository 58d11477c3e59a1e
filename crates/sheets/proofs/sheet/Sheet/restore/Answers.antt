use Rattle.kinds.proofs.Grouped.{group_of}
use Rattle.sheets.proofs.Keeping.{follows_back, follows_out, next_count, restored}
use Rattle.sheets.proofs.Parked.{amount_so}
use Rattle.sheets.proofs.sheet.Sheet.restore.Goals as goal
use Rattle.sheets.specs.History.{restore}
use Rattle.std.proofs.Common.{◌≡◌, Some, sym, refl, ◌∙◌}

pub returns-in_default-clause-follows_history : goal.returns-in_default-clause-follows_history
returns-in_default-clause-follows_history g c =
    follows_back g.K.Kind g.K.Reckoned (restore c.args.slip.unit) c.args.self.now c.hand_back.result.refusal 5 c.hand_back.ensures.1 c.in_default.ensures

pub returns : goal.returns
returns g c =
    let s = c.args.self.now in
    let N = g.K.Kind in
    let R = g.K.Reckoned in
    let u = c.args.slip.unit in
    let n = c.in-Some.number in
    let kept : s.parked ≡ Some n = c.in-Some.ensures.0 in
    let fits = c.in-Some.ensures.1 in
    let amount : (t : g.row.K.Denot) → s.parked ≡ Some (N.number t) → c.amount_of.result ≡ t = λ t is. let same : N.number t ≡ n = cc in c.amount_of.ensures t same in
    let added = c.add.ensures.adds in
    record {
      refuses = sym fits;
      stays = record { unit = refl; table = c.add.ensures.table };
      leaves = (c.add.ensures.answers, (c.amount_of.result, amount, record { unit = refl; entries = added; parked = refl; table = c.add.ensures.table }));
      follows_history = follows_out N R (restore u) s _ _ fits (λ h k. (restored N R (group_of g.met.K.Reckoned) h s _ k u c.amount_of.result (amount_so N R h.parked n c.amount_of.result (sym k.parked ∙ kept) c.amount_of.ensures) (record { unit = refl; entries = added; parked = refl; table = c.add.ensures.table }), next_count N R h s _ k c.add.ensures.answers));
    }

use Rattle.kinds.proofs.Grouped.{group_of}
use Rattle.kinds.specs.Refusals.{refusal}
use Rattle.kinds.specs.Totals.{total}
use Rattle.sheets.proofs.Keeping.{follows_no, follows_out, parked}
use Rattle.sheets.proofs.Parked.{parked_already, parked_full, parked_fits}
use Rattle.sheets.proofs.sheet.Sheet.park.Goals as goal
use Rattle.sheets.specs.History.{park}
use Rattle.sheets.specs.Sheets.{entries_of}
use Rattle.sheets.specs.declared.answer.Answer.TheVariants.{Slip}
use Rattle.std.proofs.Common.{◌≡◌, [], ◌∷◌, ◌++◌, Some, sym, refl, ap, ◌∙◌}

pub returns-then-is_some-clause-follows_history : goal.returns-then-is_some-clause-follows_history
returns-then-is_some-clause-follows_history g c =
    let s = c.args.self.now in
    follows_no g.K.Kind g.K.Reckoned park s (refusal 4) (parked_already s c.if-is_some.ensures)

pub returns-then-free-lt2-clause-follows_history : goal.returns-then-free-lt2-clause-follows_history
returns-then-free-lt2-clause-follows_history g c =
    let s = c.args.self.now in
    follows_no g.K.Kind g.K.Reckoned park s (refusal 2) (parked_full s _ c.if-is_some.ensures c.free.ensures c.if-free-lt2.true)

pub returns : goal.returns
returns g c =
    let s = c.args.self.now in
    let N = g.K.Kind in
    let R = g.K.Reckoned in
    let fits = parked_fits s _ c.if-is_some.ensures c.free.ensures c.if-free-lt2.false in
    let all : c.sum-amount.result ≡ total R (entries_of R s) = c.sum-amount.ensures in
    let added = c.add.ensures.adds ∙ ap (λ x. entries_of R s ++ (x ∷ [])) (c.inverse.ensures ∙ ap R.inverse all) in
    let kept = ap Some (c.number.ensures ∙ ap N.number all) in
    record {
      refuses = sym fits;
      stays = record { unit = refl; table = c.add.ensures.table };
      leaves = (c.issue.ensures.0, c.issue.ensures.1, record { unit = refl; entries = added; parked = kept; table = c.add.ensures.table });
      follows_history = follows_out N R park s _ _ fits (λ h k. (parked N R (group_of g.met.K.Reckoned) h s _ k (record { unit = refl; entries = added; parked = kept; table = c.add.ensures.table }), ap Slip (c.issue.ensures.0 ∙ k.unit)));
    }

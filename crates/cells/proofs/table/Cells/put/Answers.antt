use Rattle.cells.proofs.Decoding.{length-decoded}
use Rattle.cells.proofs.table.Cells.put.Goals as goal
use Rattle.cells.specs.Cells.{written}
use Rattle.kinds.proofs.Grouped.{group_of}
use Rattle.kinds.proofs.Joins.{made_good}
use Rattle.runs.proofs.Placed.{entry_outside}
use Rattle.runs.specs.Places.{entry_at}
use Rattle.std.proofs.Common.{◌≡◌, ℕ, ◌-◌, set, Ok, Err, sym, refl, ap, ◌∙◌, arith}
use Rattle.std.proofs.lemmas.Result.{err_from_is_err_and}

pub returns-in_err-place-clause-puts : goal.returns-in_err-place-clause-puts
returns-in_err-place-clause-puts g c e is =
    let none = entry_outside (written g.K.Reckoned c.args.self.now) c.args.place c.args.self.now.count (sym (length-decoded g.K.Reckoned _ _)) c.in_err-place.ensures.1 in
    let z : ◌≡◌ {A = ℕ} 0 1 = cc in absurd (omega arith)

pub returns-in_err-place-clause-refuses : goal.returns-in_err-place-clause-refuses
returns-in_err-place-clause-refuses g c f is =
    let p = err_from_is_err_and c.from_residual.result c.from_residual.ensures.1 in
    let none = entry_outside (written g.K.Reckoned c.args.self.now) c.args.place c.args.self.now.count (sym (length-decoded g.K.Reckoned _ _)) c.in_err-place.ensures.1 in
    (p.1 ∙ ap Err (p.2 ∙ c.in_err-place.ensures.0) ∙ sym none ∙ is, refl)

pub returns-clause-puts : goal.returns-clause-puts
returns-clause-puts g c old is =
    let R = g.K.Reckoned in
    let s = c.args.self.now in
    let here = c.entry-old.result in
    let at = c.in_ok-place.ensures.0 in
    let there : entry_at (written R s) c.args.place ≡ Ok here = ap (entry_at (written R s)) (sym at) ∙ c.entry-old.ensures in
    let same : here ≡ old = cc in
    let made : R.join here c.join.result ≡ c.args.entry = ap (R.join here) (c.join.ensures ∙ ap (R.join c.args.entry) c.inverse.ensures) ∙ made_good (group_of g.met.K.Reckoned) here c.args.entry in
    (ap Ok same, c.raise_at.ensures.joins here c.entry-old.ensures ∙ ap (λ i. set (written R s) (i - 1) (R.join here c.join.result)) at ∙ ap (set (written R s) (c.args.place - 1)) made)

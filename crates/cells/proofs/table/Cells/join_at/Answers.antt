use Rattle.cells.proofs.Decoding.{length-decoded}
use Rattle.cells.proofs.table.Cells.join_at.Goals as goal
use Rattle.cells.specs.Cells.{written}
use Rattle.runs.proofs.Placed.{entry_outside}
use Rattle.runs.specs.Places.{entry_at}
use Rattle.std.proofs.Common.{◌≡◌, ℕ, ◌-◌, set, Ok, Err, sym, refl, ap, ◌∙◌, arith}
use Rattle.std.proofs.lemmas.Result.{err_from_is_err_and}

pub returns-in_err-place-clause-joins : goal.returns-in_err-place-clause-joins
returns-in_err-place-clause-joins g c e is =
    let none = entry_outside (written g.K.Reckoned c.args.self.now) c.args.place c.args.self.now.count (sym (length-decoded g.K.Reckoned _ _)) c.in_err-place.ensures.1 in
    let z : ◌≡◌ {A = ℕ} 0 1 = cc in absurd (omega arith)

pub returns-in_err-place-clause-refuses : goal.returns-in_err-place-clause-refuses
returns-in_err-place-clause-refuses g c f is =
    let p = err_from_is_err_and c.from_residual.result c.from_residual.ensures.1 in
    let none = entry_outside (written g.K.Reckoned c.args.self.now) c.args.place c.args.self.now.count (sym (length-decoded g.K.Reckoned _ _)) c.in_err-place.ensures.1 in
    (p.1 ∙ ap Err (p.2 ∙ c.in_err-place.ensures.0) ∙ sym none ∙ is, refl)

-- The check finds this alone; said outright, it refuses a wrong answer soon.
pub returns-clause-joins : goal.returns-clause-joins
returns-clause-joins g c e is =
    let R = g.K.Reckoned in
    let s = c.args.self.now in
    let here = c.entry-entry.result in
    let at = c.in_ok-place.ensures.0 in
    let there : entry_at (written R s) c.args.place ≡ Ok here = ap (entry_at (written R s)) (sym at) ∙ c.entry-entry.ensures in
    let same : here ≡ e = cc in
    let raised = c.raise_at.ensures.joins e (c.entry-entry.ensures ∙ ap Ok same) in
    (ap Ok (c.join.ensures ∙ ap (λ x. R.join x c.args.amount) same), raised ∙ ap (λ i. set (written R s) (i - 1) (R.join e c.args.amount)) at)

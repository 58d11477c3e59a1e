use Rattle.runs.proofs.Placed.{entry_outside, entry_there}
use Rattle.runs.proofs.totals.TotalsRun.at.Goals as goal
use Rattle.std.proofs.Common.{◌≡◌, ◌-◌, get_or, sym, ◌∙◌, ap, arith}
use Rattle.std.proofs.lemmas.Result.{err_from_is_err_and}

pub returns-in_err-place : goal.returns-in_err-place
returns-in_err-place g c =
    let p = err_from_is_err_and c.from_residual.result c.from_residual.ensures.1 in
    rw (p.1, p.2, c.in_err-place.ensures.0) (sym (entry_outside _ c.args.place c.count.result c.count.ensures c.in_err-place.ensures.1))

pub returns : goal.returns
returns g c =
    let xs = c.args.self.now.joins.items in
    let e = c.index-2.result.now in
    let p = c.in_ok-place.place in
    let within = c.in_ok-place.ensures in
    let at : c.index.result ≡ c.args.place - 1 = omega (arith, within.0, c.index.ensures) in
    sym (entry_there xs c.args.place e (omega (arith, p.from_one, within.0)) (omega (arith, within.1, c.count.ensures)) (c.index-2.ensures ∙ ap (λ i. get_or xs i e) at))

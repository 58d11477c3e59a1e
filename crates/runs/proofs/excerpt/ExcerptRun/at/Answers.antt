use Rattle.runs.proofs.Placed.{entry_outside, entry_part}
use Rattle.runs.proofs.excerpt.ExcerptRun.at.Goals as goal
use Rattle.runs.specs.Places.{entry_at}
use Rattle.std.proofs.lemmas.List.{length-take}
use Rattle.std.proofs.lemmas.Result.{err_from_is_err_and}
use Rattle.std.proofs.Common.{drop, ◌+◌, sym, ap, ◌∙◌, arith}

pub returns-in_err-place : goal.returns-in_err-place
returns-in_err-place g c =
    let p = err_from_is_err_and c.from_residual.result c.from_residual.ensures.1 in
    rw (p.1, p.2, c.in_err-place.ensures.0) (sym (entry_outside _ c.args.place c.count.result c.count.ensures c.in_err-place.ensures.1))

pub returns : goal.returns
returns g c =
    let s = c.args.self.now in
    let all = g.R.Run.entries s.below in
    let within = c.in_ok-place.ensures in
    let p = c.in_ok-place.place in
    c.at.ensures
    ∙ ap (λ i. entry_at all (s.skipped + i)) within.0
    ∙ sym (entry_part all s.skipped s.most c.args.place (omega (arith, p.from_one, within.0)) (omega (arith, within.1, c.count.ensures, length-take s.most (drop s.skipped all))))

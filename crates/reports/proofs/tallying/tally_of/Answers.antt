use Rattle.kinds.specs.Steps.{numbering}
use Rattle.reports.proofs.tallying.tally_of.Goals as goal
use Rattle.std.proofs.Common.{arith}
use Rattle.std.proofs.lemmas.List.{length-map}
use Rattle.std.proofs.lemmas.Result.{MatchResult-weaker}
use Rattle.tallies.proofs.Distinct.{enough}

pub returns : goal.returns
returns g c =
    let whole = length-map (g.R.Run.entries c.args.run.now) numbering.number in
    MatchResult-weaker c.tally_with.result c.tally_with.ensures.counts (λ v t. t) (λ f u. enough _ _ f (omega (arith, whole, c.in_ok-table.ensures.enough)) u)

use Rattle.std.proofs.Common.{arith}
use Rattle.std.proofs.lemmas.List.{length-map}
use Rattle.std.proofs.lemmas.Result.{MatchResult-weaker}
use Rattle.tallies.proofs.Distinct.{enough}
use Rattle.tallies.proofs.tallying.tally_records.Goals as goal

pub returns : goal.returns
returns g c =
    let whole = length-map (g.R.Run.entries c.args.run.now) g.R.Entry.Kind.number in
    MatchResult-weaker c.tally_within.result c.tally_within.ensures.tallies (λ v t. t) (λ f u. enough _ _ f (omega (arith, whole, c.in_ok-table.ensures.enough)) u)

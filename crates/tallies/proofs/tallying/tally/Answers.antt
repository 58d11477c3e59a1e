use Rattle.std.proofs.Common.{arith}
use Rattle.std.proofs.lemmas.List.{length-map}
use Rattle.tallies.proofs.Distinct.{answered, tally_few}
use Rattle.tallies.proofs.tallying.tally.Goals as goal

pub write_front-requires : goal.write_front-requires
write_front-requires g c =
    rw c.as_slice.ensures.value (omega (arith, tally_few _ _ c.in_ok-counts.ensures, length-map (g.R.Run.entries c.args.run.now) g.R.Entry.Kind.number, g.R.Run.few c.args.run.now))

pub returns : goal.returns
returns g c =
    answered _ _ _ _ c.write_front.result c.in_ok-counts.ensures (rw c.as_slice.ensures.value at c.write_front.ensures)

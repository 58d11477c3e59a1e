use Rattle.std.proofs.Common.{vec_items}
use Rattle.tallies.proofs.Rising.{Grouped}
use Rattle.tallies.proofs.tallying.grouped.Given as goal

abbrev pub invariant-loop-number : goal.invariant-loop-number
invariant-loop-number l = Grouped l.sorted l.number-index (vec_items l.groups)

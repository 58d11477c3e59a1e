use Rattle.std.proofs.Common.{◌+◌, ◌-◌}
use Rattle.cells.proofs.Raising.{Raising}
use Rattle.cells.proofs.walk.raise.Given as goal

abbrev pub invariant-loop-above : goal.invariant-loop-above
invariant-loop-above g l = Raising g.K.Reckoned l.initial.cells l.cells l.count l.fn.place.number l.amount l.above

abbrev pub decreases-loop-above : goal.decreases-loop-above
decreases-loop-above g l = l.count + 1 - l.above

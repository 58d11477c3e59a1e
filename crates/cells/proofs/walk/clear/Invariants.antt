use Rattle.cells.proofs.walk.clear.Given as goal
use Rattle.std.proofs.Common.{◌≡◌, ◌++◌, drop, take, replicate}

abbrev pub invariant-loop-cell : goal.invariant-loop-cell
invariant-loop-cell g l = l.cell-items ≡ replicate l.cell-index g.K.Reckoned.zero ++ drop l.cell-index (take l.fn.count l.fn.cells)

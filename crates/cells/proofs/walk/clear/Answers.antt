use Rattle.cells.proofs.Clearing.{cleared_more}
use Rattle.cells.proofs.walk.clear.Goals as goal
use Rattle.std.proofs.Common.{take, arith}

pub loop-cell-preserved : goal.loop-cell-preserved
loop-cell-preserved g c =
    cleared_more g.K.Reckoned.zero (take c.args.count c.args.cells.now) c.loop-cell.cell-items c.loop-cell.cell-index _ (omega arith) c.zero.ensures c.loop-cell.invariant

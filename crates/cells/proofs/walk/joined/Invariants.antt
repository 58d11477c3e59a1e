use Rattle.cells.proofs.Decoding.{summed}
use Rattle.cells.proofs.walk.joined.Given as goal
use Rattle.std.proofs.Common.{◌≡◌, ◌≤◌, length}

abbrev pub invariant-loop-left : goal.invariant-loop-left
invariant-loop-left g l =
    (l.left ≤ length l.cells)
    × (g.K.Reckoned.join (summed g.K.Reckoned l.cells l.left) l.sum ≡ summed g.K.Reckoned l.cells (length l.cells))

abbrev pub decreases-loop-left : goal.decreases-loop-left
decreases-loop-left g l = l.left

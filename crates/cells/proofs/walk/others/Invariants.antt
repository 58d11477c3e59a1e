use Rattle.std.proofs.Common.{◌≡◌, ◌-◌, ◌^◌, map}
use Rattle.cells.proofs.walk.others.Given as goal
use Rattle.cells.specs.Cells.{cell}
use Rattle.kinds.specs.Totals.{total}
use Rattle.std.specs.List.{range_with_len}

abbrev pub invariant-loop-t : goal.invariant-loop-t
invariant-loop-t g l = l.sum ≡ total g.K.Reckoned (map (λ t. cell g.K.Reckoned l.cells (l.place.number - 2 ^ t)) (range_with_len 0 l.t))

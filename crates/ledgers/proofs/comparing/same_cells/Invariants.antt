use Rattle.std.proofs.Common.{◌≡◌, ℕ, ◌<◌, length, get_or}
use Rattle.ledgers.proofs.comparing.same_cells.Given as goal

abbrev pub invariant-loop-cell : goal.invariant-loop-cell
invariant-loop-cell g l = (k : ℕ) → k < length l.yielded → get_or l.fn.cells k g.K.Reckoned.zero ≡ get_or l.fn.others k g.K.Reckoned.zero

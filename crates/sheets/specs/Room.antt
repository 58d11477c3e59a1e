-- The cell that is kept free for a parked amount. Assumes nothing.
use Rattle.std.specs.Prelude.{ℕ, Some, None, Option}

-- one while an amount is parked, so that restoring it finds a cell, else none
abbrev pub kept : {A : Type 0} → Option A → ℕ
kept None = 0
kept (Some t) = 1

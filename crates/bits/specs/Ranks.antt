-- How many ones stand before a bit. Assumes nothing.
use Rattle.std.specs.Prelude.{ℕ, ◌%◌, ◌^◌, count_ones}

-- how many of the first p bits of a number are ones
abbrev pub ones_before : ℕ → ℕ → ℕ
ones_before n p = count_ones (n % 2 ^ p)

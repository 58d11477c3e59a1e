-- How far the cell of a place reaches. Assumes nothing.
use Rattle.std.specs.Prelude.{◌≡◌, ℕ, ◌*◌, ◌^◌, ◌≤◌}
use Rattle.std.specs.Int.Count.{count_trailing_zeros}

-- l is the largest power of two that divides j
pub record LargestPower (l j : ℕ) : Type 0 where
  pub exponent : ℕ
  pub power : l ≡ 2 ^ exponent
  pub quotient : ℕ
  pub divides : j ≡ quotient * l
  pub largest : (e q : ℕ) → j ≡ q * 2 ^ e → 2 ^ e ≤ l

-- how often two divides a place below 2^32, and the largest power of two that does
abbrev pub twos : ℕ → ℕ
twos j = count_trailing_zeros 32 j

abbrev pub span : ℕ → ℕ
span j = 2 ^ twos j

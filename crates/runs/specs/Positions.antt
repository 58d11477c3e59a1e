-- Where a valve stands after a run of steps, and where two runs part. Assumes nothing.
use Rattle.std.specs.Prelude.{◌≡◌, ℕ, ◌<◌, ◌≤◌, List, length, take, Some, None, Option, Result}
use Rattle.kinds.specs.Steps.{reckoned}
use Rattle.kinds.specs.Totals.{total}
use Rattle.kinds.specs.declared.steps.Steps.{Steps}
use Rattle.kinds.specs.declared.refusal.Refusal.{Refusal}
use Rattle.runs.specs.Places.{total_at}
use Rattle.runs.specs.declared.parting.Parting.{Parting}

-- the position after i entries: the total of the first i
abbrev pub position_after : List Steps → ℕ → Steps
position_after xs i = total reckoned (take i xs)

-- what is answered of it: refused with 1 where there are not so many entries
abbrev pub position_at : List Steps → ℕ → Result Steps Refusal
position_at xs i = total_at reckoned xs i

-- the positions are equal after every number of entries below n
abbrev pub Together : List Steps → List Steps → ℕ → Type 0
Together xs ys n = (i : ℕ) → i < n → position_after xs i ≡ position_after ys i

-- p is the first number of entries, both runs having so many, after which the positions differ
pub record FirstParting (xs ys : List Steps) (p : Parting) : Type 0 where
  pub in_first : p.after ≤ length xs
  pub in_second : p.after ≤ length ys
  pub first : p.first ≡ position_after xs p.after
  pub second : p.second ≡ position_after ys p.after
  pub differ : p.first ≡ p.second → ⊥
  pub before : Together xs ys p.after

-- where two runs part, if they do while both have entries
abbrev pub Parts : List Steps → List Steps → Option Parting → Type 0
Parts xs ys (Some p) = FirstParting xs ys p
Parts xs ys None = (i : ℕ) → i ≤ length xs → i ≤ length ys → position_after xs i ≡ position_after ys i

-- Worked examples, put to the definitions themselves. Assumes nothing.
use Rattle.std.specs.Prelude.{◌≡◌, ℕ, ◌+◌, List, [], ◌∷◌, map, pos, negsuc, Ok, Err, codes}
use Rattle.kinds.specs.Refusals.{refusal}
use Rattle.kinds.specs.Steps.{zigzag}
use Rattle.kinds.specs.declared.refusal.Refusal.TheVariants.{NoPlace, NoRoom, NoMemory}
use Rattle.logs.specs.Logs.{lines}
use Rattle.runs.specs.Places.{part, entry_at, running, total_at}
use Rattle.tallies.specs.Tallies.{times, different}
use Rattle.kinds.specs.declared.laws.Reckoned.{Ghosts}

abbrev some : List ℕ
some = 7 ∷ 3 ∷ 7 ∷ 9 ∷ []

-- the numbers under addition serve as entries here: `inverse` is not used
abbrev sums : Ghosts ℕ
sums = record { zero = 0; join = λ a b. a + b; inverse = λ a. a }

pub record Examples : Type 0 where
  -- 0, −1, 1 and the largest and smallest step (`negsuc n` is −(n + 1))
  pub steps : map zigzag (pos 0 ∷ negsuc 0 ∷ pos 1 ∷ pos 2147483647 ∷ negsuc 2147483647 ∷ []) ≡ 0 ∷ 1 ∷ 2 ∷ 4294967294 ∷ 4294967295 ∷ []
  pub refusals : map refusal (1 ∷ 17 ∷ 24 ∷ []) ≡ NoPlace ∷ NoRoom ∷ NoMemory ∷ []
  pub excerpt : part some 1 2 ≡ 3 ∷ 7 ∷ []
  pub excerpt_past : part some 3 5 ≡ 9 ∷ []
  pub first : entry_at some 1 ≡ Ok 7
  pub last : entry_at some 4 ≡ Ok 9
  pub before_first : entry_at some 0 ≡ Err NoPlace
  pub past_last : entry_at some 5 ≡ Err NoPlace
  pub totals : running sums some ≡ 7 ∷ 10 ∷ 17 ∷ 26 ∷ []
  pub whole : total_at sums some 4 ≡ Ok 26
  pub too_many : total_at sums some 5 ≡ Err NoPlace
  pub twice : times 7 some ≡ 2
  pub never : times 8 some ≡ 0
  pub three : different some ≡ 3
  pub last_line_open : lines (53 ∷ 10 ∷ 45 ∷ 51 ∷ []) ≡ codes "5" ∷ codes "-3" ∷ []
  pub last_line_ended : lines (53 ∷ 10 ∷ 45 ∷ 51 ∷ 10 ∷ []) ≡ codes "5" ∷ codes "-3" ∷ []
  pub empty_line : lines (53 ∷ 10 ∷ 10 ∷ []) ≡ codes "5" ∷ [] ∷ []
  pub no_line : lines [] ≡ []

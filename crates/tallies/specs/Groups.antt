-- One number more in a list of groups, each a number with how often it came. Assumes nothing.
use Rattle.std.specs.Prelude.{◌≡◌, ℕ, ◌+◌, ◌-◌, ◌<◌, ◌≤◌, ◌⊎◌, List, [], ◌∷◌, ◌++◌, length, drop, Ok, Err, Result, ◌≢◌, slice_index_or, slice_set}
use Rattle.kinds.specs.Refusals.{refusal}
use Rattle.kinds.specs.declared.refusal.Refusal.{Refusal}
use Rattle.tallies.specs.declared.records.TallyRecord.{TallyRecord}

abbrev pub group : ℕ → ℕ → TallyRecord
group n t = record { number = n; times = t }

-- the last group, where there is one
abbrev pub last_of : List TallyRecord → TallyRecord
last_of gs = slice_index_or gs (length gs - 1) (group 0 0)

-- the last group is that number's and has grown by one
pub record Grown (gs : List TallyRecord) (n : ℕ) (after : List TallyRecord) : Type 0 where
  pub some : 0 < length gs
  pub same : (last_of gs).number ≡ n
  pub is : after ≡ slice_set gs (length gs - 1) (group n ((last_of gs).times + 1))

-- there was no group, or the last was another number's, and a new one stands behind it
pub record Begun (gs : List TallyRecord) (n : ℕ) (after : List TallyRecord) : Type 0 where
  pub other : 0 < length gs → (last_of gs).number ≢ n
  pub is : after ≡ gs ++ (group n 1 ∷ [])

abbrev pub Noted : List TallyRecord → ℕ → List TallyRecord → Type 0
Noted gs n after = Grown gs n after ⊎ Begun gs n after

-- all of the groups at the front of a table, or none of them where they are too many for it
abbrev pub Written : List TallyRecord → List TallyRecord → List TallyRecord → Result ℕ Refusal → Type 0
Written gs before after (Ok n) = (n ≡ length gs) × (n ≤ length before) × (after ≡ gs ++ drop n before)
Written gs before after (Err f) = (f ≡ refusal 17) × (length before < length gs) × (after ≡ before)

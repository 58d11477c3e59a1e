-- How often each number occurs, and the records that say so. Assumes nothing.
use Rattle.std.specs.Prelude.{◌≡◌, ℕ, ◌+◌, ◌<◌, ◌≤◌, cond, ◌⊎◌, List, [], ◌∷◌, length, take, drop, Ok, Err, sum_by, count_by, Result, nat_eq, nat_lt}
use Rattle.kinds.specs.Refusals.{refusal}
use Rattle.kinds.specs.declared.refusal.Refusal.{Refusal}
use Rattle.tallies.specs.declared.records.TallyRecord.{TallyRecord}
use Rattle.std.specs.List.{All}

-- how often n occurs in a list
abbrev pub times : ℕ → List ℕ → ℕ
times n ns = count_by (λ m. nat_eq n m) ns

-- how many records are for n
abbrev pub records_for : ℕ → List TallyRecord → ℕ
records_for n rs = count_by (λ (r : TallyRecord). nat_eq n r.number) rs

-- how many different numbers a list has: each is counted where it stands for the last time
abbrev pub different : List ℕ → ℕ
different [] = 0
different (n ∷ ns) = cond (nat_lt 0 (times n ns)) 0 1 + different ns

-- the records are a tally of the numbers of a run
pub record Tallied (ns : List ℕ) (rs : List TallyRecord) : Type 0 where
  -- no number has two records
  pub distinct : (n : ℕ) → records_for n rs ≤ 1
  -- every number of the run has one
  pub there : (n : ℕ) → 0 < times n ns → 0 < records_for n rs
  -- which says how often it occurs
  pub exact : All (λ (r : TallyRecord). r.times ≡ times r.number ns) rs
  -- and no other number has one
  pub used : All (λ (r : TallyRecord). 0 < r.times) rs
  -- the counts add up to the run's count
  pub adds_up : sum_by (λ (r : TallyRecord). r.times) rs ≡ length ns

-- what `tally` answers, and what the table of records then holds
abbrev pub Answered : List ℕ → List TallyRecord → List TallyRecord → Result ℕ Refusal → Type 0
Answered ns before after (Ok n) =
    (n ≡ different ns) × (n ≤ length before) × Tallied ns (take n after) × (drop n after ≡ drop n before)
Answered ns before after (Err f) =
    (after ≡ before) × (((f ≡ refusal 17) × (length before < different ns)) ⊎ (f ≡ refusal 24))

-- why a table does not take a tally: it has too few records, or there is no memory
abbrev pub Untallied : List ℕ → List TallyRecord → Refusal → Type 0
Untallied ns table f = ((f ≡ refusal 17) × (length table < different ns)) ⊎ (f ≡ refusal 24)

-- a record of nothing
abbrev pub blank : TallyRecord
blank = record { number = 0; times = 0 }

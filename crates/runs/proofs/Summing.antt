-- The totals of a run, one entry after another. Assumes nothing.
use Rattle.std.proofs.Common.{◌≡◌, ℕ, ◌+◌, ◌<◌, ◌≤◌, List, [], ◌∷◌, ◌++◌, map, length, take, Ok, Err, sym, ap, ◌∙◌, arith, le-leb}
use Rattle.kinds.proofs.Joins.{total_next}
use Rattle.kinds.specs.Totals.{total, Group}
use Rattle.kinds.specs.declared.laws.Reckoned.{Ghosts}
use Rattle.kinds.specs.declared.refusal.Refusal.TheVariants.{NoPlace}
use Rattle.runs.proofs.Placed.{entry_next}
use Rattle.runs.specs.Places.{entry_at, running, total_at}
use Rattle.std.proofs.lemmas.List.FromFn.{map-range_with_len_more}
use Rattle.std.specs.List.{range_with_len}
use borrow.Author.Tests.{lt-leb}

module _ {K : Type 0} (R : Ghosts K) (xs : List K) (i : ℕ) where
  -- the next entry joined to the total before it
  pub total_read : (e s : K) → Group R → i < length xs → entry_at xs (i + 1) ≡ Ok e → s ≡ total R (take i xs) → R.join s e ≡ total R (take (i + 1) xs)
  total_read e s laws within is sum =
      ap (λ t. R.join t e) sum ∙ sym (total_next laws xs i e within (entry_next xs i e within is))

  -- one total more
  pub running_more : (ts : List K) (t : K) → ts ≡ map (λ j. total R (take j xs)) (range_with_len 1 i) → t ≡ total R (take (i + 1) xs) → ts ++ (t ∷ []) ≡ map (λ j. total R (take j xs)) (range_with_len 1 (i + 1))
  running_more ts t before here =
      let f : ℕ → K = λ j. total R (take j xs) in
      ap (λ l. l ++ (t ∷ [])) before
      ∙ ap (λ y. map f (range_with_len 1 i) ++ (y ∷ [])) here
      ∙ sym (map-range_with_len_more f 1 i (i + 1) (omega arith))

-- all the totals
pub running_all : {K : Type 0} (R : Ghosts K) (xs ts : List K) (n : ℕ) → n ≡ length xs → ts ≡ map (λ j. total R (take j xs)) (range_with_len 1 n) → ts ≡ running R xs
unfolding running
running_all R xs ts n whole is = is ∙ ap (λ m. map (λ j. total R (take j xs)) (range_with_len 1 m)) whole

-- the total of the first i entries, where there are so many and where not
pub total_there : {K : Type 0} (R : Ghosts K) (xs : List K) (i : ℕ) → i ≤ length xs → total_at R xs i ≡ Ok (total R (take i xs))
unfolding total_at
total_there R xs i h = rw (le-leb i (length xs) h)

pub total_past : {K : Type 0} (R : Ghosts K) (xs : List K) (i : ℕ) → length xs < i → total_at R xs i ≡ Err NoPlace
unfolding total_at
total_past R xs i h = rw (lt-leb i (length xs) h)

-- Reading a run at a place, and its totals on the way. Assumes nothing.
use Rattle.std.specs.Prelude.{ℕ, zero, suc, cond, List, map, length, take, drop, Ok, Err, Result, nat_le}
use Rattle.kinds.specs.Refusals.{refusal}
use Rattle.kinds.specs.Totals.{total}
use Rattle.kinds.specs.declared.refusal.Refusal.{Refusal}
use Rattle.kinds.specs.declared.laws.Reckoned.{Ghosts}
use Rattle.std.specs.List.{slice_get, range_with_len}
use Rattle.std.specs.Option.{ok_or}

-- a table as a run: its first 4,294,967,295 entries, the most that a run has
unfoldable pub cut : {K : Type 0} → List K → List K
cut xs = take 4_294_967_295 xs

-- an excerpt: without the first a entries, and of the rest the first m, or all if there are fewer
abbrev pub part : {K : Type 0} → List K → ℕ → ℕ → List K
part xs a m = take m (drop a xs)

-- what is left of a run after its first so many entries
abbrev pub left : {K : Type 0} → List K → ℕ → List K
left xs n = drop n xs

-- what a run answers of a place: places count from 1, and where no entry stands it is refused with 1
unfoldable pub entry_at : {K : Type 0} → List K → ℕ → Result K Refusal
entry_at xs zero = Err (refusal 1)
entry_at xs (suc i) = ok_or (slice_get xs i) (refusal 1)

-- the totals of the first 1, 2, 3 .. entries
unfoldable pub running : {K : Type 0} → Ghosts K → List K → List K
running R xs = map (λ i. total R (take i xs)) (range_with_len 1 (length xs))

-- the total of the first i entries, refused with 1 where there are not so many
unfoldable pub total_at : {K : Type 0} → Ghosts K → List K → ℕ → Result K Refusal
total_at R xs i = cond (nat_le i (length xs)) (Ok (total R (take i xs))) (Err (refusal 1))

-- No run has more than 4,294,967,295 entries: the facts that the runs of this crate owe. Assumes nothing.
use Rattle.std.specs.Prelude.{ℕ, ◌^◌, ◌<◌, List, length, drop}
use Rattle.runs.specs.Places.{cut, part}
use Rattle.std.proofs.lemmas.List.{length-take, length-drop}
use Rattle.std.proofs.Common.{arith}

-- a table is cut to so many
pub cut_few : {K : Type 0} (xs : List K) → length (cut xs) < 2 ^ 32
unfolding cut
cut_few xs = omega (arith, length-take 4_294_967_295 xs)

-- a part has no more entries than the whole
pub part_few : {K : Type 0} (xs : List K) (a m : ℕ) → length xs < 2 ^ 32 → length (part xs a m) < 2 ^ 32
part_few xs a m h = omega (arith, length-take m (drop a xs), length-drop a xs)

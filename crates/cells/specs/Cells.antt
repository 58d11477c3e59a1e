-- What the cells of a binary Fenwick tree hold, and which entries they stand for. Assumes nothing.
use Rattle.std.specs.Prelude.{◌≡◌, ℕ, ◌-◌, ◌^◌, ◌<◌, ◌≤◌, min, List, map, length, drop, vec_items, vec_len, slice_index_or}
use Rattle.cells.specs.Spans.{LargestPower, twos, span}
use Rattle.cells.specs.declared.table.Cells.{Cells}
use Rattle.kinds.specs.Totals.{total}
use Rattle.kinds.specs.declared.laws.Reckoned.{Ghosts}
use Rattle.runs.specs.Places.{part}
use Rattle.std.specs.List.{range_with_len}

-- the most cells that a table has as its own
abbrev pub limit : ℕ
limit = 1_048_576

-- how many cells a table of so many has as its own
abbrev pub own : ℕ → ℕ
own n = min n limit

-- the cell of a place, places counted from 1
abbrev pub cell : {K : Type 0} → Ghosts K → List K → ℕ → K
cell R cells j = slice_index_or cells (j - 1) R.zero

-- every cell holds what its place asks for: the cell of place j the join of the entries from j − l + 1 to j, where l is
-- the largest power of two that divides j, and each cell past the last entry zero
pub record Right {K : Type 0} (R : Ghosts K) (entries cells : List K) : Type 0 where
  pub each : (j l : ℕ) → 0 < j → j ≤ length entries → LargestPower l j → cell R cells j ≡ total R (part entries (j - l) l)
  pub past : (j : ℕ) → length entries < j → j ≤ own (length cells) → cell R cells j ≡ R.zero

-- what the cell of place j holds besides the entry there: the cells of the places 1, 2, 4 .. before it, as far as it reaches
abbrev pub besides : {K : Type 0} → Ghosts K → List K → ℕ → K
besides R cells j = total R (map (λ t. cell R cells (j - 2 ^ t)) (range_with_len 0 (twos j)))

-- the entries that the first n cells stand for
unfoldable pub decoded : {K : Type 0} → Ghosts K → List K → ℕ → List K
decoded R cells n = map (λ j. R.join (cell R cells j) (R.inverse (besides R cells j))) (range_with_len 1 n)

-- an amount joined to the entry at place p of n: the cells that have that entry take it up, and no others change
pub record Raised {K : Type 0} (R : Ghosts K) (old new : List K) (n p : ℕ) (amount : K) : Type 0 where
  pub long : length new ≡ length old
  pub having : (j : ℕ) → j - span j < p → p ≤ j → j ≤ n → cell R new j ≡ R.join (cell R old j) amount
  pub before : (j : ℕ) → 0 < j → j < p → cell R new j ≡ cell R old j
  pub lacking : (j : ℕ) → p ≤ j - span j → cell R new j ≡ cell R old j
  pub after : drop n new ≡ drop n old

-- the entries of a tree
abbrev pub written : {K : Type 0} → Ghosts K → Cells K → List K
written R s = decoded R (vec_items s.table) s.count

-- the cells past the last entry hold zero
abbrev pub Clean : {K : Type 0} → Ghosts K → Cells K → Type 0
Clean R s = (j : ℕ) → s.count < j → j ≤ own (vec_len s.table) → cell R (vec_items s.table) j ≡ R.zero

-- what no call alters: how long the table is, and what lies past the first 1,048,576; and cells past the last entry that
-- hold zero still do
pub record SameTable {K : Type 0} (R : Ghosts K) (s t : Cells K) : Type 0 where
  pub cells : vec_len t.table ≡ vec_len s.table
  pub beyond : drop limit (vec_items t.table) ≡ drop limit (vec_items s.table)
  pub clean : Clean R s → Clean R t

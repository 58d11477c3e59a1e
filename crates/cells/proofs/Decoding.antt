-- Which entries cells stand for, and that they hold what their places ask for. Assumes nothing.
use Rattle.std.proofs.Common.{◌≡◌, ℕ, zero, suc, ◌+◌, ◌-◌, ◌^◌, ◌<◌, ◌≤◌, ◌⊎◌, List, [], ◌∷◌, ◌++◌, map, length, get_or, take, drop, sym, refl, ap, ◌∙◌, inl, inr, arith}
use Rattle.cells.proofs.Reach.{span_pos, span_le, twos_before, largest_span}
use Rattle.cells.specs.Cells.{cell, besides, decoded}
use Rattle.cells.specs.Spans.{LargestPower, twos, span}
use Rattle.kinds.proofs.Joins.{total-append, total-push, total_next, cancel_left, made_good}
use Rattle.kinds.specs.Totals.{total, Group}
use Rattle.kinds.specs.declared.laws.Reckoned.{Ghosts}
use Rattle.runs.specs.Places.{part}
use Rattle.std.proofs.lemmas.List.FromFn.{map-range_with_len_more, length-map-range_with_len, take-map-range_with_len, get_or-map-range_with_len}
use Rattle.std.proofs.lemmas.List.{same_lists, get_or_default, take-append-drop, drop-take, take-take}
use Rattle.std.proofs.lemmas.Bool.{cases_lt}
use Rattle.std.specs.List.{range_with_len}
use lib.Pow.{pow-lt}

-- a power of two before a place lies within its reach
pub power_within : (j t : ℕ) → 0 < j → j < 2 ^ 32 → t < twos j → 2 ^ t < j
power_within j t pos few less = omega (arith, pow-lt less, span_le j pos few)

module _ {K : Type 0} (R : Ghosts K) where
  -- f is the running total: each cell joined to the total before its reach is the total at its place
  abbrev pub Runs : (ℕ → K) → List K → ℕ → Type 0
  Runs f cells n = (j : ℕ) → 0 < j → j ≤ n → R.join (f (j - span j)) (cell R cells j) ≡ f j

  -- the total of the entries that the first j cells stand for
  abbrev pub summed : List K → ℕ → K
  summed cells j = total R (decoded R cells j)

  -- the first t of the cells that the cell of place j has besides its own entry
  abbrev some_besides : List K → ℕ → ℕ → K
  some_besides cells j t = total R (map (λ u. cell R cells (j - 2 ^ u)) (range_with_len 0 t))

  pub length-decoded : (cells : List K) (n : ℕ) → length (decoded R cells n) ≡ n
  unfolding decoded
  length-decoded cells n = length-map-range_with_len _ 1 n

  pub summed_none : (cells : List K) → summed cells 0 ≡ R.zero
  unfolding decoded
  summed_none cells = refl

  pub take-decoded : (cells : List K) (n i : ℕ) → i ≤ n → take i (decoded R cells n) ≡ decoded R cells i
  unfolding decoded
  take-decoded cells n i h = take-map-range_with_len _ 1 n i h

  -- the entry of a place
  pub decoded_at : (cells : List K) (n p : ℕ) (d : K) → 0 < p → p ≤ n → get_or (decoded R cells n) (p - 1) d ≡ R.join (cell R cells p) (R.inverse (besides R cells p))
  unfolding decoded
  decoded_at cells n p d pos within = get_or-map-range_with_len _ 1 n (p - 1) p d (omega arith) (omega arith)

  pub decoded_more : (cells : List K) (n : ℕ) → decoded R cells (n + 1) ≡ decoded R cells n ++ (R.join (cell R cells (n + 1)) (R.inverse (besides R cells (n + 1))) ∷ [])
  unfolding decoded
  decoded_more cells n = map-range_with_len_more _ 1 n (n + 1) (omega arith)

  module _ (laws : Group R) where
    -- one cell more of those before a place
    pub besides_more : (cells : List K) (j t : ℕ) (s x : K) → s ≡ some_besides cells j t → x ≡ cell R cells (j - 2 ^ t) → R.join s x ≡ some_besides cells j (t + 1)
    besides_more cells j t s x sum read =
        let f : ℕ → K = λ u. cell R cells (j - 2 ^ u) in
        ap (λ y. R.join y x) sum
        ∙ ap (R.join (total R (map f (range_with_len 0 t)))) read
        ∙ sym (total-push laws (map f (range_with_len 0 t)) (f t))
        ∙ ap (total R) (sym (map-range_with_len_more f 0 t t (omega arith)))

    module _ (f : ℕ → K) (cells : List K) (j : ℕ) (pos : 0 < j) (few : j < 2 ^ 32) (runs : Runs f cells (j - 1)) where
      back : (t : ℕ) → t ≤ twos j → R.join (f (j - 2 ^ t)) (some_besides cells j t) ≡ f (j - 1)
      back zero h = laws.right (f (j - 2 ^ zero))
      back (suc t) h =
          let i = j - 2 ^ t in
          let less : 2 ^ t < j = power_within j t pos few (omega arith) in
          let reach : span i ≡ 2 ^ t = ap (λ u. 2 ^ u) (twos_before j t pos few (omega arith)) in
          let there : j - 2 ^ suc t ≡ i - span i = omega arith in
          let T = some_besides cells j t in
          let next : suc t ≡ t + 1 = omega arith in
          let more : some_besides cells j (suc t) ≡ R.join T (cell R cells i) = ap (some_besides cells j) next ∙ sym (besides_more cells j t T (cell R cells i) refl refl) in
          ap (λ y. R.join (f y) (some_besides cells j (suc t))) there
          ∙ ap (R.join (f (i - span i))) (more ∙ laws.commutative T (cell R cells i))
          ∙ sym (laws.associative (f (i - span i)) (cell R cells i) T)
          ∙ ap (λ y. R.join y T) (runs i (omega arith) (omega (arith, span_pos i)))
          ∙ back t (omega arith)

      -- the total before the reach and what the cell has besides come to the total just before the place
      pub besides_runs : R.join (f (j - span j)) (besides R cells j) ≡ f (j - 1)
      besides_runs = back (twos j) (omega arith)

    -- cells run by the totals of the entries that they stand for
    pub summed_runs : (cells : List K) (n : ℕ) → n < 2 ^ 32 → Runs (summed cells) cells n
    summed_runs cells zero few j pos within = absurd (omega arith)
    summed_runs cells (suc n) few j pos within = go (cases_lt n j) (summed_runs cells n (omega arith))
      where
        go : (n < j) ⊎ (j ≤ n) → Runs (summed cells) cells n → R.join (summed cells (j - span j)) (cell R cells j) ≡ summed cells j
        go (inr h) ih = ih j pos h
        go (inl h) ih =
            let last : j ≡ n + 1 = omega arith in
            let B = besides R cells j in
            let before : n ≡ j - 1 = omega arith in
            let back = besides_runs (summed cells) cells j pos (omega arith) (λ i p w. ih i p (omega arith)) in
            sym (ap (summed cells) last
            ∙ ap (total R) (decoded_more cells n)
            ∙ total-push laws (decoded R cells n) _
            ∙ ap (λ y. R.join (summed cells n) (R.join (cell R cells y) (R.inverse (besides R cells y)))) (sym last)
            ∙ ap (λ y. R.join y (R.join (cell R cells j) (R.inverse B))) (ap (summed cells) before ∙ sym back)
            ∙ laws.associative (summed cells (j - span j)) B (R.join (cell R cells j) (R.inverse B))
            ∙ ap (R.join (summed cells (j - span j))) (made_good laws B (cell R cells j)))

    -- what runs the cells from zero is their total
    pub runs_summed : (f : ℕ → K) (cells : List K) (n : ℕ) → n < 2 ^ 32 → f 0 ≡ R.zero → Runs f cells n → (m j : ℕ) → j ≤ m → m ≤ n → f j ≡ summed cells j
    runs_summed f cells n few start runs m zero h w = start ∙ sym (summed_none cells)
    runs_summed f cells n few start runs zero (suc j) h w = absurd (omega arith)
    runs_summed f cells n few start runs (suc m) (suc j) h w =
        let p = suc j in
        let ih = runs_summed f cells n few start runs m (p - span p) (omega (arith, span_pos p)) (omega arith) in
        sym (runs p (omega arith) (omega arith))
        ∙ ap (λ y. R.join y (cell R cells p)) ih
        ∙ summed_runs cells n few p (omega arith) (omega arith)

    -- lists with equal totals on the way are equal
    pub equal_totals : (xs ys : List K) → length xs ≡ length ys → ((j : ℕ) → j ≤ length xs → total R (take j xs) ≡ total R (take j ys)) → xs ≡ ys
    equal_totals xs ys long same = same_lists xs ys long each
      where
        each : (k : ℕ) (d : K) → k < length xs → get_or xs k d ≡ get_or ys k d
        each k d h =
            let x = get_or xs k d in
            let y = get_or ys k d in
            let left = total_next laws xs k x h (get_or_default xs k d x h) in
            let h' : k < length ys = omega arith in
            let right = total_next laws ys k y h' (get_or_default ys k d y h') in
            cancel_left laws (total R (take k xs)) x y
            (sym left ∙ same (k + 1) (omega arith) ∙ right ∙ ap (λ z. R.join z y) (sym (same k (omega arith))))

    -- the entries are those whose totals run the cells
    pub decoded_is : (xs cells : List K) (n : ℕ) → length xs ≡ n → n < 2 ^ 32 → Runs (λ j. total R (take j xs)) cells n → decoded R cells n ≡ xs
    decoded_is xs cells n long few runs =
        sym (equal_totals xs (decoded R cells n) (long ∙ sym (length-decoded cells n)) (λ j h.
        runs_summed (λ j. total R (take j xs)) cells n few refl runs n j (omega arith) (omega arith)
        ∙ ap (total R) (sym (take-decoded cells n j (omega arith)))))

    -- every cell up to the last entry holds what its place asks for
    pub cell_right : (cells : List K) (n j l : ℕ) → n < 2 ^ 32 → 0 < j → j ≤ n → LargestPower l j → cell R cells j ≡ total R (part (decoded R cells n) (j - l) l)
    cell_right cells n j l few pos within power =
        let xs = decoded R cells n in
        let reach : l ≡ span j = largest_span l j pos (omega arith) power in
        let fits : j - l + l ≡ j = omega (arith, span_le j pos (omega arith)) in
        let a = j - l in
        let front : take a (take (a + l) xs) ≡ decoded R cells (j - span j) = take-take a (a + l) xs (omega arith) ∙ take-decoded cells n a (omega arith) ∙ ap (λ m. decoded R cells (j - m)) reach in
        let whole : total R (take (a + l) xs) ≡ R.join (summed cells (j - span j)) (total R (part xs a l)) = ap (total R) (sym (take-append-drop a (take (a + l) xs))) ∙ total-append laws (take a (take (a + l) xs)) (drop a (take (a + l) xs)) ∙ ap (λ y. R.join (total R y) (total R (drop a (take (a + l) xs)))) front ∙ ap (λ y. R.join (summed cells (j - span j)) (total R y)) (drop-take a l xs) in
        cancel_left laws (summed cells (j - span j)) (cell R cells j) (total R (part xs a l))
        (summed_runs cells n few j pos within
        ∙ ap (total R) (sym (take-decoded cells n j within) ∙ ap (λ m. take m xs) (sym fits))
        ∙ whole)

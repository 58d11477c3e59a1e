-- Setting the first cells of a table to zero. Assumes nothing.
use Rattle.std.proofs.Common.{◌≡◌, ℕ, ◌+◌, ◌-◌, ◌<◌, ◌≤◌, List, [], ◌∷◌, ◌++◌, length, get_or, drop, set, replicate, sym, ap, ◌∙◌, arith}
use Rattle.cells.specs.Cells.{own, limit}
use Rattle.std.proofs.lemmas.List.{set-append_right, drop_more, replicate_more, append_assoc, length-replicate, get_or_append_left, get_or-replicate, length-append, length-drop}
use Rattle.std.proofs.lemmas.Slice.{drop-append-drop}

module _ {K : Type 0} (z : K) (xs : List K) where
  -- one cell more
  pub cleared_more : (ys : List K) (i : ℕ) (v : K) → i < length xs → v ≡ z → ys ≡ replicate i z ++ drop i xs → set ys i v ≡ replicate (i + 1) z ++ drop (i + 1) xs
  cleared_more ys i v within zero so =
      ap (λ l. set l i v) (so ∙ ap (λ l. replicate i z ++ l) (drop_more xs i z within))
      ∙ set-append_right (replicate i z) (get_or xs i z ∷ drop (i + 1) xs) i i v (length-replicate i z) (omega arith)
      ∙ ap (λ k. replicate i z ++ set (get_or xs i z ∷ drop (i + 1) xs) k v) here
      ∙ ap (λ y. replicate i z ++ (y ∷ drop (i + 1) xs)) zero
      ∙ sym (append_assoc (replicate i z) (z ∷ []) (drop (i + 1) xs))
      ∙ ap (λ l. l ++ drop (i + 1) xs) (replicate_more i z)
    where
      here : i - i ≡ 0
      here = omega arith

  -- the cells that were set
  pub cleared_at : (n j : ℕ) → 0 < j → j ≤ n → get_or (replicate n z ++ drop n xs) (j - 1) z ≡ z
  cleared_at n j first last =
      get_or_append_left (replicate n z) (drop n xs) z (j - 1) (omega (arith, length-replicate n z)) ∙ get_or-replicate n (j - 1) z z (omega arith)

  -- and what lies past the table's own
  pub cleared_beyond : drop limit (replicate (own (length xs)) z ++ drop (own (length xs)) xs) ≡ drop limit xs
  cleared_beyond = drop-append-drop (own (length xs)) xs (replicate (own (length xs)) z) limit (omega arith) (length-replicate (own (length xs)) z)

  pub cleared_long : length (replicate (own (length xs)) z ++ drop (own (length xs)) xs) ≡ length xs
  cleared_long =
      length-append (replicate (own (length xs)) z) (drop (own (length xs)) xs)
      ∙ omega (arith, length-replicate (own (length xs)) z, length-drop (own (length xs)) xs)

-- What altering cells does to the entries that they stand for. Assumes nothing.
use Rattle.std.proofs.Common.{◌≡◌, ℕ, ◌+◌, ◌-◌, ◌^◌, ◌<◌, ◌≤◌, ◌⊎◌, List, [], ◌∷◌, ◌++◌, map, length, get_or, take, drop, set, sym, refl, ap, ◌∙◌, inl, inr, arith, pow_pos}
use Rattle.cells.proofs.Decoding.{summed, summed_runs, decoded_is, length-decoded, take-decoded, decoded_more, power_within}
use Rattle.cells.proofs.Reach.{span_pos, span_le, span_next, span_between}
use Rattle.cells.specs.Cells.{cell, besides, decoded, Raised}
use Rattle.cells.specs.Spans.{twos, span}
use Rattle.kinds.proofs.Joins.{swap_last, part_is, total-shift}
use Rattle.kinds.specs.Totals.{total, Group}
use Rattle.kinds.specs.declared.laws.Reckoned.{Ghosts}
use Rattle.std.proofs.lemmas.List.FromFn.{length-map-range_with_len, get_or-map-range_with_len}
use Rattle.std.proofs.lemmas.List.{same_lists, length-take, get_or-take, length-set, take-set-le, get_or-set_same, get_or-set_other, drop-set-lt}
use Rattle.std.proofs.lemmas.Bool.{cases_lt, cases_order}
use Rattle.std.specs.List.{range_with_len}
use lib.Seq.{take-set-lt}

-- lists made from functions that agree
same_made : {X : Type 0} (f g : ℕ → X) (a n : ℕ) → ((i : ℕ) → a ≤ i → i < a + n → f i ≡ g i) → map f (range_with_len a n) ≡ map g (range_with_len a n)
same_made f g a n same =
    same_lists (map f (range_with_len a n)) (map g (range_with_len a n)) (length-map-range_with_len f a n ∙ sym (length-map-range_with_len g a n)) (λ k d h.
    let h' : k < n = omega (arith, length-map-range_with_len f a n) in
    get_or-map-range_with_len f a n k (a + k) d h' refl ∙ same (a + k) (omega arith) (omega arith) ∙ sym (get_or-map-range_with_len g a n k (a + k) d h' refl))

module _ {K : Type 0} (R : Ghosts K) where
  -- cells before a place that agree
  pub besides_same : (old new : List K) (j : ℕ) → 0 < j → j < 2 ^ 32 → ((i : ℕ) → 0 < i → i < j → cell R new i ≡ cell R old i) → besides R new j ≡ besides R old j
  besides_same old new j pos few same =
      ap (total R) (same_made (λ t. cell R new (j - 2 ^ t)) (λ t. cell R old (j - 2 ^ t)) 0 (twos j) (λ t low high.
      same (j - 2 ^ t) (omega (arith, power_within j t pos few (omega arith))) (omega (arith, power_within j t pos few (omega arith), pow_pos t))))

  -- the entries that cells stand for rest on no later cells
  pub decoded_same : (old new : List K) (n : ℕ) → n < 2 ^ 32 → ((i : ℕ) → 0 < i → i ≤ n → cell R new i ≡ cell R old i) → decoded R new n ≡ decoded R old n
  unfolding decoded
  decoded_same old new n few same =
      same_made _ _ 1 n (λ j low high.
      ap (λ c. R.join c (R.inverse (besides R new j))) (same j (omega arith) (omega arith))
      ∙ ap (λ b. R.join (cell R old j) (R.inverse b)) (besides_same old new j (omega arith) (omega arith) (λ i p h. same i p (omega arith))))

  -- so the first n cells alone stand for the first n entries
  pub decoded_front : (cells : List K) (n : ℕ) → n < 2 ^ 32 → n ≤ length cells → decoded R (take n cells) (length (take n cells)) ≡ decoded R cells n
  decoded_front cells n few within =
      let long : length (take n cells) ≡ n = omega (arith, length-take n cells) in
      ap (decoded R (take n cells)) long ∙ decoded_same cells (take n cells) n few (λ i pos last. get_or-take n cells (i - 1) R.zero (omega arith))

  module _ (laws : Group R) where
    -- one entry more: the next cell joins it to what it has besides
    pub decoded_push : (old new : List K) (n : ℕ) (e : K) → n + 1 < 2 ^ 32 → ((i : ℕ) → 0 < i → i ≤ n → cell R new i ≡ cell R old i) → cell R new (n + 1) ≡ R.join (besides R old (n + 1)) e → decoded R new (n + 1) ≡ decoded R old n ++ (e ∷ [])
    decoded_push old new n e few same last =
        let B = besides R old (n + 1) in
        let others : besides R new (n + 1) ≡ B = besides_same old new (n + 1) (omega arith) few (λ i p h. same i p (omega arith)) in
        decoded_more R new n
        ∙ ap (λ xs. xs ++ (R.join (cell R new (n + 1)) (R.inverse (besides R new (n + 1))) ∷ [])) (decoded_same old new n (omega arith) same)
        ∙ ap (λ y. decoded R old n ++ (y ∷ [])) (ap (λ b. R.join (cell R new (n + 1)) (R.inverse b)) others ∙ sym (part_is laws B e (cell R new (n + 1)) (sym last)))

    -- the totals of a list with an amount joined to one entry
    total_raised : (xs : List K) (i j : ℕ) (x a : K) → i < length xs → i < j → x ≡ get_or xs i x → total R (take j (set xs i (R.join x a))) ≡ R.join (total R (take j xs)) a
    total_raised xs i j x a within less read =
        ap (total R) (take-set-lt j xs i (R.join x a) less)
        ∙ total-shift laws (take j xs) i x a (omega (arith, length-take j xs)) (read ∙ sym (get_or-take j xs i x less))

    module _ (old new : List K) (n p : ℕ) (x a : K) (few : n < 2 ^ 32) (pos : 0 < p) (within : p ≤ n)
        (raised : Raised R old new n p a) (read : x ≡ get_or (decoded R old n) (p - 1) x) where
      abbrev entries : List K
      entries = set (decoded R old n) (p - 1) (R.join x a)

      early : (j : ℕ) → j < p → total R (take j entries) ≡ summed R old j
      early j h =
          ap (total R) (take-set-le j (decoded R old n) (p - 1) (R.join x a) (omega arith) ∙ take-decoded R old n j (omega arith))

      late : (j : ℕ) → p ≤ j → j ≤ n → total R (take j entries) ≡ R.join (summed R old j) a
      late j h w =
          total_raised (decoded R old n) (p - 1) j x a (omega (arith, length-decoded R old n)) (omega arith) read
          ∙ ap (λ l. R.join (total R l) a) (take-decoded R old n j w)

      at : (j : ℕ) → 0 < j → j ≤ n → (j < p) ⊎ (p ≤ j) → (j - span j < p) ⊎ (p ≤ j - span j) → R.join (total R (take (j - span j) entries)) (cell R new j) ≡ total R (take j entries)
      at j first last (inl h) k =
          ap (λ t. R.join t (cell R new j)) (early (j - span j) (omega arith))
          ∙ ap (R.join (summed R old (j - span j))) (raised.before j first h)
          ∙ summed_runs R laws old n few j first last
          ∙ sym (early j h)
      at j first last (inr h) (inl k) =
          ap (λ t. R.join t (cell R new j)) (early (j - span j) k)
          ∙ ap (R.join (summed R old (j - span j))) (raised.having j k h last)
          ∙ sym (laws.associative (summed R old (j - span j)) (cell R old j) a)
          ∙ ap (λ t. R.join t a) (summed_runs R laws old n few j first last)
          ∙ sym (late j h last)
      at j first last (inr h) (inr k) =
          ap (λ t. R.join t (cell R new j)) (late (j - span j) k (omega arith))
          ∙ ap (R.join (R.join (summed R old (j - span j)) a)) (raised.lacking j k)
          ∙ swap_last laws (summed R old (j - span j)) a (cell R old j)
          ∙ ap (λ t. R.join t a) (summed_runs R laws old n few j first last)
          ∙ sym (late j h last)

      -- an amount joined to one entry
      pub decoded_raised : decoded R new n ≡ set (decoded R old n) (p - 1) (R.join x a)
      decoded_raised =
          decoded_is R laws entries new n (length-set (decoded R old n) (p - 1) _ ∙ length-decoded R old n) few
          (λ j first last. at j first last (cases_lt j p) (cases_lt (j - span j) p))

-- the cells while an amount is joined to those that have the entry at place p, up to the next of them
pub record Raising {K : Type 0} (R : Ghosts K) (old new : List K) (n p : ℕ) (a : K) (next : ℕ) : Type 0 where
  pub long : length new ≡ length old
  pub has : next - span next < p
  pub from : p ≤ next
  pub having : (j : ℕ) → j - span j < p → p ≤ j → j ≤ n → j < next → cell R new j ≡ R.join (cell R old j) a
  pub before : (j : ℕ) → 0 < j → j < p → cell R new j ≡ cell R old j
  pub lacking : (j : ℕ) → p ≤ j - span j → cell R new j ≡ cell R old j
  pub later : (j : ℕ) → next ≤ j → cell R new j ≡ cell R old j
  pub after : drop n new ≡ drop n old

module _ {K : Type 0} (R : Ghosts K) (old : List K) (n p : ℕ) (a : K) (pos : 0 < p) where
  pub raising_none : Raising R old old n p a p
  raising_none =
      record {
        long = refl;
        has = omega (arith, span_pos p);
        from = omega arith;
        having = λ j _ from _ next. absurd (omega arith);
        before = λ _ _ _. refl;
        lacking = λ _ _. refl;
        later = λ _ _. refl;
        after = refl;
      }

  -- past the last place
  pub raising_all : (new : List K) (next : ℕ) → n < next → Raising R old new n p a next → Raised R old new n p a
  raising_all new next past r =
      record {
        long = r.long;
        having = λ j has from within. r.having j has from within (omega arith);
        before = r.before;
        lacking = r.lacking;
        after = r.after;
      }

  -- one cell more
  pub raising_more : (new : List K) (next : ℕ) (v : K) → n ≤ length old → n < 2 ^ 32 → next ≤ n → v ≡ R.join (cell R new next) a → Raising R old new n p a next → Raising R old (set new (next - 1) v) n p a (next + span next)
  raising_more new next v room few within value r =
      let sp = span_next next (omega (arith, r.from)) (omega arith) in
      let le = span_le next (omega (arith, r.from)) (omega arith) in
      record {
        long = length-set new (next - 1) v ∙ r.long;
        has = omega (arith, r.has);
        from = omega (arith, r.from);
        having = λ j has from last less. at j has from last less (cases_order j next);
        before = λ j first h. other j first (omega (arith, r.from)) ∙ r.before j first h;
        lacking = λ j h. other j (omega arith) (distinct j h) ∙ r.lacking j h;
        later = λ j h. other j (omega (arith, r.from)) (λ e. omega (arith, span_pos next)) ∙ r.later j (omega arith);
        after = drop-set-lt n new (next - 1) v (omega (arith, r.from)) ∙ r.after;
      }
    where
      other : (j : ℕ) → 0 < j → (j ≡ next → ⊥) → cell R (set new (next - 1) v) j ≡ cell R new j
      other j first differ = get_or-set_other new (next - 1) (j - 1) v R.zero (λ e. differ (omega (arith, r.from)))

      distinct : (j : ℕ) → p ≤ j - span j → j ≡ next → ⊥
      distinct j h e = omega (arith, r.has, ap (λ k. k - span k) e)

      at : (j : ℕ) → j - span j < p → p ≤ j → j ≤ n → j < next + span next → (j ≡ next) ⊎ ((j < next) ⊎ (next < j)) → cell R (set new (next - 1) v) j ≡ R.join (cell R old j) a
      at j has from last less (inl e) =
          ap (λ k. cell R (set new (next - 1) v) k) e
          ∙ get_or-set_same new (next - 1) v R.zero (omega (arith, r.from, r.long))
          ∙ value
          ∙ ap (λ c. R.join c a) (r.later next (omega arith))
          ∙ ap (λ k. R.join (cell R old k) a) (sym e)
      at j has from last less (inr (inl h)) = other j (omega arith) (λ e. omega arith) ∙ r.having j has from last h
      at j has from last less (inr (inr h)) =
          absurd (omega (arith, span_between next j (omega (arith, r.from)) (omega arith) h less, r.from))

-- What one write to the table does to a tree. Assumes nothing.
use Rattle.std.proofs.Common.{◌≡◌, ℕ, ◌+◌, ◌-◌, ◌<◌, ◌≤◌, ◌⊎◌, List, [], ◌∷◌, ◌++◌, get_or, take, drop, set, Ok, vec_items, vec_len, sym, ap, ◌∙◌, inl, inr, arith}
use Rattle.cells.proofs.Decoding.{length-decoded, take-decoded}
use Rattle.cells.proofs.Raising.{decoded_same, decoded_push, decoded_raised}
use Rattle.cells.specs.Cells.{cell, besides, decoded, written, own, limit, Raised, SameTable}
use Rattle.cells.specs.declared.table.Cells.{Cells}
use Rattle.kinds.specs.Totals.{Group}
use Rattle.kinds.specs.declared.laws.Reckoned.{Ghosts}
use Rattle.runs.proofs.Placed.{entry_read}
use Rattle.runs.specs.Places.{entry_at}
use Rattle.std.proofs.lemmas.List.{get_or-set_same, get_or-set_other, drop-set-lt, get_or-drop, drop-drop}
use Rattle.std.proofs.lemmas.Bool.{cases_eq}

module _ {K : Type 0} (R : Ghosts K) (s : Cells K) where
  -- the cell after the last entry written
  pub pushed : Group R → (e v : K) (new : List K) → new ≡ set (vec_items s.table) s.count v → s.count < own (vec_len s.table) → v ≡ R.join (besides R (vec_items s.table) (s.count + 1)) e → decoded R new (s.count + 1) ≡ written R s ++ (e ∷ [])
  pushed laws e v new is free value =
      decoded_push R laws (vec_items s.table) new s.count e (omega (arith, s.within)) others
      (ap (λ l. cell R l (s.count + 1)) is
      ∙ ap (λ k. get_or (set (vec_items s.table) s.count v) k R.zero) here
      ∙ get_or-set_same (vec_items s.table) s.count v R.zero (omega (arith, s.table.ok.0))
      ∙ value)
    where
      here : s.count + 1 - 1 ≡ s.count
      here = omega arith

      others : (i : ℕ) → 0 < i → i ≤ s.count → cell R new i ≡ cell R (vec_items s.table) i
      others i first last =
          ap (λ l. cell R l i) is ∙ get_or-set_other (vec_items s.table) s.count (i - 1) v R.zero (λ d. omega arith)

  -- the cell of the last entry written
  pub popped : (v : K) (new : List K) → new ≡ set (vec_items s.table) (s.count - 1) v → decoded R new (s.count - 1) ≡ take (s.count - 1) (written R s)
  popped v new is =
      decoded_same R (vec_items s.table) new (s.count - 1) (omega (arith, s.within)) others
      ∙ sym (take-decoded R (vec_items s.table) s.count (s.count - 1) (omega arith))
    where
      others : (i : ℕ) → 0 < i → i ≤ s.count - 1 → cell R new i ≡ cell R (vec_items s.table) i
      others i first last =
          ap (λ l. cell R l i) is ∙ get_or-set_other (vec_items s.table) (s.count - 1) (i - 1) v R.zero (λ d. omega arith)

  -- an amount joined to the entry at a place
  pub raised_at : Group R → (p : ℕ) (e a : K) (new : List K) → 0 < p → p ≤ s.count → Raised R (vec_items s.table) new s.count p a → entry_at (written R s) p ≡ Ok e → decoded R new s.count ≡ set (written R s) (p - 1) (R.join e a)
  raised_at laws p e a new first last raised there =
      decoded_raised R laws (vec_items s.table) new s.count p e a (omega (arith, s.within)) first last raised
      (entry_read (written R s) p e first (omega (arith, length-decoded R (vec_items s.table) s.count)) there)

  module _ (t : Cells K) (long : vec_len t.table ≡ vec_len s.table) where
    -- one of the table's own cells written, which is past the last entry neither before nor after, or becomes zero
    pub same_table : (i : ℕ) (v : K) → vec_items t.table ≡ set (vec_items s.table) i v → i < limit → i < vec_len s.table → ((j : ℕ) → t.count < j → (j - 1 ≡ i → ⊥) → s.count < j) → (t.count ≤ i → v ≡ R.zero) → SameTable R s t
    same_table i v is low within past clear =
        record {
          cells = long;
          beyond = ap (drop limit) is ∙ drop-set-lt limit (vec_items s.table) i v low;
          clean = λ clean j after own. at clean j after own (cases_eq (j - 1) i);
        }
      where
        at : ((j : ℕ) → s.count < j → j ≤ own (vec_len s.table) → cell R (vec_items s.table) j ≡ R.zero) → (j : ℕ) → t.count < j → j ≤ own (vec_len t.table) → (j - 1 ≡ i) ⊎ (j - 1 ≡ i → ⊥) → cell R (vec_items t.table) j ≡ R.zero
        at clean j after fits (inl e) =
            ap (λ l. cell R l j) is
            ∙ ap (λ k. get_or (set (vec_items s.table) i v) k R.zero) e
            ∙ get_or-set_same (vec_items s.table) i v R.zero (omega (arith, s.table.ok.0))
            ∙ clear (omega arith)
        at clean j after fits (inr differ) =
            ap (λ l. cell R l j) is
            ∙ get_or-set_other (vec_items s.table) i (j - 1) v R.zero differ
            ∙ clean j (past j after differ) (omega (arith, long))

    -- cells up to the last entry written
    pub raised_table : (p : ℕ) (a : K) → t.count ≡ s.count → Raised R (vec_items s.table) (vec_items t.table) s.count p a → SameTable R s t
    raised_table p a counted raised =
        record {
          cells = long;
          beyond = later (limit - s.count) limit (omega (arith, s.within));
          clean = λ clean j after own.
              ap (λ k. get_or (vec_items t.table) k R.zero) (here j (omega arith))
              ∙ sym (get_or-drop s.count (vec_items t.table) (j - 1 - s.count) R.zero)
              ∙ ap (λ l. get_or l (j - 1 - s.count) R.zero) raised.after
              ∙ get_or-drop s.count (vec_items s.table) (j - 1 - s.count) R.zero
              ∙ ap (λ k. get_or (vec_items s.table) k R.zero) (sym (here j (omega arith)))
              ∙ clean j (omega arith) (omega (arith, long));
        }
      where
        here : (j : ℕ) → s.count < j → j - 1 ≡ s.count + (j - 1 - s.count)
        here j h = omega arith

        later : (m n : ℕ) → s.count + m ≡ n → drop n (vec_items t.table) ≡ drop n (vec_items s.table)
        later m n e =
            ap (λ k. drop k (vec_items t.table)) (sym e)
            ∙ sym (drop-drop m s.count (vec_items t.table))
            ∙ ap (drop m) raised.after
            ∙ drop-drop m s.count (vec_items s.table)
            ∙ ap (λ k. drop k (vec_items s.table)) e

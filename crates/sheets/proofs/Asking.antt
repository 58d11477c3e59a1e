-- What a sheet that is asked of a place or a number of entries answers. Assumes nothing.
use Rattle.std.proofs.Common.{◌≡◌, ℕ, ◌-◌, ◌<◌, ◌≤◌, false, ◌&&◌, leb, ◌⊎◌, length, get_or, take, Some, None, Ok, Err, vec_items, Result, sym, refl, ap, ◌∙◌, inl, inr, arith}
use Rattle.cells.proofs.Decoding.{length-decoded}
use Rattle.kinds.specs.Refusals.{refusal}
use Rattle.kinds.specs.Totals.{total}
use Rattle.kinds.specs.declared.laws.Kind as Kind
use Rattle.kinds.specs.declared.laws.Reckoned as Reckoned
use Rattle.kinds.specs.declared.refusal.Refusal.{Refusal}
use Rattle.runs.proofs.Placed.{entry_within, entry_refused, entry_read}
use Rattle.runs.proofs.Summing.{total_there, total_past}
use Rattle.runs.specs.Places.{entry_at, total_at}
use Rattle.sheets.proofs.Keeping.{asks_yes, asks_no, follows_out, follows_no, count_of}
use Rattle.sheets.specs.History.{History, entry, has_place, at, total_of, count}
use Rattle.sheets.specs.Sheets.{Follows, Keeps, entries_of, entry_told, stands}
use Rattle.sheets.specs.declared.answer.Answer.TheVariants.{Number, Entry}
use Rattle.sheets.specs.declared.sheet.Sheet.{Sheet}
use Rattle.std.proofs.lemmas.List.{get_or_default}
use Rattle.std.proofs.lemmas.Bool.{and_from, and_left, and_right, le-leb, lt-leb, cases_lt}

module _ {K : Type 0} (N : Kind.Ghosts K) (R : Reckoned.Ghosts K) (s : Sheet K) where
  long : length (entries_of R s) ≡ s.cells.count
  long = length-decoded R (vec_items s.cells.table) s.cells.count

  -- a place that has an entry, and one that has none
  pub place_yes : (p : ℕ) (e : K) → entry_at (entries_of R s) p ≡ Ok e → has_place (stands s) p ≡ None
  place_yes p e is =
      let w = entry_within (entries_of R s) p e is in
      asks_yes _ 1 (and_from (leb 1 p) (leb p s.cells.count) (le-leb 1 p w.0) (le-leb p s.cells.count (omega (arith, w.1, long))))

  pub place_no : (p : ℕ) (f : Refusal) → entry_at (entries_of R s) p ≡ Err f → has_place (stands s) p ≡ Some f
  place_no p f is =
      let w = entry_refused (entries_of R s) p f is in
      asks_no _ 1 (outside w.1) ∙ ap Some (sym w.0)
    where
      outside : (p ≡ 0) ⊎ (length (entries_of R s) < p) → (leb 1 p && leb p s.cells.count) ≡ false
      outside (inl none) = and_left (leb 1 p) (leb p s.cells.count) (lt-leb 1 p (omega arith))
      outside (inr past) = and_right (leb 1 p) (leb p s.cells.count) (lt-leb p s.cells.count (omega (arith, long)))

  -- the entry there is the history's
  pub entry_so : (h : History K) → Keeps N R h s → (p : ℕ) (e : K) → entry_at (entries_of R s) p ≡ Ok e → e ≡ entry R h p
  entry_so h k p e is =
      let w = entry_within (entries_of R s) p e is in
      entry_read (entries_of R s) p e w.0 w.1 is
      ∙ get_or_default (entries_of R s) (p - 1) e R.zero (omega (arith, w.0, w.1))
      ∙ ap (λ xs. get_or xs (p - 1) R.zero) k.entries

  pub place_so : (h : History K) → Keeps N R h s → (p : ℕ) (e : K) → entry_at (entries_of R s) p ≡ Ok e → (0 < p) × (p ≤ length h.entries)
  place_so h k p e is =
      let w = entry_within (entries_of R s) p e is in
      (w.0, omega (arith, w.1, ap length k.entries))

  pub follows_at : (p : ℕ) (r : Result K Refusal) → r ≡ entry_at (entries_of R s) p → Follows N R (at p) s s (entry_told r)
  follows_at p (Ok e) is =
      follows_out N R (at p) s s (Entry e) (place_yes p e (sym is)) (λ h k. (k, ap Entry (entry_so h k p e (sym is))))
  follows_at p (Err f) is = follows_no N R (at p) s f (place_no p f (sym is))

  pub follows_total : (i : ℕ) (r : Result K Refusal) → r ≡ total_at R (entries_of R s) i → Follows N R (total_of i) s s (entry_told r)
  follows_total i r is = go (cases_lt s.cells.count i)
    where
      go : (s.cells.count < i) ⊎ (i ≤ s.cells.count) → Follows N R (total_of i) s s (entry_told r)
      go (inl past) =
          rw (is ∙ total_past R (entries_of R s) i (omega (arith, long)))
          (follows_no N R (total_of i) s (refusal 1) (asks_no _ 1 (lt-leb i s.cells.count past)))
      go (inr within) =
          rw (is ∙ total_there R (entries_of R s) i (omega (arith, long)))
          (follows_out N R (total_of i) s s _ (asks_yes _ 1 (le-leb i s.cells.count within)) (λ h k. (k, ap (λ xs. Entry (total R (take i xs))) k.entries)))

  pub follows_count : (n : ℕ) → n ≡ s.cells.count → Follows N R count s s (Ok (Number n))
  follows_count n is = follows_out N R count s s (Number n) refl (λ h k. (k, ap Number (is ∙ count_of N R h s k)))

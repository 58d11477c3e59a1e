-- Entries put, shifted and struck: what the sheet then refuses, leaves and tells. Assumes nothing.
use Rattle.std.proofs.Common.{◌≡◌, ℕ, ◌+◌, ◌-◌, ◌<◌, ◌≤◌, min, ◌⊎◌, take, set, Some, None, Ok, Err, vec_items, vec_len, Result, sym, refl, ap, ◌∙◌, subst, inl, inr, arith, MatchResult}
use Rattle.cells.proofs.Decoding.{length-decoded}
use Rattle.cells.specs.Cells.{SameTable}
use Rattle.kinds.specs.Refusals.{refusal}
use Rattle.kinds.specs.Totals.{Group}
use Rattle.kinds.specs.declared.laws.Kind as Kind
use Rattle.kinds.specs.declared.laws.Reckoned as Reckoned
use Rattle.kinds.specs.declared.refusal.Refusal.{Refusal}
use Rattle.runs.proofs.Placed.{entry_given}
use Rattle.runs.specs.Places.{entry_at}
use Rattle.sheets.proofs.Asking.{place_yes, place_no, place_so, entry_so}
use Rattle.sheets.proofs.Keeping.{asks_yes, asks_no, follows_out, follows_no, count_of, corrected, shifted, struck}
use Rattle.sheets.specs.History.{Call, History, carried, entry, has_place, refuses, told, correct, shift, strike}
use Rattle.sheets.specs.Room.{kept}
use Rattle.sheets.specs.Sheets.{Follows, Keeps, Left, entries_of, entry_told, stands}
use Rattle.sheets.specs.declared.answer.Answer.TheVariants.{Entry}
use Rattle.sheets.specs.declared.sheet.Sheet.{Sheet}
use Rattle.std.proofs.lemmas.Bool.{le-leb, lt-leb}
use Rattle.std.specs.Result.{result_err}
use mathlib.Core.HLevel.{is_prop→PathP}
use native.Mathlib.Bridge.{le_prop}

-- sheets with equal fields are equal
pub same_sheet : {K : Type 0} (s t : Sheet K) → t.unit ≡ s.unit → t.cells ≡ s.cells → t.parked ≡ s.parked → t ≡ s
same_sheet s t unit cells parked =
    λ i. record {
      unit = unit i;
      cells = cells i;
      parked = parked i;
      room = is_prop→PathP (λ j. (cells j).count + kept (parked j) ≤ min (vec_len (cells j).table) 1_048_576) (λ j. le_prop) t.room s.room i;
    }

-- one place has one entry
pub same_shift : {K : Type 0} (R : Reckoned.Ghosts K) (s : Sheet K) (p : ℕ) (a e : K) → entry_at (entries_of R s) p ≡ Ok e → (d : K) → entry_at (entries_of R s) p ≡ Ok d → R.join e a ≡ R.join d a
same_shift R s p a e is d there = let same : e ≡ d = cc in ap (λ x. R.join x a) same

module _ {K : Type 0} (N : Kind.Ghosts K) (R : Reckoned.Ghosts K) (s : Sheet K) where
  -- what is answered decides what is refused
  pub decided_refuses : (p : ℕ) (r : Result K Refusal) (tells : K → K) → ((e : K) → entry_at (entries_of R s) p ≡ Ok e → r ≡ Ok (tells e)) → ((f : Refusal) → entry_at (entries_of R s) p ≡ Err f → r ≡ Err f) → (o : Result K Refusal) → entry_at (entries_of R s) p ≡ o → result_err r ≡ has_place (stands s) p
  decided_refuses p r tells there gone (Ok e) is = ap result_err (there e is) ∙ sym (place_yes N R s p e is)
  decided_refuses p r tells there gone (Err f) is = ap result_err (gone f is) ∙ sym (place_no N R s p f is)

  last_there : 0 < s.cells.count → (o : Result K Refusal) → entry_at (entries_of R s) s.cells.count ≡ o → (e : K) × (entry_at (entries_of R s) s.cells.count ≡ Ok e)
  last_there some (Ok e) is = (e, is)
  last_there some (Err f) is =
      absurd (entry_given (entries_of R s) s.cells.count f some (omega (arith, length-decoded R (vec_items s.cells.table) s.cells.count)) is)

  one_there : 0 < s.cells.count → refuses {K = K} (stands s) strike ≡ None
  one_there some = asks_yes _ 3 (le-leb 1 s.cells.count some)

  none_there : s.cells.count ≡ 0 → refuses {K = K} (stands s) strike ≡ Some (refusal 3)
  none_there none = asks_no _ 3 (lt-leb 1 s.cells.count (omega arith))

  empty : s.cells.count ≤ 0 → s.cells.count ≡ 0
  empty h = omega arith

  pub strikes_refuses : (r : Result K Refusal) → (0 < s.cells.count → r ≡ entry_at (entries_of R s) s.cells.count) → (s.cells.count ≡ 0 → r ≡ Err (refusal 3)) → (0 < s.cells.count) ⊎ (s.cells.count ≤ 0) → result_err r ≡ refuses {K = K} (stands s) strike
  strikes_refuses r there gone (inl some) =
      let last = last_there some _ refl in
      ap result_err (there some ∙ last.1) ∙ sym (one_there some)
  strikes_refuses r there gone (inr none) = ap result_err (gone (empty none)) ∙ sym (none_there (empty none))

  module _ (t : Sheet K) (unit : t.unit ≡ s.unit) (parking : t.parked ≡ s.parked) (table : SameTable R s.cells t.cells) where
    -- a call that a place decides: what it does where an entry stands, and that it does nothing where none does
    module _ (p : ℕ) (r : Result K Refusal) (tells becomes : K → K)
        (done : (e : K) → entry_at (entries_of R s) p ≡ Ok e → (r ≡ Ok (tells e)) × (entries_of R t ≡ set (entries_of R s) (p - 1) (becomes e)))
        (undone : (f : Refusal) → entry_at (entries_of R s) p ≡ Err f → (r ≡ Err f) × (t.cells ≡ s.cells)) where
      left_at : (e : K) → entry_at (entries_of R s) p ≡ Ok e → Left R s t (set (entries_of R s) (p - 1) (becomes e)) s.parked
      left_at e is = record { unit = unit; entries = (done e is).1; parked = parking; table = table }

      pub decided_leaves : (P : K → Type 0) → ((e : K) → entry_at (entries_of R s) p ≡ Ok e → Left R s t (set (entries_of R s) (p - 1) (becomes e)) s.parked → P (tells e)) → (o : Result K Refusal) → entry_at (entries_of R s) p ≡ o → MatchResult r P (λ _. t ≡ s)
      decided_leaves P then (Ok e) is = rw (done e is).0 (then e is (left_at e is))
      decided_leaves P then (Err f) is = rw (undone f is).0 (same_sheet s t unit (undone f is).1 parking)

      pub decided_follows : (c : Call K) → refuses (stands s) c ≡ has_place (stands s) p → ((h : History K) (e : K) → Keeps N R h s → entry_at (entries_of R s) p ≡ Ok e → Left R s t (set (entries_of R s) (p - 1) (becomes e)) s.parked → Keeps N R (carried R h c) t × (Entry (tells e) ≡ told R h c)) → (o : Result K Refusal) → entry_at (entries_of R s) p ≡ o → Follows N R c s t (entry_told r)
      decided_follows c asks then (Ok e) is =
          rw (done e is).0 (follows_out N R c s t (Entry (tells e)) (asks ∙ place_yes N R s p e is) (λ h k. then h e k is (left_at e is)))
      decided_follows c asks then (Err f) is =
          rw (undone f is).0 (rw (same_sheet s t unit (undone f is).1 parking) (follows_no N R c s f (asks ∙ place_no N R s p f is)))

    module _ (laws : Group R) where
      pub corrects : (p : ℕ) (e : K) (r : Result K Refusal) → ((old : K) → entry_at (entries_of R s) p ≡ Ok old → (r ≡ Ok old) × (entries_of R t ≡ set (entries_of R s) (p - 1) e)) → ((f : Refusal) → entry_at (entries_of R s) p ≡ Err f → (r ≡ Err f) × (t.cells ≡ s.cells)) → Follows N R (correct p e) s t (entry_told r)
      corrects p e r done undone =
          decided_follows p r (λ x. x) (λ _. e) done undone (correct p e) refl (λ h old k is left.
          let w = place_so N R s h k p old is in
          (corrected N R laws h s t k p e w.0 w.1 left, ap Entry (entry_so N R s h k p old is)))
          (entry_at (entries_of R s) p) refl

      pub shifts : (p : ℕ) (a : K) (r : Result K Refusal) → ((e : K) → entry_at (entries_of R s) p ≡ Ok e → (r ≡ Ok (R.join e a)) × (entries_of R t ≡ set (entries_of R s) (p - 1) (R.join e a))) → ((f : Refusal) → entry_at (entries_of R s) p ≡ Err f → (r ≡ Err f) × (t.cells ≡ s.cells)) → Follows N R (shift p a) s t (entry_told r)
      shifts p a r done undone =
          decided_follows p r (λ e. R.join e a) (λ e. R.join e a) done undone (shift p a) refl (λ h e k is left.
          let w = place_so N R s h k p e is in
          let so = entry_so N R s h k p e is in
          (shifted N R laws h s t k p a w.0 w.1 (subst (λ x. Left R s t (set (entries_of R s) (p - 1) (R.join x a)) s.parked) so left), ap (λ x. Entry (R.join x a)) so))
          (entry_at (entries_of R s) p) refl

      -- the last entry struck
      module _ (r : Result K Refusal)
          (done : 0 < s.cells.count → (r ≡ entry_at (entries_of R s) s.cells.count) × (entries_of R t ≡ take (s.cells.count - 1) (entries_of R s)))
          (undone : s.cells.count ≡ 0 → (r ≡ Err (refusal 3)) × (t.cells ≡ s.cells)) where
        left_after : 0 < s.cells.count → Left R s t (take (s.cells.count - 1) (entries_of R s)) s.parked
        left_after some = record { unit = unit; entries = (done some).1; parked = parking; table = table }

        pub strikes_leaves : (0 < s.cells.count) ⊎ (s.cells.count ≤ 0) → MatchResult r (λ e. (entry_at (entries_of R s) s.cells.count ≡ Ok e) × Left R s t (take (s.cells.count - 1) (entries_of R s)) s.parked) (λ _. t ≡ s)
        strikes_leaves (inl some) =
            let last = last_there some _ refl in
            rw ((done some).0 ∙ last.1) (last.1, left_after some)
        strikes_leaves (inr none) = rw (undone (empty none)).0 (same_sheet s t unit (undone (empty none)).1 parking)

        pub strikes : (0 < s.cells.count) ⊎ (s.cells.count ≤ 0) → Follows N R strike s t (entry_told r)
        strikes (inl some) =
            let last = last_there some _ refl in
            rw ((done some).0 ∙ last.1)
            (follows_out N R strike s t (Entry last.0) (one_there some) (λ h k. (
              struck N R laws h s t k (omega (arith, count_of N R h s k)) (left_after some),
              ap Entry (entry_so N R s h k s.cells.count last.0 last.1 ∙ ap (entry R h) (count_of N R h s k)),
            )))
        strikes (inr none) =
            rw (undone (empty none)).0 (rw (same_sheet s t unit (undone (empty none)).1 parking) (follows_no N R strike s (refusal 3) (none_there (empty none))))

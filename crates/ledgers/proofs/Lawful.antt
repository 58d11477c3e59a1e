-- The law of sheets: lists of calls, and cells that equal entries decide. Assumes nothing.
use Rattle.std.proofs.Common.{◌≡◌, ℕ, ◌+◌, ◌-◌, ◌<◌, ◌≤◌, Bool, true, false, ◌⊎◌, List, [], ◌∷◌, ◌++◌, map, length, get_or, drop, take, Some, None, vec_items, MatchBool, Option, sym, refl, ap, ◌∙◌, subst, inl, inr, arith}
use Rattle.cells.proofs.Decoding.{length-decoded, cell_right}
use Rattle.cells.proofs.Raising.{decoded_same}
use Rattle.cells.proofs.Reach.{span_largest}
use Rattle.cells.specs.Cells.{cell, decoded, limit, own}
use Rattle.cells.specs.Spans.{span}
use Rattle.kinds.specs.Totals.{Group, total}
use Rattle.kinds.specs.declared.laws.Kind as Kind
use Rattle.kinds.specs.declared.laws.Reckoned as Reckoned
use Rattle.kinds.specs.declared.refusal.Refusal.{Refusal}
use Rattle.ledgers.specs.Law.{Law, by_slip, closed_history, history, own_cells}
use Rattle.ledgers.specs.declared.call.Call as asked
use Rattle.runs.specs.Places.{part}
use Rattle.sheets.specs.History.{Call, History, after, after_all, answer, answers, begun, carried, refuses, standing, unless, enter, correct, shift, strike, park, restore, give_up, at, total_of, count, Reply}
use Rattle.sheets.specs.Sheets.{Follows, Keeps, SameBook, cells_of, entries_of}
use Rattle.sheets.specs.declared.sheet.Sheet.{Sheet}
use Rattle.std.proofs.lemmas.List.{ext_get_or, get_or-take, length-take}
use Rattle.std.proofs.lemmas.Bool.{cases_lt}

-- what is the same of two tables that are cut is the same of their first so many
pub cut_same : {K : Type 0} (z : K) (b : Bool) (xs ys : List K) (n : ℕ) → n ≤ length xs → n ≤ length ys → MatchBool b ((k : ℕ) → k < length (take n xs) → get_or (take n xs) k z ≡ get_or (take n ys) k z) ((k : ℕ) × (k < length (take n xs)) × (get_or (take n xs) k z ≡ get_or (take n ys) k z → ⊥)) → MatchBool b ((k : ℕ) → k < n → get_or xs k z ≡ get_or ys k z) ((k : ℕ) × (k < n) × (get_or xs k z ≡ get_or ys k z → ⊥))
cut_same z true xs ys n first second same = λ k h. sym (get_or-take n xs k z h) ∙ same k (omega (arith, length-take n xs)) ∙ get_or-take n ys k z h
cut_same z false xs ys n first second differ =
    let k = differ.0 in
    let within : k < n = omega (arith, differ.1, length-take n xs) in
    (k, within, λ e. differ.2 (get_or-take n xs k z within ∙ e ∙ sym (get_or-take n ys k z within)))

module _ {K : Type 0} (R : Reckoned.Ghosts K) where
  -- no call alters how many cells there are
  kept_after : (h : History K) (c : Call K) → (after R h c).cells ≡ h.cells
  unfolding after
  kept_after h c = go (refuses (standing h) c) c
    where
      went : (c : Call K) → (carried R h c).cells ≡ h.cells
      went (enter e) = refl
      went (correct p e) = refl
      went (shift p a) = refl
      went strike = refl
      went park = refl
      went (restore u) = refl
      went (give_up u) = refl
      went (at p) = refl
      went (total_of i) = refl
      went count = refl

      go : (o : Option Refusal) (c : Call K) → (unless R o (carried R h c) (λ f. h)).cells ≡ h.cells
      go None c = went c
      go (Some f) c = refl

  kept_after_all : (h : History K) (cs : List (Call K)) → (after_all R h cs).cells ≡ h.cells
  unfolding after_all
  kept_after_all h [] = refl
  kept_after_all h (c ∷ cs) = kept_after_all (after R h c) cs ∙ kept_after h c

  cells_kept : (u n : ℕ) (calls : List (asked.Call K)) → (closed_history R u n calls).cells ≡ n
  cells_kept u n calls =
      kept_after (history R u n calls) (give_up u) ∙ kept_after_all (begun R u n) (map (by_slip u) calls)

  -- one call more
  pub after_push : (h : History K) (cs : List (Call K)) (c : Call K) → after_all R h (cs ++ (c ∷ [])) ≡ after R (after_all R h cs) c
  unfolding after_all
  after_push h [] c = refl
  after_push h (d ∷ cs) c = after_push (after R h d) cs c

  pub answers_push : (h : History K) (cs : List (Call K)) (c : Call K) → answers R h (cs ++ (c ∷ [])) ≡ answers R h cs ++ (answer R (after_all R h cs) c ∷ [])
  unfolding after_all answers
  answers_push h [] c = refl
  answers_push h (d ∷ cs) c = ap (λ rs. answer R h d ∷ rs) (answers_push (after R h d) cs c)

  -- a cell up to the last entry is decided by the entries
  pub cell_by_entries : Group R → (s t : Sheet K) (i : ℕ) → entries_of R s ≡ entries_of R t → i < s.cells.count → i < t.cells.count → cell R (vec_items s.cells.table) (i + 1) ≡ cell R (vec_items t.cells.table) (i + 1)
  cell_by_entries laws s t i same here there =
      let j = i + 1 in
      let power = span_largest j (omega arith) (omega (arith, s.cells.within)) in
      cell_right R laws (vec_items s.cells.table) s.cells.count j (span j) (omega (arith, s.cells.within)) (omega arith) (omega arith) power
      ∙ ap (λ xs. total R (part xs (j - span j) (span j))) same
      ∙ sym (cell_right R laws (vec_items t.cells.table) t.cells.count j (span j) (omega (arith, t.cells.within)) (omega arith) (omega arith) power)

  shown : (u : Sheet K) (i : ℕ) → get_or (vec_items u.cells.table) i R.zero ≡ cell R (vec_items u.cells.table) (i + 1)
  shown u i = let e : i ≡ i + 1 - 1 = omega arith in ap (λ k. get_or (vec_items u.cells.table) k R.zero) e

  -- equal counts and cells mean equal entries, and a cell that differs means others
  pub compared : Group R → (s t : Sheet K) (b : Bool) (n : ℕ) → n ≡ s.cells.count → n ≡ t.cells.count → MatchBool b ((k : ℕ) → k < n → get_or (vec_items s.cells.table) k R.zero ≡ get_or (vec_items t.cells.table) k R.zero) ((k : ℕ) × (k < n) × (get_or (vec_items s.cells.table) k R.zero ≡ get_or (vec_items t.cells.table) k R.zero → ⊥)) → MatchBool b (entries_of R s ≡ entries_of R t) (entries_of R s ≡ entries_of R t → ⊥)
  compared laws s t true n here there same =
      ap (decoded R (vec_items s.cells.table)) (sym here ∙ there)
      ∙ decoded_same R (vec_items t.cells.table) (vec_items s.cells.table) t.cells.count (omega (arith, t.cells.within)) (λ i pos within. same (i - 1) (omega arith))
  compared laws s t false n here there differ = λ e.
      differ.2 (shown s differ.0 ∙ cell_by_entries laws s t differ.0 e (omega (arith, differ.1)) (omega (arith, differ.1)) ∙ sym (shown t differ.0))

  -- other counts mean other entries
  pub counts_differ : (s t : Sheet K) (m n : ℕ) → m ≡ s.cells.count → n ≡ t.cells.count → (m ≡ n → ⊥) → entries_of R s ≡ entries_of R t → ⊥
  counts_differ s t m n here there differ e =
      differ (omega (arith, here, there, ap length e, length-decoded R (vec_items s.cells.table) s.cells.count, length-decoded R (vec_items t.cells.table) t.cells.count))

  module _ (N : Kind.Ghosts K) where
    -- the same of the histories that the sheets keep
    pub compared_histories : (s t : Sheet K) (b : Bool) → MatchBool b (entries_of R s ≡ entries_of R t) (entries_of R s ≡ entries_of R t → ⊥) → (g h : History K) → Keeps N R g s → Keeps N R h t → MatchBool b (g.entries ≡ h.entries) (g.entries ≡ h.entries → ⊥)
    compared_histories s t true same g h ks kt = sym ks.entries ∙ same ∙ kt.entries
    compared_histories s t false differ g h ks kt = λ e. differ (ks.entries ∙ e ∙ sym kt.entries)

    -- sheets that keep histories with equal entries and equally many cells differ in no cell
    pub cells_agree : (g h : History K) (s t : Sheet K) → Keeps N R g s → Keeps N R h t → g.entries ≡ h.entries → g.cells ≡ h.cells → own_cells s ≡ own_cells t
    cells_agree g h s t ks kt entries cells =
        ext_get_or R.zero (own_cells s) (own_cells t) (long s ∙ wide ∙ sym (long t)) (λ i less.
        let within : i < cells_of s = omega (arith, long s) in
        get_or-take (cells_of s) (vec_items s.cells.table) i R.zero within
        ∙ at i within (cases_lt i (length g.entries))
        ∙ sym (get_or-take (cells_of t) (vec_items t.cells.table) i R.zero (omega (arith, wide))))
      where
        wide : cells_of s ≡ cells_of t
        wide = ks.cells ∙ cells ∙ sym kt.cells

        long : (u : Sheet K) → length (own_cells u) ≡ cells_of u
        long u = length-take (cells_of u) (vec_items u.cells.table) ∙ omega (arith, u.cells.table.ok.0)

        at : (i : ℕ) → i < cells_of s → (i < length g.entries) ⊎ (length g.entries ≤ i) → get_or (vec_items s.cells.table) i R.zero ≡ get_or (vec_items t.cells.table) i R.zero
        at i within (inl here) =
            let power = span_largest (i + 1) (omega arith) (omega arith) in
            shown s i
            ∙ ks.right.each (i + 1) (span (i + 1)) (omega arith) (omega arith) power
            ∙ ap (λ xs. total R (part xs (i + 1 - span (i + 1)) (span (i + 1)))) entries
            ∙ sym (kt.right.each (i + 1) (span (i + 1)) (omega arith) (omega (arith, ap length entries)) power)
            ∙ sym (shown t i)
        at i within (inr past) =
            shown s i
            ∙ ks.right.past (i + 1) (omega arith) (omega (arith, s.cells.table.ok.0))
            ∙ sym (kt.right.past (i + 1) (omega (arith, ap length entries)) (omega (arith, wide, t.cells.table.ok.0)))
            ∙ sym (shown t i)

    -- a list of calls follows the history: whatever history the sheet kept before, it keeps the history after them, and
    -- their answers are the history's
    pub record Followed (u : ℕ) (cs : List (Call K)) (s t : Sheet K) (rs : List (Reply K)) : Type 0 where
      pub unit : t.unit ≡ u
      pub beyond : drop limit (vec_items t.cells.table) ≡ drop limit (vec_items s.cells.table)
      pub follows : (h : History K) → Keeps N R h s → Keeps N R (after_all R h cs) t × (rs ≡ answers R h cs)

    pub followed_none : (u : ℕ) (s : Sheet K) (rs : List (Reply K)) → s.unit ≡ u → rs ≡ [] → Followed u [] s s rs
    unfolding after_all answers
    followed_none u s rs unit none = record { unit = unit; beyond = refl; follows = λ h k. (k, none) }

    -- one call more
    pub followed_more : (u : ℕ) (cs ds : List (Call K)) (c : Call K) (s t v : Sheet K) (rs : List (Reply K)) (a : Reply K) → Followed u cs s t rs → SameBook R t v → Follows N R c t v a → ds ≡ cs ++ (c ∷ []) → Followed u ds s v (rs ++ (a ∷ []))
    followed_more u cs ds c s t v rs a f book step more =
        record {
          unit = book.unit ∙ f.unit;
          beyond = book.table.beyond ∙ f.beyond;
          follows = λ h k.
              let before = f.follows h k in
              let now = step (after_all R h cs) before.0 in (
                subst (λ g. Keeps N R g v) (sym (ap (after_all R h) more ∙ after_push h cs c)) now.0,
                ap (λ l. l ++ (a ∷ [])) before.1 ∙ ap (λ x. answers R h cs ++ (x ∷ [])) now.1 ∙ sym (ap (answers R h) more ∙ answers_push h cs c),
              );
        }

    -- a sheet made, given calls and closed keeps the law
    pub lawful : (u m : ℕ) (table : List K) (calls : List (asked.Call K)) (s t v : Sheet K) (x : K) (rs : List (Reply K)) → m ≡ length table → Keeps N R (begun R u (own m)) s → drop limit (vec_items s.cells.table) ≡ drop limit table → Followed u (map (by_slip u) calls) s t rs → SameBook R t v → ((h : History K) → Keeps N R h t → Keeps N R (after R h (give_up t.unit)) v) → x ≡ total R (entries_of R v) → Law N R u table calls v x rs
    lawful u m table calls s t v x rs long begins beyond f book closes is =
        let cells : own m ≡ own (length table) = ap own long in
        let first = subst (λ n. Keeps N R (begun R u n) s) cells begins in
        let all = f.follows (begun R u (own (length table))) first in
        let last : Keeps N R (closed_history R u (own (length table)) calls) v = subst (λ w. Keeps N R (after R (history R u (own (length table)) calls) (give_up w)) v) f.unit (closes (history R u (own (length table)) calls) all.0) in
        let sum = is ∙ ap (total R) last.entries in
        record {
          total_of_entries = sum;
          total_follows_history = sum ∙ last.balanced;
          answers_follow_history = all.1;
          keeps_history = last;
          equal_entries_equal_cells = λ g other k same wide. cells_agree g (closed_history R u (own (length table)) calls) other v k last same (wide ∙ sym (cells_kept u (own (length table)) calls));
          beyond_untouched = book.table.beyond ∙ f.beyond ∙ beyond;
        }

-- How a sheet goes on keeping its history. Assumes nothing.
use Rattle.std.proofs.Common.{◌≡◌, ℕ, ◌+◌, ◌-◌, ◌<◌, ◌≤◌, Bool, true, false, leb, List, [], ◌∷◌, ◌++◌, length, get_or, take, set, is_some, Some, None, Ok, Err, vec_items, Option, sym, refl, ap, ◌∙◌, arith}
use Rattle.cells.proofs.Decoding.{length-decoded, cell_right}
use Rattle.cells.specs.Cells.{Clean, decoded, own}
use Rattle.kinds.proofs.Joins.{total-push, total-set, total-shift, total-pop}
use Rattle.kinds.specs.Refusals.{refusal}
use Rattle.kinds.specs.Totals.{Group, total}
use Rattle.kinds.specs.declared.laws.Kind as Kind
use Rattle.kinds.specs.declared.laws.Reckoned as Reckoned
use Rattle.kinds.specs.declared.refusal.Refusal.{Refusal}
use Rattle.runs.specs.Places.{part}
use Rattle.sheets.specs.History.{Call, History, after, answer, amount, asks, carried, entry, refuses, standing, told, wanted, enter, correct, shift, strike, park, restore, give_up}
use Rattle.sheets.specs.Room.{kept}
use Rattle.sheets.specs.Sheets.{Follows, Keeps, Left, as_number, cells_of, entries_of, stands}
use Rattle.sheets.specs.declared.answer.Answer.{Answer}
use Rattle.sheets.specs.declared.answer.Answer.TheVariants.{Number}
use Rattle.sheets.specs.declared.sheet.Sheet.{Sheet}
use Rattle.std.proofs.lemmas.List.{get_or_default}
use Rattle.std.proofs.lemmas.Bool.{le-leb, lt-leb}

-- ---- questions that pass and questions that do not

pub asks_yes : (b : Bool) (n : ℕ) → b ≡ true → asks b n ≡ None
asks_yes b n e = rw e

pub asks_no : (b : Bool) (n : ℕ) → b ≡ false → asks b n ≡ Some (refusal n)
asks_no b n e = rw e

-- no cells stand for no entries
pub none_written : {K : Type 0} (R : Reckoned.Ghosts K) (cells : List K) (n : ℕ) → n ≡ 0 → decoded R cells n ≡ []
unfolding decoded
none_written R cells n e = ap (decoded R cells) e

-- enough of what is wanted, and too little
pub enough : (a b n x y : ℕ) → x ≡ a → y ≡ b → x ≤ y → asks (leb a b) n ≡ None
enough a b n x y e f h = asks_yes (leb a b) n (le-leb a b (omega arith))

pub too_little : (a b n x y : ℕ) → x ≡ a → y ≡ b → y < x → asks (leb a b) n ≡ Some (refusal n)
too_little a b n x y e f h = asks_no (leb a b) n (lt-leb a b (omega arith))

-- enter wants the cell that is kept, and one
pub wanted_kept : {A : Type 0} (o : Option A) → wanted (is_some o) ≡ kept o + 1
wanted_kept None = refl
wanted_kept (Some t) = refl

module _ {K : Type 0} (N : Kind.Ghosts K) (R : Reckoned.Ghosts K) where
  some_number : (o : Option K) → is_some (as_number N o) ≡ is_some o
  some_number None = refl
  some_number (Some t) = refl

  -- a sheet that keeps a history has as many entries
  pub count_of : (h : History K) (s : Sheet K) → Keeps N R h s → s.cells.count ≡ length h.entries
  count_of h s k = sym (length-decoded R (vec_items s.cells.table) s.cells.count) ∙ ap length k.entries

  pub next_count : (h : History K) (s : Sheet K) (n : ℕ) → Keeps N R h s → n ≡ s.cells.count + 1 → ◌≡◌ {A = Answer K} (Number n) (Number (length h.entries + 1))
  next_count h s n k is = ap Number (is ∙ ap (λ m. m + 1) (count_of h s k))

  pub this_count : (h : History K) (s : Sheet K) (n : ℕ) → Keeps N R h s → n ≡ s.cells.count → ◌≡◌ {A = Answer K} (Number n) (Number (length h.entries))
  this_count h s n k is = ap Number (is ∙ count_of h s k)

  -- it refuses what the history refuses
  pub stands_so : (h : History K) (s : Sheet K) → Keeps N R h s → stands s ≡ standing h
  stands_so h s k =
      λ i. record { unit = k.unit i; cells = k.cells i; count = count_of h s k i; parked = (ap is_some k.parked ∙ some_number h.parked) i }

  pub clean_of : (h : History K) (s : Sheet K) → Keeps N R h s → Clean R s.cells
  clean_of h s k j past within =
      k.right.past j (omega (arith, count_of h s k)) (omega (arith, s.cells.table.ok.0))

  -- a call carried out
  pub follows_out : (c : Call K) (s t : Sheet K) (a : Answer K) → refuses (stands s) c ≡ None → ((h : History K) → Keeps N R h s → Keeps N R (carried R h c) t × (a ≡ told R h c)) → Follows N R c s t (Ok a)
  unfolding after answer
  follows_out c s t a passes step h k = rw (sym (ap (λ z. refuses z c) (stands_so h s k)) ∙ passes) ((step h k).0, ap Ok (step h k).1)

  -- a call turned down
  pub follows_no : (c : Call K) (s : Sheet K) (f : Refusal) → refuses (stands s) c ≡ Some f → Follows N R c s s (Err f)
  unfolding after answer
  follows_no c s f fails h k = rw (sym (ap (λ z. refuses z c) (stands_so h s k)) ∙ fails) (k, refl)

  pub follows_back : (c : Call K) (s : Sheet K) (f : Refusal) (n : ℕ) → f ≡ refusal n → refuses (stands s) c ≡ Some (refusal n) → Follows N R c s s (Err f)
  follows_back c s f n is fails = follows_no c s f (fails ∙ ap Some (sym is))

  module _ (laws : Group R) where
    -- the parts of keeping a history
    pub keeps : (h : History K) (s : Sheet K) → s.unit ≡ h.unit → cells_of s ≡ h.cells → entries_of R s ≡ h.entries → Clean R s.cells → s.parked ≡ as_number N h.parked → total R h.entries ≡ h.balance → Keeps N R h s
    keeps h s unit cells entries clean parked balanced =
        record {
          unit = unit;
          cells = cells;
          entries = entries;
          right = record {
            each = λ j l pos within power.
                cell_right R laws (vec_items s.cells.table) s.cells.count j l (omega (arith, s.cells.within)) pos (omega (arith, counted)) power
                ∙ ap (λ xs. total R (part xs (j - l) l)) entries;
            past = λ j after within. clean j (omega (arith, counted)) (omega (arith, s.cells.table.ok.0));
          };
          parked = parked;
          balanced = balanced;
        }
      where
        counted : s.cells.count ≡ length h.entries
        counted = sym (length-decoded R (vec_items s.cells.table) s.cells.count) ∙ ap length entries

    -- what a call left is what the history then is
    pub keeps_left : (h g : History K) (s t : Sheet K) (xs : List K) (p : Option ℕ) → Keeps N R h s → Left R s t xs p → g.unit ≡ h.unit → g.cells ≡ h.cells → xs ≡ g.entries → p ≡ as_number N g.parked → total R g.entries ≡ g.balance → Keeps N R g t
    keeps_left h g s t xs p k left unit cells entries parked balanced =
        keeps g t
        (left.unit ∙ k.unit ∙ sym unit)
        (ap own left.table.cells ∙ k.cells ∙ sym cells)
        (left.entries ∙ entries)
        (left.table.clean (clean_of h s k))
        (left.parked ∙ parked)
        balanced

    module _ (h : History K) (s t : Sheet K) (k : Keeps N R h s) where
      -- an entry of the history, read
      read : (p : ℕ) → 0 < p → p ≤ length h.entries → entry R h p ≡ get_or h.entries (p - 1) (entry R h p)
      read p pos within = get_or_default h.entries (p - 1) R.zero (entry R h p) (omega arith)

      pub entered : (e : K) → Left R s t (entries_of R s ++ (e ∷ [])) s.parked → Keeps N R (carried R h (enter e)) t
      entered e left =
          keeps_left h (carried R h (enter e)) s t _ _ k left refl refl (ap (λ xs. xs ++ (e ∷ [])) k.entries) k.parked
          (total-push laws h.entries e ∙ ap (λ b. R.join b e) k.balanced)

      pub corrected : (p : ℕ) (e : K) → 0 < p → p ≤ length h.entries → Left R s t (set (entries_of R s) (p - 1) e) s.parked → Keeps N R (carried R h (correct p e)) t
      corrected p e pos within left =
          keeps_left h (carried R h (correct p e)) s t _ _ k left refl refl (ap (λ xs. set xs (p - 1) e) k.entries) k.parked
          (total-set laws h.entries (p - 1) (entry R h p) e (omega arith) (read p pos within) ∙ ap (λ b. R.join (R.join b e) (R.inverse (entry R h p))) k.balanced)

      pub shifted : (p : ℕ) (a : K) → 0 < p → p ≤ length h.entries → Left R s t (set (entries_of R s) (p - 1) (R.join (entry R h p) a)) s.parked → Keeps N R (carried R h (shift p a)) t
      shifted p a pos within left =
          keeps_left h (carried R h (shift p a)) s t _ _ k left refl refl (ap (λ xs. set xs (p - 1) (R.join (entry R h p) a)) k.entries) k.parked
          (total-shift laws h.entries (p - 1) (entry R h p) a (omega arith) (read p pos within) ∙ ap (λ b. R.join b a) k.balanced)

      pub struck : 0 < length h.entries → Left R s t (take (s.cells.count - 1) (entries_of R s)) s.parked → Keeps N R (carried R h strike) t
      struck some left =
          keeps_left h (carried R h strike) s t _ _ k left refl refl
          (ap (λ xs. take (s.cells.count - 1) xs) k.entries ∙ ap (λ n. take (n - 1) h.entries) (count_of h s k)) k.parked
          (total-pop laws h.entries (length h.entries - 1) (entry R h (length h.entries)) (omega arith) (read (length h.entries) some (omega arith))
          ∙ ap (λ b. R.join b (R.inverse (entry R h (length h.entries)))) k.balanced)

      pub parked : Left R s t (entries_of R s ++ (R.inverse (total R (entries_of R s)) ∷ [])) (Some (N.number (total R (entries_of R s)))) → Keeps N R (carried R h park) t
      parked left =
          let all : total R (entries_of R s) ≡ h.balance = ap (total R) k.entries ∙ k.balanced in
          keeps_left h (carried R h park) s t _ _ k left refl refl
          (ap (λ xs. xs ++ (R.inverse (total R (entries_of R s)) ∷ [])) k.entries ∙ ap (λ b. h.entries ++ (R.inverse b ∷ [])) all)
          (ap (λ b. Some (N.number b)) all)
          (total-push laws h.entries (R.inverse h.balance) ∙ ap (λ b. R.join b (R.inverse h.balance)) k.balanced ∙ laws.cancels h.balance)

      pub restored : (u : ℕ) (e : K) → e ≡ amount R h.parked → Left R s t (entries_of R s ++ (e ∷ [])) None → Keeps N R (carried R h (restore u)) t
      restored u e same left =
          keeps_left h (carried R h (restore u)) s t _ _ k left refl refl
          (ap (λ xs. xs ++ (e ∷ [])) k.entries ∙ ap (λ x. h.entries ++ (x ∷ [])) same) refl
          (total-push laws h.entries (amount R h.parked) ∙ ap (λ b. R.join b (amount R h.parked)) k.balanced)

      pub given_up : (u : ℕ) → Left R s t (entries_of R s) None → Keeps N R (carried R h (give_up u)) t
      given_up u left = keeps_left h (carried R h (give_up u)) s t _ _ k left refl refl k.entries refl k.balanced

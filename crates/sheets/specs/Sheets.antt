-- What it is for a sheet to keep a history. Assumes nothing.
use Rattle.std.specs.Prelude.{◌≡◌, ℕ, ◌+◌, ◌-◌, false, List, [], ◌∷◌, ◌++◌, take, is_some, Some, None, Ok, Err, vec_items, vec_len, Option, Result, slice_set}
use Rattle.cells.specs.Cells.{Right, SameTable, own, written}
use Rattle.kinds.specs.Totals.{total}
use Rattle.kinds.specs.declared.laws.Kind as Kind
use Rattle.kinds.specs.declared.laws.Reckoned as Reckoned
use Rattle.kinds.specs.declared.refusal.Refusal.{Refusal}
use Rattle.runs.specs.Places.{entry_at}
use Rattle.sheets.specs.History.{Call, History, Reply, Standing, after, answer}
use Rattle.sheets.specs.declared.answer.Answer.TheVariants.{Number, Entry}
use Rattle.sheets.specs.declared.answer.Answer.TheVariants as answers
use Rattle.sheets.specs.declared.sheet.Sheet.{Sheet}
use Rattle.sheets.specs.declared.slip.HandedBack.{HandedBack}
use Rattle.sheets.specs.declared.slip.Slip.{Slip}

-- the entries of a sheet
abbrev pub entries_of : {K : Type 0} → Reckoned.Ghosts K → Sheet K → List K
entries_of R s = written R s.cells

-- how many cells a sheet has
abbrev pub cells_of : {K : Type 0} → Sheet K → ℕ
cells_of s = own (vec_len s.cells.table)

-- all that decides whether it refuses a call
abbrev pub stands : {K : Type 0} → Sheet K → Standing
stands s = record { unit = s.unit; cells = cells_of s; count = s.cells.count; parked = is_some s.parked }

-- a parked amount is kept as its number
abbrev pub as_number : {K : Type 0} → Kind.Ghosts K → Option K → Option ℕ
as_number N None = None
as_number N (Some t) = Some (N.number t)

-- the sheet keeps this history: its unit number, cells, entries and parking are the history's, every cell holds what its
-- place asks for, and the total of its entries is the balance
pub record Keeps {K : Type 0} (N : Kind.Ghosts K) (R : Reckoned.Ghosts K) (h : History K) (s : Sheet K) : Type 0 where
  pub unit : s.unit ≡ h.unit
  pub cells : cells_of s ≡ h.cells
  pub entries : entries_of R s ≡ h.entries
  pub right : Right R h.entries (vec_items s.cells.table)
  pub parked : s.parked ≡ as_number N h.parked
  pub balanced : total R h.entries ≡ h.balance

-- a call follows the history: whatever history the sheet kept before, it keeps the history after the call, and the answer
-- is the history's
abbrev pub Follows : {K : Type 0} → Kind.Ghosts K → Reckoned.Ghosts K → Call K → Sheet K → Sheet K → Reply K → Type 0
Follows N R c s t a = (h : History _) → Keeps N R h s → Keeps N R (after R h c) t × (a ≡ answer R h c)

-- what no call alters: the unit number, how long the table is, and what lies past its first 1,048,576
pub record SameBook {K : Type 0} (R : Reckoned.Ghosts K) (s t : Sheet K) : Type 0 where
  pub unit : t.unit ≡ s.unit
  pub table : SameTable R s.cells t.cells

-- what a call leaves: the same unit number, these entries, this parking, and the table as long as it was and untouched past
-- its first 1,048,576
pub record Left {K : Type 0} (R : Reckoned.Ghosts K) (s t : Sheet K) (xs : List K) (p : Option ℕ) : Type 0 where
  pub unit : t.unit ≡ s.unit
  pub entries : entries_of R t ≡ xs
  pub parked : t.parked ≡ p
  pub table : SameTable R s.cells t.cells

-- ---- what each call leaves where it is carried out, of sheets s before and t after it

module _ {K : Type 0} (N : Kind.Ghosts K) (R : Reckoned.Ghosts K) (s t : Sheet K) where
  -- the entry added, and the new count answered
  abbrev pub Entered : K → ℕ → Type 0
  Entered e n = (n ≡ s.cells.count + 1) × Left R s t (entries_of R s ++ (e ∷ [])) s.parked

  -- the entry at the place, and the one that stood there answered
  abbrev pub Corrected : ℕ → K → K → Type 0
  Corrected p e old = (entry_at (entries_of R s) p ≡ Ok old) × Left R s t (slice_set (entries_of R s) (p - 1) e) s.parked

  -- the amount joined to the entry at the place, and that answered
  abbrev pub Shifted : ℕ → K → K → Type 0
  Shifted p a new =
      ((e : K) → entry_at (entries_of R s) p ≡ Ok e → new ≡ R.join e a) × Left R s t (slice_set (entries_of R s) (p - 1) new) s.parked

  -- the last entry gone, and answered
  abbrev pub Struck : K → Type 0
  Struck e = (entry_at (entries_of R s) s.cells.count ≡ Ok e) × Left R s t (take (s.cells.count - 1) (entries_of R s)) s.parked

  -- the inverse of the total added, the total kept, and a slip of this unit answered
  abbrev pub Parked : Slip → Type 0
  Parked slip =
      (slip.unit ≡ s.unit)
      × (slip.spent ≡ false)
      × Left R s t (entries_of R s ++ (R.inverse (total R (entries_of R s)) ∷ [])) (Some (N.number (total R (entries_of R s))))

  -- the parked amount added, the parking ended, and the new count answered
  abbrev pub Restored : ℕ → Type 0
  Restored n =
      (n ≡ s.cells.count + 1)
      × ((e : K) × ((a : K) → s.parked ≡ Some (N.number a) → e ≡ a) × Left R s t (entries_of R s ++ (e ∷ [])) None)

  -- the parking ended, all else as it was, and the count answered
  abbrev pub GivenUp : ℕ → Type 0
  GivenUp n = (n ≡ s.cells.count) × Left R s t (entries_of R s) None × (t.cells ≡ s.cells)

-- ---- answers, as the history has them

abbrev pub number_told : {K : Type 0} → Result ℕ Refusal → Reply K
number_told (Ok n) = Ok (Number n)
number_told (Err f) = Err f

abbrev pub entry_told : {K : Type 0} → Result K Refusal → Reply K
entry_told (Ok e) = Ok (Entry e)
entry_told (Err f) = Err f

abbrev pub slip_told : {K : Type 0} → Result Slip Refusal → Reply K
slip_told (Ok slip) = Ok (answers.Slip slip.unit)
slip_told (Err f) = Err f

-- a slip that is handed back is no part of the answer
abbrev pub without_slip : {A : Type 0} → Result A HandedBack → Result A Refusal
without_slip (Ok n) = Ok n
without_slip (Err b) = Err b.refusal

-- Parking and ending it: what the sheet then refuses, leaves and tells. Assumes nothing.
use Rattle.std.proofs.Common.{◌≡◌, ℕ, ◌<◌, ◌≤◌, true, false, is_some, Some, None, Option, sym, refl, arith}
use Rattle.kinds.specs.Refusals.{refusal}
use Rattle.kinds.specs.declared.laws.Kind as Kind
use Rattle.kinds.specs.declared.laws.Reckoned as Reckoned
use Rattle.sheets.proofs.Keeping.{enough, too_little}
use Rattle.sheets.specs.History.{amount, free, refuses, park}
use Rattle.cells.specs.Cells.{SameTable}
use Rattle.cells.specs.declared.table.Cells.{Cells}
use Rattle.sheets.specs.Sheets.{as_number, stands}
use Rattle.sheets.specs.declared.sheet.Sheet.{Sheet}

module _ {K : Type 0} (s : Sheet K) where
  -- the two questions of park
  pub parked_already : true ≡ is_some s.parked → refuses {K = K} (stands s) park ≡ Some (refusal 4)
  parked_already e = rw (sym e)

  pub parked_full : (x : ℕ) → false ≡ is_some s.parked → x ≡ free (stands s) → x < 2 → refuses {K = K} (stands s) park ≡ Some (refusal 2)
  parked_full x e is few = rw (sym e) (too_little 2 (free (stands s)) 2 2 x refl is few)

  pub parked_fits : (x : ℕ) → false ≡ is_some s.parked → x ≡ free (stands s) → 2 ≤ x → refuses {K = K} (stands s) park ≡ None
  parked_fits x e is two = rw (sym e) (enough 2 (free (stands s)) 2 2 x refl is two)

-- the amount that the kept number denotes is the history's
pub amount_so : {K : Type 0} (N : Kind.Ghosts K) (R : Reckoned.Ghosts K) (o : Option K) (n : ℕ) (r : K) → as_number N o ≡ Some n → ((t : K) → N.number t ≡ n → r ≡ t) → r ≡ amount R o
amount_so N R None n r is read = let z : ◌≡◌ {A = ℕ} 0 1 = cc in absurd (omega arith)
amount_so N R (Some t) n r is read = let same : N.number t ≡ n = cc in read t same

-- a table that is not touched
pub untouched : {K : Type 0} (R : Reckoned.Ghosts K) (c : Cells K) → SameTable R c c
untouched R c = record { cells = refl; beyond = refl; clean = λ clean. clean }

-- A ledger holds a slip just while its sheet is parked, and it is that sheet's. Assumes nothing.
use Rattle.std.specs.Prelude.{ℕ, Bool, true, false, Some, None, Ok, Err, Option, Result, ◌==◌}
use Rattle.kinds.specs.declared.refusal.Refusal.{Refusal}
use Rattle.sheets.specs.History.{Reply}
use Rattle.sheets.specs.declared.answer.Answer.TheVariants as answers
use Rattle.sheets.specs.declared.slip.Slip.{Slip}

-- a slip, a unit number and a parked amount that go together
abbrev pub fit : Option Slip → ℕ → Option ℕ → Bool
fit None unit None = true
fit None unit (Some t) = false
fit (Some slip) unit None = false
fit (Some slip) unit (Some t) = slip.unit == unit

-- a ledger keeps the slip of a sheet with this unit number, and tells the new count in its place
abbrev pub slip_kept : {K : Type 0} → ℕ → Result ℕ Refusal → Reply K
slip_kept unit (Ok n) = Ok (answers.Slip unit)
slip_kept unit (Err f) = Err f

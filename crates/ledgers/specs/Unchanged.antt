-- What a call on a ledger leaves as it was. Assumes nothing.
use Rattle.kinds.specs.declared.refusal.Refusal.{Refusal}
use Rattle.ledgers.specs.declared.ledger.Ledger.{Ledger}
use Rattle.sheets.specs.History.{Reply}
use Rattle.std.specs.Prelude.{◌≡◌, OnErr, Ok, Err, Result}

-- the slip stays where it is, and a refused call leaves the sheet too
abbrev pub Unchanged : {K A : Type 0} → Result A Refusal → Ledger K → Ledger K → Type 0
Unchanged (Ok x) l m = m.slip ≡ l.slip
Unchanged (Err f) l m = (m.sheet ≡ l.sheet) × (m.slip ≡ l.slip)

-- a call that was turned down leaves both
abbrev pub TurnedDown : {K : Type 0} → Reply K → Ledger K → Ledger K → Type 0
TurnedDown r l m = OnErr r ((m.sheet ≡ l.sheet) × (m.slip ≡ l.slip))

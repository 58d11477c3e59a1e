-- Worked examples of sheets, put to the definitions themselves. Assumes nothing.
use Rattle.std.specs.Prelude.{◌≡◌, ◌-◌, List, [], ◌∷◌, map, ℤ, pos, negsuc, ◌+ℤ◌, neg_ℤ, None, Ok, Err}
use Rattle.cells.specs.Cells.{decoded, own}
use Rattle.cells.specs.Spans.{span}
use Rattle.kinds.specs.Totals.{total}
use Rattle.kinds.specs.declared.laws.Reckoned.{Ghosts}
use Rattle.kinds.specs.declared.refusal.Refusal.TheVariants.{NoPlace, NoCells, NothingToStrike, AlreadyParked, WrongSlip}
use Rattle.ledgers.specs.Law.{closed_history, history, replies}
use Rattle.ledgers.specs.declared.call.Call as asked
use Rattle.ledgers.specs.declared.call.Call.TheVariants.{Enter, Correct, Shift, Strike, Park, Restore, GiveUp, At, Total, Count}
use Rattle.runs.specs.Places.{part}
use Rattle.sheets.specs.History.{answer, restore}
use Rattle.sheets.specs.declared.answer.Answer.TheVariants.{Number, Entry, Slip}

-- the integers under addition serve as entries here (`negsuc n` is −(n + 1))
abbrev sums : Ghosts ℤ
sums = record { zero = pos 0; join = ◌+ℤ◌; inverse = neg_ℤ }

-- 40 and −3 driven, parked, 7 driven, restored; then the total of five, and a correction at a place that is not there
abbrev season : List (asked.Call ℤ)
season = Enter (pos 40) ∷ Enter (negsuc 2) ∷ Park ∷ Enter (pos 7) ∷ Restore ∷ Total 5 ∷ Correct 9 (pos 1) ∷ []

-- every question that a sheet of three cells can put
abbrev refused : List (asked.Call ℤ)
refused =
    Strike ∷ Restore ∷ GiveUp ∷ At 0 ∷ Total 1 ∷ Enter (pos 5) ∷ Park ∷ Park ∷ Enter (pos 1) ∷ Restore ∷ Enter (pos 1) ∷ Park ∷ []

-- corrected, shifted and struck
abbrev mended : List (asked.Call ℤ)
mended = Enter (pos 5) ∷ Enter (pos 6) ∷ Correct 1 (pos 2) ∷ Shift 2 (pos 10) ∷ At 2 ∷ Enter (pos 9) ∷ Strike ∷ Count ∷ []

pub record Examples : Type 0 where
  pub season_entries : (history sums 7 8 season).entries ≡ pos 40 ∷ negsuc 2 ∷ negsuc 36 ∷ pos 7 ∷ pos 37 ∷ []
  pub season_balance : (history sums 7 8 season).balance ≡ pos 44
  pub season_answers : replies sums 7 8 season ≡ Ok (Number 1) ∷ Ok (Number 2) ∷ Ok (Slip 7) ∷ Ok (Number 4) ∷ Ok (Number 5) ∷ Ok (Entry (pos 44)) ∷ Err NoPlace ∷ []
  pub refusals : replies sums 7 3 refused ≡ Err NothingToStrike ∷ Err WrongSlip ∷ Err WrongSlip ∷ Err NoPlace ∷ Err NoPlace ∷ Ok (Number 1) ∷ Ok (Slip 7) ∷ Err AlreadyParked ∷ Err NoCells ∷ Ok (Number 3) ∷ Err NoCells ∷ Err NoCells ∷ []
  pub mended_entries : (history sums 7 8 mended).entries ≡ pos 2 ∷ pos 16 ∷ []
  pub mended_balance : (history sums 7 8 mended).balance ≡ pos 18
  pub mended_answers : replies sums 7 8 mended ≡ Ok (Number 1) ∷ Ok (Number 2) ∷ Ok (Entry (pos 5)) ∷ Ok (Entry (pos 16)) ∷ Ok (Entry (pos 16)) ∷ Ok (Number 3) ∷ Ok (Entry (pos 9)) ∷ Ok (Number 2) ∷ []
  -- a slip still held at the end is given up: the amount stays off the balance
  pub given_up : (closed_history sums 7 8 (Enter (pos 5) ∷ Park ∷ [])).parked ≡ None
  pub given_up_balance : (closed_history sums 7 8 (Enter (pos 5) ∷ Park ∷ [])).balance ≡ pos 0
  -- a slip of another unit
  pub other_unit : answer sums (history sums 7 8 (Enter (pos 5) ∷ Park ∷ [])) (restore 8) ≡ Err WrongSlip
  -- how far the cells of the places 1 to 8 reach
  pub spans : map span (1 ∷ 2 ∷ 3 ∷ 4 ∷ 5 ∷ 6 ∷ 7 ∷ 8 ∷ []) ≡ 1 ∷ 2 ∷ 1 ∷ 4 ∷ 1 ∷ 2 ∷ 1 ∷ 8 ∷ []
  -- the cells of the season's entries: 40, 40 − 3, −37, 40 − 3 − 37 + 7, 37; and the entries that they stand for
  pub fourth_cell : total sums (part (history sums 7 8 season).entries (4 - 4) 4) ≡ pos 7
  pub decoding : decoded sums (pos 40 ∷ pos 37 ∷ negsuc 36 ∷ pos 7 ∷ pos 37 ∷ pos 0 ∷ []) 5 ≡ pos 40 ∷ negsuc 2 ∷ negsuc 36 ∷ pos 7 ∷ pos 37 ∷ []
  pub own_cells : map own (0 ∷ 1048575 ∷ 1048576 ∷ 1048577 ∷ []) ≡ 0 ∷ 1048575 ∷ 1048576 ∷ 1048576 ∷ []

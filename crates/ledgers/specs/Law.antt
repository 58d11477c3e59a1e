-- The law of sheets: whatever is done to a sheet, its total and its cells are what its history says. Assumes nothing.
use Rattle.std.specs.Prelude.{◌≡◌, ℕ, List, map, length, take, drop, vec_items}
use Rattle.cells.specs.Cells.{limit, own}
use Rattle.kinds.specs.Totals.{total}
use Rattle.kinds.specs.declared.laws.Kind as Kind
use Rattle.kinds.specs.declared.laws.Reckoned as Reckoned
use Rattle.ledgers.specs.declared.call.Call as asked
use Rattle.ledgers.specs.declared.call.Call.TheVariants.{Enter, Correct, Shift, Strike, Park, Restore, GiveUp, At, Total, Count}
use Rattle.sheets.specs.History.{Call, History, Reply, after, after_all, answers, begun, enter, correct, shift, strike, park, restore, give_up, at, total_of, count}
use Rattle.sheets.specs.Sheets.{Keeps, cells_of}
use Rattle.sheets.specs.declared.sheet.Sheet.{Sheet}

-- a call by the slip then held: the slip of a sheet bears its unit number, and where none is held the sheet is not parked
abbrev pub by_slip : {K : Type 0} → ℕ → asked.Call K → Call K
by_slip unit (Enter e) = enter e
by_slip unit (Correct p e) = correct p e
by_slip unit (Shift p a) = shift p a
by_slip unit Strike = strike
by_slip unit Park = park
by_slip unit Restore = restore unit
by_slip unit GiveUp = give_up unit
by_slip unit (At p) = at p
by_slip unit (Total i) = total_of i
by_slip unit Count = count

-- the history of a sheet of so many cells that is made and given these calls
abbrev pub history : {K : Type 0} → Reckoned.Ghosts K → ℕ → ℕ → List (asked.Call K) → History K
history R unit cells calls = after_all R (begun R unit cells) (map (by_slip unit) calls)

-- what those calls answer
abbrev pub replies : {K : Type 0} → Reckoned.Ghosts K → ℕ → ℕ → List (asked.Call K) → List (Reply K)
replies R unit cells calls = answers R (begun R unit cells) (map (by_slip unit) calls)

-- and its history when it is closed at last, a slip still held being given up
abbrev pub closed_history : {K : Type 0} → Reckoned.Ghosts K → ℕ → ℕ → List (asked.Call K) → History K
closed_history R unit cells calls = after R (history R unit cells calls) (give_up unit)

-- the cells that are a sheet's own
abbrev pub own_cells : {K : Type 0} → Sheet K → List K
own_cells s = take (cells_of s) (vec_items s.cells.table)

-- the law, of a sheet made of a table, given a list of calls and closed, of the total of all its entries, and of the
-- answers: the total is the history's balance; every answer is the history's; the sheet keeps the history, so that every
-- cell holds what its place asks for; and any sheet that keeps a history with equal entries and equally many cells differs
-- in no cell
pub record Law {K : Type 0} (N : Kind.Ghosts K) (R : Reckoned.Ghosts K) (unit : ℕ) (table : List K) (calls : List (asked.Call K)) (s : Sheet K) (t : K) (rs : List (Reply K)) : Type 0 where
  pub total_of_entries : t ≡ total R (closed_history R unit (own (length table)) calls).entries
  pub total_follows_history : t ≡ (closed_history R unit (own (length table)) calls).balance
  pub answers_follow_history : rs ≡ replies R unit (own (length table)) calls
  pub keeps_history : Keeps N R (closed_history R unit (own (length table)) calls) s
  pub equal_entries_equal_cells : (g : History K) (other : Sheet K) → Keeps N R g other → g.entries ≡ (closed_history R unit (own (length table)) calls).entries → g.cells ≡ own (length table) → own_cells other ≡ own_cells s
  pub beyond_untouched : drop limit (vec_items s.cells.table) ≡ drop limit table

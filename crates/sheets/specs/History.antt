-- The history of a sheet: what was done to it, apart from any cells. Assumes nothing.
use Rattle.std.specs.Prelude.{ℕ, ◌+◌, ◌-◌, Bool, true, false, not, ◌&&◌, List, [], ◌∷◌, ◌++◌, length, take, is_some, Some, None, Option, Ok, Err, Result, ◌==◌, nat_le, slice_index_or, slice_set}
use Rattle.kinds.specs.Refusals.{refusal}
use Rattle.kinds.specs.Totals.{total}
use Rattle.kinds.specs.declared.laws.Reckoned.{Ghosts}
use Rattle.kinds.specs.declared.refusal.Refusal.{Refusal}
use Rattle.sheets.specs.declared.answer.Answer.{Answer}
use Rattle.sheets.specs.declared.answer.Answer.TheVariants.{Number, Entry, Slip}

-- what a sheet is asked; a slip counts as its unit number
pub data Call (K : Type 0) : Type 0 where
  enter : K → Call K
  correct : ℕ → K → Call K
  shift : ℕ → K → Call K
  strike : Call K
  park : Call K
  restore : ℕ → Call K
  give_up : ℕ → Call K
  at : ℕ → Call K
  total_of : ℕ → Call K
  count : Call K

-- what has become of a sheet: its unit number, how many cells it has, its entries, the parked amount if there is one, and
-- the balance of all that was entered
pub record History (K : Type 0) : Type 0 where
  pub unit : ℕ
  pub cells : ℕ
  pub entries : List K
  pub parked : Option K
  pub balance : K

-- the history of a sheet just made
abbrev pub begun : {K : Type 0} → Ghosts K → ℕ → ℕ → History K
begun R unit cells = record { unit = unit; cells = cells; entries = []; parked = None; balance = R.zero }

-- what a call is told: an answer, or why it is refused
abbrev pub Reply : Type 0 → Type 0
Reply K = Result (Answer K) Refusal

-- ---- which calls are refused

-- all that decides it: unit number, cells, entries so far, and whether an amount is parked
pub record Standing : Type 0 where
  pub unit : ℕ
  pub cells : ℕ
  pub count : ℕ
  pub parked : Bool

-- how many cells have no entry
abbrev pub free : Standing → ℕ
free s = s.cells - s.count

-- a question: where the answer is no, the refusal of that number
abbrev pub asks : Bool → ℕ → Option Refusal
asks true n = None
asks false n = Some (refusal n)

-- two questions, one put before the other
abbrev pub first : Option Refusal → Option Refusal → Option Refusal
first None next = next
first (Some f) next = Some f

-- is the place from 1 to n?
abbrev pub has_place : Standing → ℕ → Option Refusal
has_place s p = asks (nat_le 1 p && nat_le p s.count) 1

-- is the sheet parked, and its unit number the slip's?
abbrev pub takes_slip : Standing → ℕ → Option Refusal
takes_slip s u = asks (s.parked && u == s.unit) 5

-- how many cells enter wants free: one, or two while parked
abbrev pub wanted : Bool → ℕ
wanted false = 1
wanted true = 2

-- the refusal of a call, if it is refused
abbrev pub refuses : {K : Type 0} → Standing → Call K → Option Refusal
refuses s (enter e) = asks (nat_le (wanted s.parked) (free s)) 2
refuses s (correct p e) = has_place s p
refuses s (shift p a) = has_place s p
refuses s strike = asks (nat_le 1 s.count) 3
refuses s park = first (asks (not s.parked) 4) (asks (nat_le 2 (free s)) 2)
refuses s (restore u) = takes_slip s u
refuses s (give_up u) = takes_slip s u
refuses s (at p) = has_place s p
refuses s (total_of i) = asks (nat_le i s.count) 1
refuses s count = None

abbrev pub standing : {K : Type 0} → History K → Standing
standing h = record { unit = h.unit; cells = h.cells; count = length h.entries; parked = is_some h.parked }

-- ---- what a call leaves, and what it answers

module _ {K : Type 0} (R : Ghosts K) where
  -- the entry at a place
  abbrev pub entry : History K → ℕ → K
  entry h p = slice_index_or h.entries (p - 1) R.zero

  -- the amount that is parked
  abbrev pub amount : Option K → K
  amount (Some t) = t
  amount None = R.zero

  -- the same sheet with these entries, this parking and this balance
  abbrev become : History K → List K → Option K → K → History K
  become h xs parked balance = record { unit = h.unit; cells = h.cells; entries = xs; parked = parked; balance = balance }

  -- the history after a call that is carried out
  abbrev pub carried : History K → Call K → History K
  carried h (enter e) = become h (h.entries ++ (e ∷ [])) h.parked (R.join h.balance e)
  carried h (correct p e) = become h (slice_set h.entries (p - 1) e) h.parked (R.join (R.join h.balance e) (R.inverse (entry h p)))
  carried h (shift p a) = become h (slice_set h.entries (p - 1) (R.join (entry h p) a)) h.parked (R.join h.balance a)
  carried h strike = become h (take (length h.entries - 1) h.entries) h.parked (R.join h.balance (R.inverse (entry h (length h.entries))))
  carried h park = become h (h.entries ++ (R.inverse h.balance ∷ [])) (Some h.balance) R.zero
  carried h (restore u) = become h (h.entries ++ (amount h.parked ∷ [])) None (R.join h.balance (amount h.parked))
  carried h (give_up u) = become h h.entries None h.balance
  carried h (at p) = h
  carried h (total_of i) = h
  carried h count = h

  -- what a call that is carried out answers
  abbrev pub told : History K → Call K → Answer K
  told h (enter e) = Number (length h.entries + 1)
  told h (correct p e) = Entry (entry h p)
  told h (shift p a) = Entry (R.join (entry h p) a)
  told h strike = Entry (entry h (length h.entries))
  told h park = Slip h.unit
  told h (restore u) = Number (length h.entries + 1)
  told h (give_up u) = Number (length h.entries)
  told h (at p) = Entry (entry h p)
  told h (total_of i) = Entry (total R (take i h.entries))
  told h count = Number (length h.entries)

  -- by whether it is refused
  abbrev pub unless : {X : Type 0} → Option Refusal → X → (Refusal → X) → X
  unless None x refused = x
  unless (Some f) x refused = refused f

  -- the history after a call: a refused call changes nothing
  unfoldable pub after : History K → Call K → History K
  after h c = unless (refuses (standing h) c) (carried h c) (λ f. h)

  -- what a call answers
  unfoldable pub answer : History K → Call K → Reply K
  answer h c = unless (refuses (standing h) c) (Ok (told h c)) Err

  -- the history after a list of calls, and what they answer
  unfoldable pub after_all : History K → List (Call K) → History K
  after_all h [] = h
  after_all h (c ∷ cs) = after_all (after h c) cs

  unfoldable pub answers : History K → List (Call K) → List (Reply K)
  answers h [] = []
  answers h (c ∷ cs) = answer h c ∷ answers (after h c) cs

-- The refusals of the whole product and their numbers. Assumes nothing.
use Rattle.std.specs.Prelude.{◌≡◌, ℕ, cond, List, [], ◌∷◌, length, ◌==◌, MatchResult, Result}
use Rattle.kinds.specs.declared.refusal.Refusal.{Refusal}
use Rattle.kinds.specs.declared.refusal.Refusal.TheVariants.{NoPlace, NoCells, NothingToStrike, AlreadyParked, WrongSlip, NotAForm, BadHead, OtherKind, UnlawfulPlan, TooManyEntries, BadLevel, StrayOnwardBits, BadDirectory, StrayChunkBits, EmptyTopChunk, NoSuchEntry, NoRoom, NoMemory}
use Rattle.std.specs.List.{Contains}

-- the number of each refusal; 18 to 23 are kept for extensions
abbrev pub number : Refusal → ℕ
number NoPlace = 1
number NoCells = 2
number NothingToStrike = 3
number AlreadyParked = 4
number WrongSlip = 5
number NotAForm = 6
number BadHead = 7
number OtherKind = 8
number UnlawfulPlan = 9
number TooManyEntries = 10
number BadLevel = 11
number StrayOnwardBits = 12
number BadDirectory = 13
number StrayChunkBits = 14
number EmptyTopChunk = 15
number NoSuchEntry = 16
number NoRoom = 17
number NoMemory = 24

-- every refusal, in the order of the numbers
abbrev pub every : List Refusal
every =
    NoPlace ∷ NoCells ∷ NothingToStrike ∷ AlreadyParked ∷ WrongSlip ∷ NotAForm ∷ BadHead ∷ OtherKind ∷ UnlawfulPlan
    ∷ TooManyEntries ∷ BadLevel ∷ StrayOnwardBits ∷ BadDirectory ∷ StrayChunkBits ∷ EmptyTopChunk ∷ NoSuchEntry ∷ NoRoom
    ∷ NoMemory ∷ []

-- the first of a list that has a number
abbrev first_of : ℕ → List Refusal → Refusal
first_of n [] = NoMemory
first_of n (x ∷ xs) = cond (number x == n) x (first_of n xs)

-- the refusal that has a number: how promises name one (they name no number that none has)
abbrev pub refusal : ℕ → Refusal
refusal n = first_of n every

-- what is answered, or want of memory and nothing else
abbrev pub OrNoMemory : {A : Type 0} → Result A Refusal → (A → Type 0) → Type 0
OrNoMemory r P = MatchResult r P (λ f. f ≡ refusal 24)

-- there are eighteen refusals, all of them listed; no two have one number, and each is found by its own
pub record Numbered : Type 0 where
  pub how_many : length every ≡ 18
  pub all_listed : (x : Refusal) → Contains every x
  pub distinct : (x y : Refusal) → number x ≡ number y → x ≡ y
  pub found : (x : Refusal) → refusal (number x) ≡ x

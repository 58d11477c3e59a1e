-- The refusals are listed, and no two have one number. Assumes nothing.
use Rattle.kinds.specs.Refusals.{Numbered, number, every, refusal}
use Rattle.kinds.specs.declared.refusal.Refusal.{Refusal}
use Rattle.kinds.specs.declared.refusal.Refusal.TheVariants.{NoPlace, NoCells, NothingToStrike, AlreadyParked, WrongSlip, NotAForm, BadHead, OtherKind, UnlawfulPlan, TooManyEntries, BadLevel, StrayOnwardBits, BadDirectory, StrayChunkBits, EmptyTopChunk, NoSuchEntry, NoRoom, NoMemory}
use Rattle.std.proofs.lemmas.List.Elements.{Contains-get_or}
use Rattle.std.specs.List.{Contains}
use Rattle.std.proofs.Common.{◌≡◌, sym, refl, ap, ◌∙◌, lit<}

-- each refusal is found by its number
back : (x : Refusal) → refusal (number x) ≡ x
back NoPlace = refl
back NoCells = refl
back NothingToStrike = refl
back AlreadyParked = refl
back WrongSlip = refl
back NotAForm = refl
back BadHead = refl
back OtherKind = refl
back UnlawfulPlan = refl
back TooManyEntries = refl
back BadLevel = refl
back StrayOnwardBits = refl
back BadDirectory = refl
back StrayChunkBits = refl
back EmptyTopChunk = refl
back NoSuchEntry = refl
back NoRoom = refl
back NoMemory = refl

listed : (x : Refusal) → Contains every x
listed NoPlace = Contains-get_or every 0 NoMemory (lit< tt)
listed NoCells = Contains-get_or every 1 NoMemory (lit< tt)
listed NothingToStrike = Contains-get_or every 2 NoMemory (lit< tt)
listed AlreadyParked = Contains-get_or every 3 NoMemory (lit< tt)
listed WrongSlip = Contains-get_or every 4 NoMemory (lit< tt)
listed NotAForm = Contains-get_or every 5 NoMemory (lit< tt)
listed BadHead = Contains-get_or every 6 NoMemory (lit< tt)
listed OtherKind = Contains-get_or every 7 NoMemory (lit< tt)
listed UnlawfulPlan = Contains-get_or every 8 NoMemory (lit< tt)
listed TooManyEntries = Contains-get_or every 9 NoMemory (lit< tt)
listed BadLevel = Contains-get_or every 10 NoMemory (lit< tt)
listed StrayOnwardBits = Contains-get_or every 11 NoMemory (lit< tt)
listed BadDirectory = Contains-get_or every 12 NoMemory (lit< tt)
listed StrayChunkBits = Contains-get_or every 13 NoMemory (lit< tt)
listed EmptyTopChunk = Contains-get_or every 14 NoMemory (lit< tt)
listed NoSuchEntry = Contains-get_or every 15 NoMemory (lit< tt)
listed NoRoom = Contains-get_or every 16 NoMemory (lit< tt)
listed NoMemory = Contains-get_or every 17 NoMemory (lit< tt)

pub numbered : Numbered
numbered = record {
  how_many = refl;
  all_listed = listed;
  distinct = λ x y e. sym (back x) ∙ ap refusal e ∙ back y;
  found = back;
}

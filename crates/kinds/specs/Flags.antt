-- How flags join: by exclusive or. Assumes nothing.
use Rattle.std.specs.Prelude.{bit_xor}
use Rattle.kinds.specs.declared.flags.Flags.{Flags}
use Rattle.kinds.specs.declared.laws.Reckoned.{Ghosts}
use Rattle.std.proofs.Common.{lit<}
use Rattle.std.proofs.lemmas.Nat.{xor_lt}

abbrev pub none : Flags
none = record { value = 0; fits = lit< tt }

-- the exclusive or of the two bytes
abbrev pub both : Flags → Flags → Flags
both a b = record { value = bit_xor a.value b.value; fits = xor_lt 8 a.value b.value a.fits b.fits }

-- an entry takes itself back
abbrev pub back : Flags → Flags
back a = a

-- the three together: how flags are reckoned
abbrev pub reckoned : Ghosts Flags
reckoned = record { zero = none; join = both; inverse = back }

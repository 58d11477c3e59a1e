-- How counts join: as the numbers modulo 2^32. Assumes nothing.
use Rattle.std.specs.Prelude.{ℕ, ◌+◌, ◌-◌, ◌%◌, ◌^◌}
use Rattle.kinds.specs.declared.counts.Counts.{Counts}
use Rattle.kinds.specs.declared.laws.Reckoned.{Ghosts}
use Rattle.std.proofs.Common.{arith}

-- what a number is modulo 2^32, as an entry
abbrev residue : ℕ → Counts
residue n = record { value = n % 2 ^ 32; fits = omega arith }

abbrev pub none : Counts
none = residue 0

-- the sum modulo 2^32
abbrev pub both : Counts → Counts → Counts
both a b = residue (a.value + b.value)

-- what is missing to 2^32
abbrev pub back : Counts → Counts
back a = residue (2 ^ 32 - a.value)

-- the three together: how counts are reckoned
abbrev pub reckoned : Ghosts Counts
reckoned = record { zero = none; join = both; inverse = back }

-- How notches join: as the numbers modulo 5. Assumes nothing.
use Rattle.std.specs.Prelude.{ℕ, ◌+◌, ◌-◌, ◌%◌}
use Rattle.kinds.specs.declared.laws.Reckoned.{Ghosts}
use Rattle.trials.specs.declared.notch.Notch.{Notch}
use Rattle.std.proofs.Common.{arith}

abbrev turned : ℕ → Notch
turned n = record { value = n % 5; known = omega arith }

abbrev pub none : Notch
none = turned 0

abbrev pub both : Notch → Notch → Notch
both a b = turned (a.value + b.value)

abbrev pub back : Notch → Notch
back a = turned (5 - a.value)

-- the three together: how notches are reckoned
abbrev pub reckoned : Ghosts Notch
reckoned = record { zero = none; join = both; inverse = back }

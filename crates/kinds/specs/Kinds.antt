-- The four kinds of the product: what each is known by, and how wide its numbers are. Assumes nothing.
use Rattle.std.specs.Prelude.{◌≡◌, ℕ}

pub data Named : Type 0 where
  counts : Named
  steps : Named
  flags : Named
  faults : Named

-- the kind number
abbrev pub code_of : Named → ℕ
code_of counts = 1
code_of steps = 2
code_of flags = 3
code_of faults = 4

-- how many bits a number has
abbrev pub width_of : Named → ℕ
width_of counts = 32
width_of steps = 32
width_of flags = 8
width_of faults = 4

-- no two of them are known by one number
abbrev pub CodesDiffer : Type 0
CodesDiffer = (a b : Named) → code_of a ≡ code_of b → a ≡ b

-- How steps are numbered and how they join. Assumes nothing.
use Rattle.std.specs.Prelude.{ℕ, ◌+◌, ◌*◌, ℤ, pos, negsuc, ◌+ℤ◌, neg_ℤ}
use Rattle.kinds.specs.declared.steps.Steps.{Steps}
use Rattle.kinds.specs.declared.laws.Kind as Kind
use Rattle.kinds.specs.declared.laws.Reckoned.{Ghosts}
use Rattle.std.proofs.lemmas.Int.{SFits-int_wrap}
use Rattle.std.specs.Int.{int_wrap, w32}

-- the number of a step s: 2s, or −2s − 1 when s is negative (`negsuc n` is −(n + 1))
abbrev pub zigzag : ℤ → ℕ
zigzag (pos n) = 2 * n
zigzag (negsuc n) = 2 * n + 1

-- an integer modulo 2^32, read back as a signed number of 32 bits
abbrev read_back : ℤ → Steps
read_back z = record { value = int_wrap w32 z; fits = (SFits-int_wrap w32 z).sfits }

abbrev pub none : Steps
none = read_back (pos 0)

-- the sum modulo 2^32, read back as signed
abbrev pub both : Steps → Steps → Steps
both a b = read_back (a.value +ℤ b.value)

-- the opposite modulo 2^32, read back as signed
abbrev pub back : Steps → Steps
back a = read_back (neg_ℤ a.value)

-- the three together: how steps are reckoned
abbrev pub reckoned : Ghosts Steps
reckoned = record { zero = none; join = both; inverse = back }

-- and how they are numbered: width, kind number and the number of each
abbrev pub numbering : Kind.Ghosts Steps
numbering = record { WIDTH = 32; CODE = 2; number = λ s. zigzag s.value }

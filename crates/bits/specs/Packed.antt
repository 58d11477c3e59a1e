-- Chunks of equal width packed into words, the whole as one large number. Assumes nothing.
use Rattle.std.specs.Prelude.{◌≡◌, ℕ, ◌+◌, ◌*◌, ◌/◌, ◌%◌, ◌^◌, List, [], ◌∷◌, length}
use Rattle.bits.specs.declared.width.Width.{Width}
use Rattle.bits.specs.declared.width.Width.TheVariants.{One, Two, Four, Eight, Sixteen}

-- how many bits a chunk has
abbrev pub bits_of : Width → ℕ
bits_of One = 1
bits_of Two = 2
bits_of Four = 4
bits_of Eight = 8
bits_of Sixteen = 16

-- the number that digits of b bits make, the first the least
abbrev pub packed : ℕ → List ℕ → ℕ
packed b [] = 0
packed b (x ∷ xs) = packed b xs * 2 ^ b + x

-- the digit of b bits at place t of a number, places counted from 0
abbrev pub digit : ℕ → ℕ → ℕ → ℕ
digit b t n = n / 2 ^ (b * t) % 2 ^ b

-- the number that a part is: its words of 32 bits, the first the least
abbrev pub number_of : List ℕ → ℕ
number_of words = packed 32 words

-- x put in the place of digit t: as many words, and that digit alone is another
pub record Put (b t x : ℕ) (old new : List ℕ) : Type 0 where
  pub long : length new ≡ length old
  pub put : number_of new + digit b t (number_of old) * 2 ^ (b * t) ≡ number_of old + x % 2 ^ b * 2 ^ (b * t)

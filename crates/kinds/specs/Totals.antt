-- What the entries of a reckoned kind come to. Assumes nothing.
use Rattle.kinds.specs.declared.laws.Reckoned.{Ghosts}
use Rattle.std.specs.Prelude.{◌≡◌, List, [], ◌∷◌}

-- all the entries joined, zero if there are none
abbrev pub total : {K : Type 0} → Ghosts K → List K → K
total R [] = R.zero
total R (x ∷ xs) = R.join x (total R xs)

-- the laws of a commutative group
pub record Group {K : Type 0} (R : Ghosts K) : Type 0 where
  pub associative : (a b c : K) → R.join (R.join a b) c ≡ R.join a (R.join b c)
  pub commutative : (a b : K) → R.join a b ≡ R.join b a
  pub left : (a : K) → R.join R.zero a ≡ a
  pub right : (a : K) → R.join a R.zero ≡ a
  pub cancels : (a : K) → R.join a (R.inverse a) ≡ R.zero

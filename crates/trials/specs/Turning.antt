-- Notches of equal value are equal, and what joining them comes to. Assumes nothing.
use Rattle.std.specs.Prelude.{◌≡◌, ◌<◌}
use Rattle.kinds.specs.Totals.{Group}
use Rattle.trials.specs.Notches.{reckoned}
use Rattle.trials.specs.declared.notch.Notch.{Notch}
use Rattle.std.proofs.Common.{arith}
use mathlib.Core.HLevel.{is_prop→PathP}
use Rattle.std.proofs.Math.Bridge.{le_prop}

pub same_notches : (a b : Notch) → a.value ≡ b.value → a ≡ b
same_notches a b e = λ i. record { value = e i; known = is_prop→PathP (λ j. e j < 5) (λ j. le_prop) a.known b.known i }

pub notches_group : Group reckoned
notches_group = record {
  associative = λ a b c. same_notches _ _ (omega arith);
  commutative = λ a b. same_notches _ _ (omega arith);
  left = λ a. same_notches _ _ (omega (arith, a.known));
  right = λ a. same_notches _ _ (omega (arith, a.known));
  cancels = λ a. same_notches _ _ (omega (arith, a.known));
}

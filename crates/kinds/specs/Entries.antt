-- Entries of equal value are equal, and what joining them comes to. Assumes nothing.
use Rattle.std.specs.Prelude.{◌≡◌, ◌^◌, ◌<◌, ◌≤◌, ℤ, pos, negsuc, ◌+ℤ◌, neg_ℤ}
use Rattle.kinds.specs.declared.counts.Counts.{Counts}
use Rattle.kinds.specs.declared.faults.Faults.{Faults}
use Rattle.kinds.specs.declared.flags.Flags.{Flags}
use Rattle.kinds.specs.declared.steps.Steps.{Steps}
use Rattle.kinds.specs.Counts as counts
use Rattle.kinds.specs.Flags as flags
use Rattle.kinds.specs.Steps as steps
use Rattle.kinds.specs.Steps.{zigzag}
use Rattle.kinds.specs.Totals.{Group}
use Rattle.std.proofs.lemmas.Int.{int_wrap_fits, int_wrap-add_left, int_wrap-add_right}
use Rattle.std.specs.Int.{int_wrap, w32}
use Rattle.std.specs.Int.Bits.{xor_assoc, xor_zero_l, xor_zero_r, xor_self}
use Rattle.std.proofs.lemmas.Nat.{xor_comm}
use Rattle.std.proofs.Math.IntN.{+ℤ_assoc, +ℤ_comm, +ℤ_idl, +ℤ_idr, +ℤ_invr}
use mathlib.Core.HLevel.{is_prop→PathP}
use Rattle.std.proofs.Common.{sym, ap, ◌∙◌, arith}
use Rattle.std.specs.Int.Signed.{mag}
use Rattle.std.proofs.Math.Bridge.{le_prop}

pub same_counts : (a b : Counts) → a.value ≡ b.value → a ≡ b
same_counts a b e = λ i. record { value = e i; fits = is_prop→PathP (λ j. e j < 2 ^ 32) (λ j. le_prop) a.fits b.fits i }

pub same_steps : (a b : Steps) → a.value ≡ b.value → a ≡ b
same_steps a b e = λ i. record { value = e i; fits = is_prop→PathP (λ j. mag (e j) < 2 ^ 31) (λ j. le_prop) a.fits b.fits i }

pub same_flags : (a b : Flags) → a.value ≡ b.value → a ≡ b
same_flags a b e = λ i. record { value = e i; fits = is_prop→PathP (λ j. e j < 2 ^ 8) (λ j. le_prop) a.fits b.fits i }

pub same_faults : (a b : Faults) → a.value ≡ b.value → a ≡ b
same_faults a b e = λ i. record { value = e i; known = is_prop→PathP (λ j. e j ≤ 10) (λ j. le_prop) a.known b.known i }

-- counts, steps and flags are commutative groups
pub counts_group : Group counts.reckoned
counts_group = record {
  associative = λ a b c. same_counts _ _ (omega arith);
  commutative = λ a b. same_counts _ _ (omega arith);
  left = λ a. same_counts _ _ (omega (arith, a.fits));
  right = λ a. same_counts _ _ (omega (arith, a.fits));
  cancels = λ a. same_counts _ _ (omega (arith, a.fits));
}

pub flags_group : Group flags.reckoned
flags_group = record {
  associative = λ a b c. same_flags _ _ (xor_assoc a.value b.value c.value);
  commutative = λ a b. same_flags _ _ (xor_comm a.value b.value);
  left = λ a. same_flags _ _ (xor_zero_l a.value);
  right = λ a. same_flags _ _ (xor_zero_r a.value);
  cancels = λ a. same_flags _ _ (xor_self a.value);
}

-- a step of 32 bits is not changed by being read back
stays : (a : Steps) → int_wrap w32 a.value ≡ a.value
stays a = int_wrap_fits w32 a.value (record { sfits = a.fits })

pub steps_group : Group steps.reckoned
steps_group = record {
  associative = λ a b c. same_steps _ _ (int_wrap-add_left w32 (a.value +ℤ b.value) c.value
      ∙ ap (int_wrap w32) (+ℤ_assoc a.value b.value c.value)
      ∙ sym (int_wrap-add_right w32 a.value (b.value +ℤ c.value)));
  commutative = λ a b. same_steps _ _ (ap (int_wrap w32) (+ℤ_comm a.value b.value));
  left = λ a. same_steps _ _ (int_wrap-add_left w32 (pos 0) a.value ∙ ap (int_wrap w32) (+ℤ_idl a.value) ∙ stays a);
  right = λ a. same_steps _ _ (int_wrap-add_right w32 a.value (pos 0) ∙ ap (int_wrap w32) (+ℤ_idr a.value) ∙ stays a);
  cancels = λ a. same_steps _ _ (int_wrap-add_right w32 a.value (neg_ℤ a.value) ∙ ap (int_wrap w32) (+ℤ_invr a.value));
}

-- two integers with one number are equal
pub zigzag_distinct : (a b : ℤ) → zigzag a ≡ zigzag b → a ≡ b
zigzag_distinct (pos m) (pos n) e = ap pos (omega arith)
zigzag_distinct (pos m) (negsuc n) e = absurd (omega arith)
zigzag_distinct (negsuc m) (pos n) e = absurd (omega arith)
zigzag_distinct (negsuc m) (negsuc n) e = ap negsuc (omega arith)

-- a number of 32 bits is that of a step
pub zigzag_fits : (z : ℤ) → mag z < 2 ^ 31 → zigzag z < 2 ^ 32
zigzag_fits (pos n) h = omega arith
zigzag_fits (negsuc n) h = omega arith

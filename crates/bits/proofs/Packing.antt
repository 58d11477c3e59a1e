-- Digits of the large number that a part is. Assumes nothing.
use Rattle.std.proofs.Common.{◌≡◌, ℕ, zero, suc, ◌+◌, ◌-◌, ◌*◌, ◌/◌, ◌%◌, ◌^◌, ◌<◌, ◌≤◌, List, [], ◌∷◌, get_or, sym, ap, ◌∙◌, div-one, arith, shr-shr}
use Rattle.bits.specs.Packed.{digit, number_of}
use lib.Pow.{field, high, low, mod-mod-pow}
use native.Mathlib.Nat.{zero-div, zero-mod}

-- word i of a part
pub word_of : (ws : List ℕ) → ((i : ℕ) → get_or ws i 0 < 2 ^ 32) → (i : ℕ) → number_of ws / 2 ^ (32 * i) % 2 ^ 32 ≡ get_or ws i 0
word_of [] fits i = ap (λ n. n % 2 ^ 32) (zero-div (2 ^ (32 * i))) ∙ zero-mod (2 ^ 32)
word_of (w ∷ ws) fits zero = ap (λ n. n % 2 ^ 32) (div-one (number_of ws * 2 ^ 32 + w)) ∙ low (number_of ws) 32 (fits 0)
word_of (w ∷ ws) fits (suc i) =
    let more : 32 * suc i ≡ 32 + 32 * i = omega arith in
    ap (λ p. number_of (w ∷ ws) / 2 ^ p % 2 ^ 32) more
    ∙ ap (λ n. n % 2 ^ 32) (sym (shr-shr (number_of (w ∷ ws)) 32 (32 * i)))
    ∙ ap (λ n. n / 2 ^ (32 * i) % 2 ^ 32) (high (number_of ws) 32 (fits 0))
    ∙ word_of ws (λ j. fits (suc j)) i

-- a digit within a word
pub digit_within : (n q s b : ℕ) → s + b ≤ 32 → n / 2 ^ (32 * q + s) % 2 ^ b ≡ n / 2 ^ (32 * q) % 2 ^ 32 / 2 ^ s % 2 ^ b
digit_within n q s b fits =
    let m = n / 2 ^ (32 * q) in
    let whole : 32 ≡ 32 - s + s = omega arith in
    let rest : 32 - s ≡ 32 - s - b + b = omega arith in
    ap (λ x. x % 2 ^ b) (sym (shr-shr n (32 * q) s))
    ∙ sym (mod-mod-pow (m / 2 ^ s) (32 - s - b) b)
    ∙ ap (λ k. m / 2 ^ s % 2 ^ k % 2 ^ b) (sym rest)
    ∙ ap (λ x. x % 2 ^ b) (sym (field m (32 - s) s))
    ∙ ap (λ k. m % 2 ^ k / 2 ^ s % 2 ^ b) (sym whole)

-- the chunk of a word is the digit of the part
pub chunk_digit : (ws : List ℕ) (b t q s : ℕ) → ((i : ℕ) → get_or ws i 0 < 2 ^ 32) → 32 * q + s ≡ b * t → s + b ≤ 32 → get_or ws q 0 / 2 ^ s % 2 ^ b ≡ digit b t (number_of ws)
chunk_digit ws b t q s fits first within =
    ap (λ x. x / 2 ^ s % 2 ^ b) (sym (word_of ws fits q))
    ∙ sym (digit_within (number_of ws) q s b within)
    ∙ ap (λ p. number_of ws / 2 ^ p % 2 ^ b) first

-- Ones counted word by word. Assumes nothing.
use Rattle.std.proofs.Common.{◌≡◌, ℕ, zero, suc, ◌+◌, ◌-◌, ◌*◌, ◌/◌, ◌%◌, ◌^◌, ◌<◌, ◌≤◌, min, List, [], ◌∷◌, length, get_or, take, drop, sum_by, sym, ap, ◌∙◌, mod-lt, add_comm, arith, pow_pos}
use Rattle.bits.proofs.Packing.{word_of}
use Rattle.bits.specs.Packed.{number_of}
use Rattle.bits.specs.Ranks.{ones_before}
use Rattle.std.proofs.lemmas.List.{take-take, take_min}
use Rattle.std.proofs.lemmas.List.Sums.{sum_by-cons, sum_by-take-drop}
use Rattle.std.proofs.lemmas.Slice.{between_is}
use lib.Count.{ones, ones_cat, ones-le}
use lib.Pow.{high, low, mod-mod-pow, mod-pow-add}
use native.Mathlib.Nat.{zero-mod}

-- the ones before a bit are the ones before its word and those before it in its word
pub ones_split : (n q s : ℕ) → ones_before n (32 * q + s) ≡ ones_before n (32 * q) + ones (n / 2 ^ (32 * q) % 2 ^ s)
ones_split n q s =
    ap (λ p. ones (n % 2 ^ p)) (add_comm (32 * q) s)
    ∙ ap ones (mod-pow-add n s (32 * q))
    ∙ ones_cat (32 * q) (n / 2 ^ (32 * q) % 2 ^ s) (n % 2 ^ (32 * q)) (mod-lt n (pow_pos (32 * q)))
    ∙ add_comm (ones (n / 2 ^ (32 * q) % 2 ^ s)) (ones_before n (32 * q))

-- there are no more ones than bits
pub ones_few : (n p : ℕ) → ones_before n p ≤ p
ones_few n p = ones-le p (n % 2 ^ p) (mod-lt n (pow_pos p))

-- the ones before a word are those of the words before it
pub ones_words : (ws : List ℕ) → ((i : ℕ) → get_or ws i 0 < 2 ^ 32) → (k : ℕ) → ones_before (number_of ws) (32 * k) ≡ sum_by ones (take k ws)
ones_words ws fits zero = omega (arith, ones_few (number_of ws) 0)
ones_words [] fits (suc k) = ap ones (zero-mod (2 ^ (32 * suc k))) ∙ omega (arith, ones_few 0 0)
ones_words (w ∷ ws) fits (suc k) =
    let n = number_of ws in
    let more : 32 * suc k ≡ 32 * 1 + 32 * k = omega arith in
    ap (ones_before (n * 2 ^ 32 + w)) more
    ∙ ones_split (n * 2 ^ 32 + w) 1 (32 * k)
    ∙ ap (λ m. ones m + ones ((n * 2 ^ 32 + w) / 2 ^ 32 % 2 ^ (32 * k))) (low n 32 (fits 0))
    ∙ ap (λ m. ones w + ones (m % 2 ^ (32 * k))) (high n 32 (fits 0))
    ∙ ap (λ m. ones w + m) (ones_words ws (λ i. fits (suc i)) k)
    ∙ sym (sum_by-cons ones w (take k ws))

module _ (ws : List ℕ) (fits : (i : ℕ) → get_or ws i 0 < 2 ^ 32) where
  -- from one word to another, where words past the last are none
  pub ones_between : (i k : ℕ) → i ≤ k → ones_before (number_of ws) (32 * k) ≡ ones_before (number_of ws) (32 * i) + sum_by ones (take (min k (length ws) - min i (length ws)) (drop (min i (length ws)) ws))
  ones_between i k up =
      let a = min i (length ws) in
      let b = min k (length ws) in
      let front : take a (take b ws) ≡ take i ws = take-take a b ws (omega arith) ∙ take_min i ws in
      let parts = sum_by-take-drop ones (take b ws) a in
      ones_words ws fits k
      ∙ ap (sum_by ones) (sym (take_min k ws))
      ∙ sym parts
      ∙ ap (λ l. sum_by ones l + sum_by ones (drop a (take b ws))) front
      ∙ ap (λ m. m + sum_by ones (drop a (take b ws))) (sym (ones_words ws fits i))
      ∙ ap (λ l. ones_before (number_of ws) (32 * i) + sum_by ones l) (sym (between_is ws a b))

  -- and a part of a word
  pub ones_part : (q s : ℕ) → s ≤ 32 → ones_before (number_of ws) (32 * q + s) ≡ ones_before (number_of ws) (32 * q) + ones (get_or ws q 0 % 2 ^ s)
  ones_part q s few =
      let whole : 32 - s + s ≡ 32 = omega arith in
      ones_split (number_of ws) q s
      ∙ ap (λ w. ones_before (number_of ws) (32 * q) + ones w)
      (sym (mod-mod-pow (number_of ws / 2 ^ (32 * q)) (32 - s) s) ∙ ap (λ k. number_of ws / 2 ^ (32 * q) % 2 ^ k % 2 ^ s) whole ∙ ap (λ w. w % 2 ^ s) (word_of ws fits q))

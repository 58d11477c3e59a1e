-- How far cells reach: the largest power of two that divides a place. Assumes nothing.
use Rattle.std.proofs.Common.{◌≡◌, ℕ, zero, suc, ◌+◌, ◌-◌, ◌*◌, ◌/◌, ◌%◌, ◌^◌, ◌<◌, ◌≤◌, ◌⊎◌, sym, refl, ap, ◌∙◌, inl, inr, mul_assoc, le_antisymm, pow-suc, mul-one, arith, pow_pos}
use Rattle.cells.specs.Spans.{LargestPower, twos, span}
use lib.Count.{count_trailing_zeros}

-- even or odd
parity : (n : ℕ) → (n % 2 ≡ 0) ⊎ (n % 2 ≡ 1)
parity n = go (n % 2) refl
  where
    go : (r : ℕ) → n % 2 ≡ r → (n % 2 ≡ 0) ⊎ (n % 2 ≡ 1)
    go zero e = inl e
    go (suc zero) e = inr e
    go (suc (suc r)) e = absurd (omega arith)

-- two divides no odd number, and an even one once more often than its half; of k digits
odd_not : (k n : ℕ) → n % 2 ≡ 1 → count_trailing_zeros (suc k) n ≡ 0
unfolding count_trailing_zeros
odd_not k n e = rw e

even_more : (k n : ℕ) → n % 2 ≡ 0 → count_trailing_zeros (suc k) n ≡ suc (count_trailing_zeros k (n / 2))
unfolding count_trailing_zeros
even_more k n e = rw e

odd_one : (k n : ℕ) → n % 2 ≡ 1 → 2 ^ count_trailing_zeros (suc k) n ≡ 1
odd_one k n e = ap (λ t. 2 ^ t) (odd_not k n e)

even_double : (k n : ℕ) → n % 2 ≡ 0 → 2 ^ count_trailing_zeros (suc k) n ≡ 2 * 2 ^ count_trailing_zeros k (n / 2)
even_double k n e = ap (λ t. 2 ^ t) (even_more k n e) ∙ omega arith

-- the power is no more than the number
reach_le : (k n : ℕ) → 0 < n → n < 2 ^ k → 2 ^ count_trailing_zeros k n ≤ n
reach_le zero n pos below = absurd (omega arith)
reach_le (suc k) n pos below = go (parity n) (λ e. reach_le k (n / 2) (omega arith) (omega arith))
  where
    go : (n % 2 ≡ 0) ⊎ (n % 2 ≡ 1) → (n % 2 ≡ 0 → 2 ^ count_trailing_zeros k (n / 2) ≤ n / 2) → 2 ^ count_trailing_zeros (suc k) n ≤ n
    go (inl e) ih = omega (arith, ih e, even_double k n e)
    go (inr e) ih = omega (arith, odd_one k n e)

-- it divides the number
divides : (k n : ℕ) → (q : ℕ) × (n ≡ q * 2 ^ count_trailing_zeros k n)
unfolding count_trailing_zeros
divides zero n = (n, sym (mul-one n))
divides (suc k) n = go (parity n) (divides k (n / 2))
  where
    go : (n % 2 ≡ 0) ⊎ (n % 2 ≡ 1) → (q : ℕ) × (n / 2 ≡ q * 2 ^ count_trailing_zeros k (n / 2)) → (q : ℕ) × (n ≡ q * 2 ^ count_trailing_zeros (suc k) n)
    go (inl e) ih =
        let t = count_trailing_zeros k (n / 2) in
        let once : ih.0 * 2 ^ suc t ≡ ih.0 * 2 ^ t * 2 = ap (λ p. ih.0 * p) (pow-suc 2 t) ∙ sym (mul_assoc ih.0 (2 ^ t) 2) in
        let whole : n ≡ ih.0 * 2 ^ suc t = omega (arith, ih.1, once) in
        (ih.0, whole ∙ ap (λ u. ih.0 * 2 ^ u) (sym (even_more k n e)))
    go (inr e) ih = (n, sym (mul-one n) ∙ ap (λ p. n * p) (sym (odd_one k n e)))

-- and no larger power does
largest : (k n e q : ℕ) → 0 < n → n < 2 ^ k → n ≡ q * 2 ^ e → 2 ^ e ≤ 2 ^ count_trailing_zeros k n
largest k n zero q pos below is = pow_pos (count_trailing_zeros k n)
largest zero n (suc e) q pos below is = absurd (omega arith)
largest (suc k) n (suc e) q pos below is =
    let twice : n ≡ q * 2 ^ e * 2 = is ∙ ap (λ p. q * p) (pow-suc 2 e) ∙ sym (mul_assoc q (2 ^ e) 2) in
    let even : n % 2 ≡ 0 = omega arith in
    let half : n / 2 ≡ q * 2 ^ e = omega arith in
    omega (arith, largest k (n / 2) e q (omega arith) (omega arith) half, even_double k n even)

-- before a number, at a smaller power, two divides just that often
before : (k n t : ℕ) → 0 < n → n < 2 ^ k → t < count_trailing_zeros k n → count_trailing_zeros k (n - 2 ^ t) ≡ t
before zero n t pos below less = absurd (omega arith)
before (suc k) n zero pos below less = go (parity n)
  where
    go : (n % 2 ≡ 0) ⊎ (n % 2 ≡ 1) → count_trailing_zeros (suc k) (n - 2 ^ zero) ≡ zero
    go (inl e) = odd_not k (n - 1) (omega arith)
    go (inr e) = absurd (omega (arith, odd_not k n e))
before (suc k) n (suc t) pos below less =
    go (parity n) (λ e. before k (n / 2) t (omega arith) (omega arith) (omega (arith, even_more k n e)))
  where
    go : (n % 2 ≡ 0) ⊎ (n % 2 ≡ 1) → (n % 2 ≡ 0 → count_trailing_zeros k (n / 2 - 2 ^ t) ≡ t) → count_trailing_zeros (suc k) (n - 2 ^ suc t) ≡ suc t
    go (inl e) ih =
        let half : (n - 2 ^ suc t) / 2 ≡ n / 2 - 2 ^ t = omega arith in
        even_more k (n - 2 ^ suc t) (omega arith) ∙ ap (λ m. suc (count_trailing_zeros k m)) half ∙ ap suc (ih e)
    go (inr e) ih = absurd (omega (arith, odd_not k n e))

-- the number and its power together: a larger power
above : (k n : ℕ) → 0 < n → n < 2 ^ k → 2 * 2 ^ count_trailing_zeros k n ≤ 2 ^ count_trailing_zeros k (n + 2 ^ count_trailing_zeros k n)
above zero n pos below = absurd (omega arith)
above (suc k) n pos below = go (parity n) (λ e. above k (n / 2) (omega arith) (omega arith))
  where
    go : (n % 2 ≡ 0) ⊎ (n % 2 ≡ 1) → (n % 2 ≡ 0 → 2 * 2 ^ count_trailing_zeros k (n / 2) ≤ 2 ^ count_trailing_zeros k (n / 2 + 2 ^ count_trailing_zeros k (n / 2))) → 2 * 2 ^ count_trailing_zeros (suc k) n ≤ 2 ^ count_trailing_zeros (suc k) (n + 2 ^ count_trailing_zeros (suc k) n)
    go (inl e) ih =
        let p = 2 ^ count_trailing_zeros (suc k) n in
        let h = 2 ^ count_trailing_zeros k (n / 2) in
        let twice : p ≡ 2 * h = even_double k n e in
        let half : (n + p) / 2 ≡ n / 2 + h = omega arith in
        let same : 2 ^ count_trailing_zeros k ((n + p) / 2) ≡ 2 ^ count_trailing_zeros k (n / 2 + h) = ap (λ m. 2 ^ count_trailing_zeros k m) half in
        omega (arith, ih e, even_double k (n + p) (omega arith), same)
    go (inr e) ih =
        let p = 2 ^ count_trailing_zeros (suc k) n in
        let one : p ≡ 1 = odd_one k n e in
        omega (arith, even_double k (n + p) (omega arith), pow_pos (count_trailing_zeros k ((n + p) / 2)))

-- between the two, no power goes back beyond the number
between : (k i j : ℕ) → 0 < i → i < 2 ^ k → i < j → j < i + 2 ^ count_trailing_zeros k i → i + 2 ^ count_trailing_zeros k j ≤ j
between zero i j pos below more less = absurd (omega arith)
between (suc k) i j pos below more less =
    go (parity i) (parity j) (λ e f. between k (i / 2) (j / 2) (omega arith) (omega arith) (omega arith) (omega (arith, even_double k i e)))
  where
    go : (i % 2 ≡ 0) ⊎ (i % 2 ≡ 1) → (j % 2 ≡ 0) ⊎ (j % 2 ≡ 1) → (i % 2 ≡ 0 → j % 2 ≡ 0 → i / 2 + 2 ^ count_trailing_zeros k (j / 2) ≤ j / 2) → i + 2 ^ count_trailing_zeros (suc k) j ≤ j
    go (inr e) f ih = absurd (omega (arith, odd_one k i e))
    go (inl e) (inr f) ih = omega (arith, odd_one k j f)
    go (inl e) (inl f) ih = omega (arith, ih e f, even_double k j f)

-- ---- the same of places below 2^32

pub span_pos : (j : ℕ) → 0 < span j
span_pos j = pow_pos (twos j)

pub span_le : (j : ℕ) → 0 < j → j < 2 ^ 32 → span j ≤ j
span_le j = reach_le 32 j

pub twos_before : (j t : ℕ) → 0 < j → j < 2 ^ 32 → t < twos j → twos (j - 2 ^ t) ≡ t
twos_before j = before 32 j

pub span_next : (j : ℕ) → 0 < j → j < 2 ^ 32 → 2 * span j ≤ span (j + span j)
span_next j = above 32 j

pub span_between : (i j : ℕ) → 0 < i → i < 2 ^ 32 → i < j → j < i + span i → i + span j ≤ j
span_between i j = between 32 i j

-- what the words say is the span, and the span is what the words say
pub span_largest : (j : ℕ) → 0 < j → j < 2 ^ 32 → LargestPower (span j) j
span_largest j pos below =
    let d = divides 32 j in
    record { exponent = twos j; power = refl; quotient = d.0; divides = d.1; largest = λ e q is. largest 32 j e q pos below is }

pub largest_span : (l j : ℕ) → 0 < j → j < 2 ^ 32 → LargestPower l j → l ≡ span j
largest_span l j pos below p =
    let mine = span_largest j pos below in
    le_antisymm
    (subst' p.power (mine.largest p.exponent p.quotient (p.divides ∙ ap (λ z. p.quotient * z) p.power)))
    (p.largest (twos j) mine.quotient mine.divides)
  where
    subst' : {a b c : ℕ} → a ≡ b → b ≤ c → a ≤ c
    subst' e h = omega arith

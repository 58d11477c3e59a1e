-- One chunk of a word, and of a part, replaced. Assumes nothing.
use Rattle.std.proofs.Common.{◌≡◌, ℕ, zero, suc, ◌+◌, ◌-◌, ◌*◌, ◌/◌, ◌%◌, ◌^◌, ◌<◌, ◌≤◌, List, [], ◌∷◌, length, get_or, set, sym, ap, ◌∙◌, subst, mul-le-mul_right, mod-lt, mul_assoc, mul_comm, add-mul, div-add-mod', arith, pow_pos, pow-add, shl_exact, shr_lt}
use Rattle.bits.proofs.Packing.{chunk_digit}
use Rattle.bits.specs.Packed.{Put, digit, number_of}
use Rattle.std.proofs.lemmas.List.{length-set}

-- digits in front of others
cat_lt : (j k a r : ℕ) → a < 2 ^ j → r < 2 ^ k → a * 2 ^ k + r < 2 ^ (j + k)
cat_lt j k a r high low =
    let one : (a + 1) * 2 ^ k ≡ a * 2 ^ k + 1 * 2 ^ k = add-mul a 1 (2 ^ k) in
    let up : (a + 1) * 2 ^ k ≤ 2 ^ j * 2 ^ k = mul-le-mul_right (2 ^ k) (omega arith) in
    omega (arith, pow-add 2 j k)

module _ (word s b x : ℕ) (fits : s + b ≤ 32) (below : word < 2 ^ 32) where
  -- what stands above the chunk, the chunk, and what stands below it
  abbrev above : ℕ
  above = word / 2 ^ s / 2 ^ b

  abbrev chunk : ℕ
  chunk = word / 2 ^ s % 2 ^ b

  abbrev under : ℕ
  under = word % 2 ^ s

  abbrev put : ℕ
  put = x % 2 ^ b

  pub parts : word ≡ above * 2 ^ b * 2 ^ s + chunk * 2 ^ s + under
  parts =
      sym (div-add-mod' word (2 ^ s))
      ∙ ap (λ n. n * 2 ^ s + under) (sym (div-add-mod' (word / 2 ^ s) (2 ^ b)))
      ∙ ap (λ n. n + under) (add-mul (above * 2 ^ b) chunk (2 ^ s))

  above_lt : above < 2 ^ (32 - s - b)
  above_lt =
      let e : 32 ≡ 32 - s + s = omega arith in
      let f : 32 - s ≡ 32 - s - b + b = omega arith in
      shr_lt (32 - s - b) b (subst (λ k. word / 2 ^ s < 2 ^ k) f (shr_lt (32 - s) s (subst (λ k. word < 2 ^ k) e below)))

  -- the word with another chunk fits
  pub put_lt : above * 2 ^ b * 2 ^ s + put * 2 ^ s + under < 2 ^ 32
  put_lt =
      let e : 32 - s - b + b + s ≡ 32 = omega arith in
      let top = cat_lt (32 - s - b) b above put above_lt (mod-lt x (pow_pos b)) in
      let all = cat_lt (32 - s - b + b) s (above * 2 ^ b + put) under top (mod-lt word (pow_pos s)) in
      subst (λ k. above * 2 ^ b * 2 ^ s + put * 2 ^ s + under < 2 ^ k) e (subst (λ n. n + under < 2 ^ (32 - s - b + b + s)) (add-mul (above * 2 ^ b) put (2 ^ s)) all)

  -- what the shifts leave: another chunk in the place of the old one
  pub replaced : (old new : ℕ) → old ≡ chunk → new ≡ put → (word - old * 2 ^ s % 2 ^ 32 + new * 2 ^ s % 2 ^ 32 < 2 ^ 32) × (word - old * 2 ^ s % 2 ^ 32 + new * 2 ^ s % 2 ^ 32 + chunk * 2 ^ s ≡ word + put * 2 ^ s)
  replaced old new is_chunk is_put =
      let off : old * 2 ^ s % 2 ^ 32 ≡ chunk * 2 ^ s = ap (λ k. k * 2 ^ s % 2 ^ 32) is_chunk ∙ shl_exact b s 32 (mod-lt (word / 2 ^ s) (pow_pos b)) (omega arith) in
      let on : new * 2 ^ s % 2 ^ 32 ≡ put * 2 ^ s = ap (λ k. k * 2 ^ s % 2 ^ 32) is_put ∙ shl_exact b s 32 (mod-lt x (pow_pos b)) (omega arith) in
      (omega (arith, off, on, parts, put_lt), omega (arith, off, on, parts))

-- another word in a part
pub number_set : (ws : List ℕ) (i v : ℕ) → i < length ws → number_of (set ws i v) + get_or ws i 0 * 2 ^ (32 * i) ≡ number_of ws + v * 2 ^ (32 * i)
number_set [] i v within = absurd (omega arith)
number_set (w ∷ ws) zero v within = omega arith
number_set (w ∷ ws) (suc i) v within =
    let ih = number_set ws i v (omega arith) in
    let g = get_or ws i 0 in
    let p = 2 ^ (32 * i) in
    let more : 32 * suc i ≡ 32 * i + 32 = omega arith in
    let wide : 2 ^ (32 * suc i) ≡ p * 2 ^ 32 = ap (λ k. 2 ^ k) more ∙ pow-add 2 (32 * i) 32 in
    let left : (number_of (set ws i v) + g * p) * 2 ^ 32 ≡ number_of (set ws i v) * 2 ^ 32 + g * p * 2 ^ 32 = add-mul (number_of (set ws i v)) (g * p) (2 ^ 32) in
    let right : (number_of ws + v * p) * 2 ^ 32 ≡ number_of ws * 2 ^ 32 + v * p * 2 ^ 32 = add-mul (number_of ws) (v * p) (2 ^ 32) in
    let both : (number_of (set ws i v) + g * p) * 2 ^ 32 ≡ (number_of ws + v * p) * 2 ^ 32 = ap (λ n. n * 2 ^ 32) ih in
    let gs : g * 2 ^ (32 * suc i) ≡ g * p * 2 ^ 32 = ap (λ k. g * k) wide ∙ sym (mul_assoc g p (2 ^ 32)) in
    let vs : v * 2 ^ (32 * suc i) ≡ v * p * 2 ^ 32 = ap (λ k. v * k) wide ∙ sym (mul_assoc v p (2 ^ 32)) in
    omega arith

-- a chunk replaced in its word is a digit replaced in the part
pub put_digit : (ws : List ℕ) (b t q s v x : ℕ) → ((i : ℕ) → get_or ws i 0 < 2 ^ 32) → 32 * q + s ≡ b * t → s + b ≤ 32 → q < length ws → v + get_or ws q 0 / 2 ^ s % 2 ^ b * 2 ^ s ≡ get_or ws q 0 + x % 2 ^ b * 2 ^ s → Put b t x ws (set ws q v)
put_digit ws b t q s v x fits first within there is =
    let d = digit b t (number_of ws) in
    let g = get_or ws q 0 in
    let y = x % 2 ^ b in
    let p = 2 ^ (32 * q) in
    let power : 2 ^ (b * t) ≡ 2 ^ s * p = ap (λ k. 2 ^ k) (sym first) ∙ pow-add 2 (32 * q) s ∙ mul_comm p (2 ^ s) in
    let here : v + d * 2 ^ s ≡ g + y * 2 ^ s = ap (λ c. v + c * 2 ^ s) (sym (chunk_digit ws b t q s fits first within)) ∙ is in
    let both : (v + d * 2 ^ s) * p ≡ (g + y * 2 ^ s) * p = ap (λ n. n * p) here in
    let left : (v + d * 2 ^ s) * p ≡ v * p + d * 2 ^ s * p = add-mul v (d * 2 ^ s) p in
    let right : (g + y * 2 ^ s) * p ≡ g * p + y * 2 ^ s * p = add-mul g (y * 2 ^ s) p in
    let ds : d * 2 ^ (b * t) ≡ d * 2 ^ s * p = ap (λ k. d * k) power ∙ sym (mul_assoc d (2 ^ s) p) in
    let ys : y * 2 ^ (b * t) ≡ y * 2 ^ s * p = ap (λ k. y * k) power ∙ sym (mul_assoc y (2 ^ s) p) in
    let swap = number_set ws q v there in
    record { long = length-set ws q v; put = omega arith }

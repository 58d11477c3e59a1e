-- Which texts are the decimal digits of a number. Assumes nothing.
use Rattle.std.proofs.Common.{◌≡◌, ℕ, zero, suc, ◌+◌, ◌*◌, ◌^◌, ◌<◌, ◌≤◌, List, [], ◌∷◌, map, length, get_or, take, drop, ℤ, pos, negsuc, Some, None, decimal, Option, sym, ap, ◌∙◌, subst, ⊎_elim, arith, MatchOption}
use Rattle.std.proofs.lemmas.Fmt.{decimal_nonempty, decimal_digit, first_decimal, decimal-digits_value, digits_decimal, digits_value-decimal}
use Rattle.std.proofs.lemmas.Int.Digits.{digits_value_is, digits_value_more, number_after_append, number_after_ge}
use Rattle.std.proofs.lemmas.List.{take-append-drop, map-append}
use Rattle.std.proofs.lemmas.Str.Parse.{IsNumeralModel, numerals_by_value, tells_digits}
use Rattle.std.proofs.lemmas.Bool.{cases_lt}
use Rattle.std.specs.Str.Parse.{AllDigits, digits_value}
use Rattle.std.specs.Char.{digit_value}
use Rattle.std.specs.Fmt.{signed_decimal}
use Rattle.std.specs.Int.Digits.{number_from_digits, number_from_digits_after}
use lib.Signed.{mag}

own : IsNumeralModel (AllDigits 10) (digits_value 10)
own = numerals_by_value (AllDigits 10) tells_digits

digit_under : (ds : List ℕ) (i : ℕ) → AllDigits 10 ds → i < length ds → digit_value (get_or ds i 0) < 10
digit_under [] i h within = absurd (omega arith)
digit_under (c ∷ cs) zero h within = h.0
digit_under (c ∷ cs) (suc i) h within = digit_under cs i h.1 (omega arith)

-- the front of a text writes no more than the whole
value_front : (bs : List ℕ) (k : ℕ) → digits_value 10 (take k bs) ≤ digits_value 10 bs
value_front bs k =
    let front = map digit_value (take k bs) in
    let rest = map digit_value (drop k bs) in
    let whole : digits_value 10 bs ≡ number_from_digits_after 10 (number_from_digits 10 front) rest =
    digits_value_is 10 bs
    ∙ ap (λ l. number_from_digits 10 (map digit_value l)) (sym (take-append-drop k bs))
    ∙ ap (number_from_digits 10) (map-append digit_value (take k bs) (drop k bs))
    ∙ number_after_append 10 0 front rest
    in
    omega (arith, digits_value_is 10 (take k bs), number_after_ge 10 (number_from_digits 10 front) rest (omega arith))

module _ (bs : List ℕ) (m : ℕ) (small : m < 2 ^ 32) (is : decimal m ≡ bs) where
  -- some digits
  pub not_empty : 0 < length bs
  not_empty = subst (λ l. 0 < length l) is (decimal_nonempty m (omega arith))

  -- no zero in front
  pub no_lead : 1 < length bs → get_or bs 0 0 ≡ 48 → ⊥
  no_lead long lead = ⊎_elim positive nought (cases_lt 0 m)
    where
      positive : 0 < m → ⊥
      positive p = omega (arith, subst (λ l. 48 < get_or l 0 0) is (first_decimal m p (omega arith)))

      nought : m ≤ 0 → ⊥
      nought z =
          let one : length bs ≡ 1 = ap length (sym is ∙ decimal_digit m (omega arith)) in
          omega arith

  -- nothing but digits
  pub all_digits : (i : ℕ) → i < length bs → 10 ≤ digit_value (get_or bs i 0) → ⊥
  all_digits i within other =
      omega (arith, digit_under bs i (subst (AllDigits 10) is (digits_decimal own m (omega arith))) within)

  -- no front of it writes 2^32 or more
  pub not_large : (i : ℕ) → i < length bs → 2 ^ 32 ≤ digits_value 10 (take i bs) * 10 + digit_value (get_or bs i 0) → ⊥
  not_large i within large =
      let same : digits_value 10 bs ≡ m = ap (digits_value 10) (sym is) ∙ digits_value-decimal own m (omega arith) in
      omega (arith, digits_value_more 10 bs i within, value_front bs (i + 1))

-- digits with no zero in front are those of the number that they write
pub spelled : (bs : List ℕ) (n : ℕ) → AllDigits 10 bs → n ≡ digits_value 10 bs → n < 2 ^ 32 → 0 < length bs → (1 < length bs → get_or bs 0 0 ≡ 48 → ⊥) → decimal n ≡ bs
spelled bs n ds is small some lead =
    ap decimal is ∙ decimal-digits_value own bs ds some (λ z. let no : 1 < length bs → ⊥ = λ long. lead long z in omega arith) (omega arith)

-- a text that begins with a minus is a negative number's
pub minus : (ds : List ℕ) (z : ℤ) → mag z < 2 ^ 31 → signed_decimal z ≡ 45 ∷ ds → (n : ℕ) × (n < 2 ^ 31) × (decimal (suc n) ≡ ds)
minus ds (pos n) small is = absurd (all_digits (45 ∷ ds) n (omega arith) is 0 (omega arith) (omega arith))
minus ds (negsuc n) small is = (n, small, ap (drop 1) is)

-- the same for what a reader of the digits answers
pub minus_read : (o : Option ℤ) (bs ds : List ℕ) → bs ≡ 45 ∷ ds → MatchOption o ((n : ℕ) → n < 2 ^ 31 → decimal (suc n) ≡ ds → ⊥) (λ z. signed_decimal z ≡ 45 ∷ ds) → MatchOption o ((z : ℤ) → mag z < 2 ^ 31 → signed_decimal z ≡ bs → ⊥) (λ z. signed_decimal z ≡ bs)
minus_read (Some z) bs ds is h = h ∙ sym is
minus_read None bs ds is h = λ z small so. let m = minus ds z small (so ∙ is) in h m.0 m.1 m.2

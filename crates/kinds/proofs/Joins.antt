-- What the laws of a group give of totals. Assumes nothing.
use Rattle.std.proofs.Common.{◌≡◌, ℕ, zero, suc, ◌+◌, ◌<◌, List, [], ◌∷◌, ◌++◌, length, get_or, take, set, sym, refl, ap, ◌∙◌, arith}
use Rattle.kinds.specs.Totals.{total, Group}
use Rattle.kinds.specs.declared.laws.Reckoned.{Ghosts}
use Rattle.std.proofs.lemmas.List.{take_more, take_all}

module _ {K : Type 0} {R : Ghosts K} (laws : Group R) where
  -- two equal joins with one part equal have the other equal
  pub cancel_left : (a b c : K) → R.join a b ≡ R.join a c → b ≡ c
  cancel_left a b c e = sym (undone b) ∙ ap (R.join (R.inverse a)) e ∙ undone c
    where
      undone : (d : K) → R.join (R.inverse a) (R.join a d) ≡ d
      undone d =
          sym (laws.associative (R.inverse a) a d)
          ∙ ap (λ z. R.join z d) (laws.commutative (R.inverse a) a ∙ laws.cancels a)
          ∙ laws.left d

  -- a part is what the whole is without the other part
  pub part_is : (a b c : K) → R.join a b ≡ c → b ≡ R.join c (R.inverse a)
  part_is a b c e =
      sym (laws.right b)
      ∙ ap (R.join b) (sym (laws.cancels a))
      ∙ sym (laws.associative b a (R.inverse a))
      ∙ ap (λ z. R.join z (R.inverse a)) (laws.commutative b a ∙ e)

  -- the last two of three change places
  pub swap_last : (a b c : K) → R.join (R.join a b) c ≡ R.join (R.join a c) b
  swap_last a b c =
      laws.associative a b c ∙ ap (R.join a) (laws.commutative b c) ∙ sym (laws.associative a c b)

  -- an entry and what makes another of it come to that other
  pub made_good : (a b : K) → R.join a (R.join b (R.inverse a)) ≡ b
  made_good a b =
      laws.commutative a (R.join b (R.inverse a))
      ∙ laws.associative b (R.inverse a) a
      ∙ ap (R.join b) (laws.commutative (R.inverse a) a ∙ laws.cancels a)
      ∙ laws.right b

  pub total-append : (xs ys : List K) → total R (xs ++ ys) ≡ R.join (total R xs) (total R ys)
  total-append [] ys = sym (laws.left (total R ys))
  total-append (x ∷ xs) ys = ap (R.join x) (total-append xs ys) ∙ sym (laws.associative x (total R xs) (total R ys))

  -- one entry more at the end
  pub total-push : (xs : List K) (x : K) → total R (xs ++ (x ∷ [])) ≡ R.join (total R xs) x
  total-push xs x = total-append xs (x ∷ []) ∙ ap (R.join (total R xs)) (laws.right x)

  -- one entry more of a list that is read from the front
  pub total_next : (xs : List K) (i : ℕ) (x : K) → i < length xs → x ≡ get_or xs i x → total R (take (i + 1) xs) ≡ R.join (total R (take i xs)) x
  total_next xs i x within read =
      ap (total R) (take_more xs i x within ∙ ap (λ y. take i xs ++ (y ∷ [])) (sym read)) ∙ total-push (take i xs) x

  -- another entry in the place of one
  pub total-set : (xs : List K) (i : ℕ) (x y : K) → i < length xs → x ≡ get_or xs i x → total R (set xs i y) ≡ R.join (R.join (total R xs) y) (R.inverse x)
  total-set [] i x y within read = absurd (omega arith)
  total-set (z ∷ zs) zero x y within read =
      part_is z (R.join y (total R zs)) (R.join (R.join z (total R zs)) y)
      (ap (R.join z) (laws.commutative y (total R zs)) ∙ sym (laws.associative z (total R zs) y))
      ∙ ap (λ w. R.join (R.join (R.join z (total R zs)) y) (R.inverse w)) (sym read)
  total-set (z ∷ zs) (suc i) x y within read =
      ap (R.join z) (total-set zs i x y (omega arith) read)
      ∙ sym (laws.associative z (R.join (total R zs) y) (R.inverse x))
      ∙ ap (λ w. R.join w (R.inverse x)) (sym (laws.associative z (total R zs) y))

  -- an amount joined to one entry
  pub total-shift : (xs : List K) (i : ℕ) (x a : K) → i < length xs → x ≡ get_or xs i x → total R (set xs i (R.join x a)) ≡ R.join (total R xs) a
  total-shift xs i x a within read =
      total-set xs i x (R.join x a) within read
      ∙ laws.associative (total R xs) (R.join x a) (R.inverse x)
      ∙ ap (R.join (total R xs)) (sym (part_is x a (R.join x a) refl))

  -- without the last entry
  pub total-pop : (xs : List K) (i : ℕ) (x : K) → i + 1 ≡ length xs → x ≡ get_or xs i x → total R (take i xs) ≡ R.join (total R xs) (R.inverse x)
  total-pop xs i x whole read =
      part_is x (total R (take i xs)) (total R xs)
      (laws.commutative x (total R (take i xs))
      ∙ sym (total_next xs i x (omega arith) read)
      ∙ ap (total R) (take_all (i + 1) xs (omega arith)))

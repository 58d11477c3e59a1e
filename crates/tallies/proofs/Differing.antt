-- How many different numbers a list has depends on which it has, not on their order. Assumes nothing.
use Rattle.std.proofs.Common.{◌≡◌, ℕ, zero, suc, ◌+◌, ◌<◌, ◌≤◌, max, Bool, true, false, cond, eqb, ltb, List, [], ◌∷◌, sym, refl, ap, ◌∙◌, ⊎_elim, arith}
use Rattle.tallies.specs.Tallies.{times, different}
use Rattle.std.proofs.lemmas.List.Elements.{All-nil, All-cons, All-head, All-tail}
use Rattle.std.proofs.lemmas.List.Sums.{sum_by-cons}
use Rattle.std.proofs.lemmas.Bool.{cases_lt, cases_eq, eq-eqb, ne_eqb, lt-ltb, le-ltb}
use Rattle.std.specs.List.{All}

-- how many numbers below b pass a test
passing : (ℕ → Bool) → ℕ → ℕ
passing p zero = 0
passing p (suc b) = cond (p b) 1 0 + passing p b

passing_same : (p q : ℕ → Bool) → ((n : ℕ) → p n ≡ q n) → (b : ℕ) → passing p b ≡ passing q b
unfolding passing
passing_same p q e zero = refl
passing_same p q e (suc b) = ap (λ t. cond t 1 0 + passing p b) (e b) ∙ ap (λ k. cond (q b) 1 0 + k) (passing_same p q e b)

-- one more number passes, x, unless it did before
passing_one : (p q : ℕ → Bool) (x : ℕ) → p x ≡ true → ((n : ℕ) → (n ≡ x → ⊥) → p n ≡ q n) → (b : ℕ) → passing p b ≡ passing q b + cond (ltb x b) (cond (q x) 0 1) 0
unfolding passing
passing_one p q x yes' e zero = rw (le-ltb x 0 (omega arith)) (omega arith)
passing_one p q x yes' e (suc b) = let before = passing_one p q x yes' e b in ⊎_elim (here before) (elsewhere before) (cases_eq b x)
  where
    either : (t : Bool) → cond t 1 0 + cond {A = ℕ} t 0 1 ≡ 1
    either true = refl
    either false = refl

    here : passing p b ≡ passing q b + cond (ltb x b) (cond (q x) 0 1) 0 → b ≡ x → cond (p b) 1 0 + passing p b ≡ cond (q b) 1 0 + passing q b + cond (ltb x (suc b)) (cond (q x) 0 1) 0
    here ih h =
        let e₁ : p b ≡ true = ap p h ∙ yes' in
        let e₂ : cond {A = ℕ} (q b) 1 0 ≡ cond (q x) 1 0 = ap (λ n. cond (q n) 1 0) h in
        let l₁ : ltb x (suc b) ≡ true = lt-ltb x (suc b) (omega arith) in
        let l₂ : ltb x b ≡ false = le-ltb x b (omega arith) in
        let before = rw l₂ at ih in
        rw (e₁, l₁) (omega (arith, either (q x)))

    elsewhere : passing p b ≡ passing q b + cond (ltb x b) (cond (q x) 0 1) 0 → (b ≡ x → ⊥) → cond (p b) 1 0 + passing p b ≡ cond (q b) 1 0 + passing q b + cond (ltb x (suc b)) (cond (q x) 0 1) 0
    elsewhere ih h =
        let same : ltb x (suc b) ≡ ltb x b =
        ⊎_elim
        (λ l. lt-ltb x (suc b) (omega arith) ∙ sym (lt-ltb x b l))
        (λ l. le-ltb x (suc b) (omega arith) ∙ sym (le-ltb x b l))
        (cases_lt x b)
        in
        rw (e b h, same) (omega arith)

-- the numbers of a list
abbrev has : List ℕ → ℕ → Bool
has xs n = ltb 0 (times n xs)

times_here : (x : ℕ) (xs : List ℕ) → times x (x ∷ xs) ≡ 1 + times x xs
times_here x xs = sum_by-cons (λ m. cond (eqb x m) 1 0) x xs ∙ ap (λ t. cond t 1 0 + times x xs) (eq-eqb x x refl)

times_there : (n x : ℕ) (xs : List ℕ) → (n ≡ x → ⊥) → times n (x ∷ xs) ≡ times n xs
times_there n x xs h = sum_by-cons (λ m. cond (eqb n m) 1 0) x xs ∙ ap (λ t. cond t 1 0 + times n xs) (ne_eqb n x h) ∙ omega arith

none_passing : (b : ℕ) → 0 ≡ passing (has []) b
unfolding passing
none_passing zero = refl
none_passing (suc b) = omega (arith, none_passing b)

-- the different numbers of a list, counted by value
by_value : (xs : List ℕ) (b : ℕ) → All (λ x. x < b) xs → different xs ≡ passing (has xs) b
by_value [] b h = none_passing b
by_value (x ∷ xs) b h =
    let one = passing_one (has (x ∷ xs)) (has xs) x (lt-ltb 0 (times x (x ∷ xs)) (omega (arith, times_here x xs))) (λ n ne. ap (ltb 0) (times_there n x xs ne)) b in
    let within : ltb x b ≡ true = lt-ltb x b (All-head (λ y. y < b) x xs h) in
    omega (arith, by_value xs b (All-tail (λ y. y < b) x xs h), rw within at one)

-- a number above all of a list
above : List ℕ → ℕ
above [] = 0
above (x ∷ xs) = max (suc x) (above xs)

above_all : (xs : List ℕ) (b : ℕ) → above xs ≤ b → All (λ x. x < b) xs
unfolding above
above_all [] b h = All-nil (λ x. x < b)
above_all (x ∷ xs) b h = All-cons (λ y. y < b) x xs (omega arith) (above_all xs b (omega arith))

-- lists with the same numbers have as many different ones
pub different_same : (xs ys : List ℕ) → ((n : ℕ) → has xs n ≡ has ys n) → different xs ≡ different ys
different_same xs ys e =
    let b = max (above xs) (above ys) in
    by_value xs b (above_all xs b (omega arith)) ∙ passing_same (has xs) (has ys) e b ∙ sym (by_value ys b (above_all ys b (omega arith)))

-- Sums over records of which each number of a list has one. Assumes nothing.
use Rattle.std.proofs.Common.{◌≡◌, ℕ, ◌+◌, ◌<◌, Bool, true, false, cond, eqb, ltb, List, [], ◌∷◌, sum_by, refl, ap, ◌∙◌, arith}
use Rattle.tallies.specs.Tallies.{times, records_for, different}
use Rattle.tallies.specs.declared.records.TallyRecord.{TallyRecord}
use Rattle.std.proofs.lemmas.Bool.{eq-eqb, ltb-true, ltb-false}
use Rattle.std.proofs.lemmas.List.Sums.{sum_by-cons}
use Rattle.std.proofs.lemmas.Bool.Decides.{nat_tests}
use Rattle.std.specs.Cmp.{nat_eq_equiv}

-- a sum of two terms is two sums
sum_by_both : {X : Type 0} (f g h : X → ℕ) → ((x : X) → h x ≡ f x + g x) → (xs : List X) → sum_by h xs ≡ sum_by f xs + sum_by g xs
sum_by_both f g h e [] = refl
sum_by_both f g h e (x ∷ xs) =
    omega (arith, e x, sum_by-cons f x xs, sum_by-cons g x xs, sum_by-cons h x xs, sum_by_both f g h e xs)

sum_by_zeros : {X : Type 0} (xs : List X) → sum_by (λ (x : X). 0) xs ≡ 0
sum_by_zeros [] = refl
sum_by_zeros {X} (x ∷ xs) = omega (arith, sum_by-cons (λ (y : X). 0) x xs, sum_by_zeros xs)

times_cons : (m n : ℕ) (ns : List ℕ) → times m (n ∷ ns) ≡ cond (eqb n m) 1 0 + times m ns
times_cons m n ns = sum_by-cons (λ k. cond (eqb m k) 1 0) n ns ∙ ap (λ t. cond t 1 0 + times m ns) (nat_eq_equiv.symm m n)

-- whether a number occurs
abbrev has : List ℕ → ℕ → ℕ
has ns m = cond (ltb 0 (times m ns)) 1 0

-- each number of the list has one record
abbrev pub OneEach : List ℕ → List TallyRecord → Type 0
OneEach ns rs = (n : ℕ) → 0 < times n ns → records_for n rs ≡ 1

one_first : (n : ℕ) (ns : List ℕ) (rs : List TallyRecord) → OneEach (n ∷ ns) rs → records_for n rs ≡ 1
one_first n ns rs one = one n (rw (times_cons n n ns, eq-eqb n n refl) (omega arith))

one_others : (n : ℕ) (ns : List ℕ) (rs : List TallyRecord) → OneEach (n ∷ ns) rs → OneEach ns rs
one_others n ns rs one m h = one m (omega (arith, times_cons m n ns))

module _ (n : ℕ) (ns : List ℕ) where
  -- one number more of a list that has it changes nothing
  has_known : 0 < times n ns → (m : ℕ) → has (n ∷ ns) m ≡ has ns m
  has_known some m = grind (arith, nat_tests, times_cons m n ns)

  -- and one that a list has not is there besides
  has_new : times n ns ≡ 0 → (m : ℕ) → has (n ∷ ns) m ≡ cond (eqb n m) 1 0 + has ns m
  has_new none m = grind (arith, nat_tests, times_cons m n ns)

-- how many of the records are of the list is how many different numbers it has
pub all_different : (ns : List ℕ) (rs : List TallyRecord) → OneEach ns rs → sum_by (λ (r : TallyRecord). has ns r.number) rs ≡ different ns
all_different [] rs one = sum_by_zeros rs
all_different (n ∷ ns) rs one = go (all_different ns rs (one_others n ns rs one)) (ltb 0 (times n ns)) refl
  where
    go : sum_by (λ (r : TallyRecord). has ns r.number) rs ≡ different ns → (t : Bool) → ltb 0 (times n ns) ≡ t → sum_by (λ (r : TallyRecord). has (n ∷ ns) r.number) rs ≡ cond t 0 1 + different ns
    go others true e =
        let same : sum_by (λ (r : TallyRecord). has (n ∷ ns) r.number) rs ≡ sum_by (λ (r : TallyRecord). has ns r.number) rs = λ i. sum_by (λ (r : TallyRecord). has_known n ns (ltb-true 0 (times n ns) e) r.number i) rs in
        omega (arith, same, others)
    go others false e =
        let both = sum_by_both (λ (r : TallyRecord). cond (eqb n r.number) 1 0) (λ (r : TallyRecord). has ns r.number) (λ (r : TallyRecord). has (n ∷ ns) r.number) (λ r. has_new n ns (omega (arith, ltb-false 0 (times n ns) e)) r.number) rs in
        omega (arith, one_first n ns rs one, others)

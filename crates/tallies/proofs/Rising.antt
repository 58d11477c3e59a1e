-- The groups of a list that rises, one number at a time. Assumes nothing.
use Rattle.std.proofs.Common.{◌≡◌, ℕ, ◌+◌, ◌-◌, ◌^◌, ◌<◌, ◌≤◌, Bool, true, false, cond, eqb, List, [], ◌∷◌, ◌++◌, length, get_or, set, take, sum_by, sym, refl, ap, ◌∙◌, subst, inl, inr, arith}
use Rattle.tallies.specs.Groups.{group, last_of, Noted}
use Rattle.tallies.specs.Tallies.{times, records_for, Tallied}
use Rattle.tallies.specs.declared.records.TallyRecord.{TallyRecord}
use Rattle.std.proofs.lemmas.List.Elements.{All-nil, All-cons, All-head, All-tail, All-push, All-set, All-weaker, All-from_get_or}
use Rattle.std.proofs.lemmas.List.{append_assoc, get_or_default, length_push, length-set, length-take-le, get_or-take, get_or_push, get_or-set_same, take_more}
use Rattle.std.proofs.lemmas.List.Sums.{sum_by-cons, sum_by-append, sum_by_push, sum_by-set, get_or-le-sum_by}
use Rattle.std.proofs.lemmas.Bool.{eqb-true, eq-eqb, ne_eqb}
use Rattle.std.specs.List.{All}
use Rattle.std.specs.List.Sorted.{IsNonDecreasing}

-- what the records say of n
abbrev told : ℕ → TallyRecord → ℕ
told n r = cond (eqb n r.number) r.times 0

abbrev one_for : ℕ → TallyRecord → ℕ
one_for n r = cond (eqb n r.number) 1 0

abbrev recorded : ℕ → List TallyRecord → ℕ
recorded n rs = sum_by (told n) rs

abbrev count_of : TallyRecord → ℕ
count_of r = r.times

-- the loop's form of a tally
pub record Counted (ns : List ℕ) (rs : List TallyRecord) : Type 0 where
  pub distinct : (n : ℕ) → records_for n rs ≤ 1
  pub counts : (n : ℕ) → recorded n rs ≡ times n ns
  pub used : All (λ (r : TallyRecord). 0 < r.times) rs
  pub adds_up : sum_by count_of rs ≡ length ns

pub counted_none : Counted [] []
counted_none = record { distinct = λ n. omega arith; counts = λ n. refl; used = All-nil (λ (r : TallyRecord). 0 < r.times); adds_up = refl }

-- where each record counts something, what is not counted has no record
unused : (n : ℕ) (rs : List TallyRecord) → All (λ (r : TallyRecord). 0 < r.times) rs → recorded n rs ≡ 0 → records_for n rs ≡ 0
unused n [] u z = refl
unused n (r ∷ rs) u z =
    let a = sum_by-cons (told n) r rs in
    let b = sum_by-cons (one_for n) r rs in
    let go : (t : Bool) → cond t r.times 0 + recorded n rs ≡ 0 → cond t 1 0 + records_for n rs ≡ 0 = λ t. elim t as (λ t. cond t r.times 0 + recorded n rs ≡ 0 → cond t 1 0 + records_for n rs ≡ 0) [ true ↦ (λ h. absurd (omega (arith, All-head (λ (r : TallyRecord). 0 < r.times) r rs u))) | false ↦ (λ h. omega (arith, unused n rs (All-tail (λ (r : TallyRecord). 0 < r.times) r rs u))) ] in
    b ∙ go (eqb n r.number) (sym a ∙ z)

-- what has no record is not counted
silent : (n : ℕ) (rs : List TallyRecord) → records_for n rs ≡ 0 → recorded n rs ≡ 0
silent n [] z = refl
silent n (r ∷ rs) z =
    let a = sum_by-cons (told n) r rs in
    let b = sum_by-cons (one_for n) r rs in
    let go : (t : Bool) → cond t 1 0 + records_for n rs ≡ 0 → cond t r.times 0 + recorded n rs ≡ 0 = λ t. elim t as (λ t. cond t 1 0 + records_for n rs ≡ 0 → cond t r.times 0 + recorded n rs ≡ 0) [ true ↦ (λ h. absurd (omega arith)) | false ↦ (λ h. omega (arith, silent n rs)) ] in
    a ∙ go (eqb n r.number) (sym b ∙ z)

module _ (ns : List ℕ) (rs : List TallyRecord) (x : ℕ) (old : Counted ns rs) where
  -- a new number gets a record
  pub counted_new : times x ns ≡ 0 → Counted (ns ++ (x ∷ [])) (rs ++ (group x 1 ∷ []))
  counted_new fresh = record {
    distinct = λ n. distinct n (eqb n x) refl;
    counts = λ n. sum_by_push (told n) rs (group x 1) ∙ ap (λ k. k + cond (eqb n x) 1 0) (old.counts n) ∙ sym (sum_by_push (λ m. cond (eqb n m) 1 0) ns x);
    used = All-push (λ (r : TallyRecord). 0 < r.times) rs (group x 1) old.used (omega arith);
    adds_up = omega (arith, sum_by_push count_of rs (group x 1), length_push ns x, old.adds_up);
  }
    where
      distinct : (n : ℕ) (t : Bool) → eqb n x ≡ t → records_for n (rs ++ (group x 1 ∷ [])) ≤ 1
      distinct n true e =
          let none = unused x rs old.used (old.counts x ∙ fresh) in
          rw (sum_by_push (one_for n) rs (group x 1), e) (rw (eqb-true n x e) (omega arith))
      distinct n false e = rw (sum_by_push (one_for n) rs (group x 1), e) (omega (arith, old.distinct n))

  -- the record of a number grows by one
  pub counted_more : (j : ℕ) (d : TallyRecord) → j < length rs → (get_or rs j d).number ≡ x → Counted (ns ++ (x ∷ [])) (set rs j (group x ((get_or rs j d).times + 1)))
  counted_more j d within same = record {
    distinct = λ n. let s = sum_by-set (one_for n) rs j new d within in let e = ap (λ m. cond {A = ℕ} (eqb n m) 1 0) same in omega (arith, old.distinct n);
    counts = λ n. counts n (eqb n x) refl;
    used = All-set (λ (r : TallyRecord). 0 < r.times) rs j new (omega arith) old.used;
    adds_up = omega (arith, sum_by-set count_of rs j new d within, length_push ns x, old.adds_up);
  }
    where
      new : TallyRecord
      new = group x ((get_or rs j d).times + 1)

      counts : (n : ℕ) (t : Bool) → eqb n x ≡ t → recorded n (set rs j new) ≡ times n (ns ++ (x ∷ []))
      counts n true e =
          let e' : eqb n (get_or rs j d).number ≡ true = ap (eqb n) same ∙ e in
          let s = rw (e', e) at (sum_by-set (told n) rs j new d within) in
          let p = rw e at (sum_by_push (λ m. cond (eqb n m) 1 0) ns x) in
          omega (arith, old.counts n)
      counts n false e =
          let e' : eqb n (get_or rs j d).number ≡ false = ap (eqb n) same ∙ e in
          let s = rw (e', e) at (sum_by-set (told n) rs j new d within) in
          let p = rw e at (sum_by_push (λ m. cond (eqb n m) 1 0) ns x) in
          omega (arith, old.counts n)

-- under distinct numbers each record says what all of them say of its number
own : (pre rs : List TallyRecord) → ((n : ℕ) → records_for n (pre ++ rs) ≤ 1) → All (λ (r : TallyRecord). r.times ≡ recorded r.number (pre ++ rs)) rs
own pre [] d = All-nil (λ (r : TallyRecord). r.times ≡ recorded r.number (pre ++ []))
own pre (r ∷ rs) d = All-cons (λ (r' : TallyRecord). r'.times ≡ recorded r'.number (pre ++ (r ∷ rs))) r rs here (subst (λ all. All (λ (q : TallyRecord). q.times ≡ recorded q.number all) rs) (append_assoc pre (r ∷ []) rs) (own (pre ++ (r ∷ [])) rs (λ n. subst (λ l. records_for n l ≤ 1) (sym (append_assoc pre (r ∷ []) rs)) (d n))))
  where
    here : r.times ≡ recorded r.number (pre ++ (r ∷ rs))
    here =
        let e : eqb r.number r.number ≡ true = eq-eqb r.number r.number refl in
        let a = sum_by-append (one_for r.number) pre (r ∷ rs) in
        let b = sum_by-cons (one_for r.number) r rs ∙ ap (λ t. cond t 1 0 + records_for r.number rs) e in
        let before = silent r.number pre (omega (arith, d r.number)) in
        let behind = silent r.number rs (omega (arith, d r.number)) in
        let c = sum_by-append (told r.number) pre (r ∷ rs) in
        let f = sum_by-cons (told r.number) r rs ∙ ap (λ t. cond t r.times 0 + recorded r.number rs) e in
        omega arith

pub tallied : (ns : List ℕ) (rs : List TallyRecord) → Counted ns rs → Tallied ns rs
tallied ns rs c = record {
  distinct = c.distinct;
  there = λ n h. let no : records_for n rs ≡ 0 → ⊥ = λ z. omega (arith, silent n rs z, c.counts n) in omega arith;
  exact = All-weaker _ (λ (r : TallyRecord). r.times ≡ times r.number ns) (λ r e. e ∙ c.counts r.number) rs (own [] rs c.distinct);
  used = c.used;
  adds_up = c.adds_up;
}

-- the groups of the first i numbers, the last of them that of the number read last
pub record Grouped (s : List ℕ) (i : ℕ) (gs : List TallyRecord) : Type 0 where
  pub counted : Counted (take i s) gs
  pub some : 0 < i → 0 < length gs
  pub last : 0 < i → (last_of gs).number ≡ get_or s (i - 1) 0

pub grouped_none : (s : List ℕ) (gs : List TallyRecord) → gs ≡ [] → Grouped s 0 gs
grouped_none s gs e = record {
  counted = subst (Counted []) (sym e) counted_none;
  some = λ h. absurd (omega arith);
  last = λ h. absurd (omega arith);
}

-- a group counts no more than was read
pub grouped_room : (s : List ℕ) (i : ℕ) (gs : List TallyRecord) → Grouped s i gs → i < length s → length s < 2 ^ 32 → (last_of gs).times + 1 < 2 ^ 32
grouped_room s i [] g within few = omega arith
grouped_room s i (r ∷ rs) g within few =
    omega (arith, get_or-le-sum_by (λ (q : TallyRecord). q.times) (r ∷ rs) (length (r ∷ rs) - 1) (group 0 0) (omega arith), g.counted.adds_up, length-take-le i s (omega arith))

-- a number above all of a list does not occur in it
never : (x : ℕ) (xs : List ℕ) → All (λ m. m < x) xs → times x xs ≡ 0
never x [] h = refl
never x (m ∷ ms) h =
    let f = ap (λ t. cond {A = ℕ} t 1 0) (ne_eqb x m (λ e. omega (arith, All-head (λ k. k < x) m ms h))) in
    omega (arith, sum_by-cons (λ n. cond {A = ℕ} (eqb x n) 1 0) m ms, never x ms (All-tail (λ k. k < x) m ms h))

module _ (s : List ℕ) (i : ℕ) (gs : List TallyRecord) (rising : IsNonDecreasing s) (within : i < length s) (old : Grouped s i gs) where
  -- a number that is not the last one's is new
  fresh : (0 < length gs → (last_of gs).number ≡ get_or s i 0 → ⊥) → times (get_or s i 0) (take i s) ≡ 0
  fresh other = never (get_or s i 0) (take i s) (All-from_get_or (λ m. m < get_or s i 0) (take i s) 0 below)
    where
      below : (k : ℕ) → k < length (take i s) → get_or (take i s) k 0 < get_or s i 0
      below k h =
          let len = length-take-le i s (omega arith) in
          let ne : get_or s (i - 1) 0 ≡ get_or s i 0 → ⊥ = λ e. other (old.some (omega arith)) (old.last (omega arith) ∙ e) in
          let up = rising (i - 1) i 0 (omega arith) within in
          let far = rising k (i - 1) 0 (omega arith) (omega arith) in
          let here = get_or-take i s k 0 (omega arith) in
          omega arith

  pub grouped_more : (after : List TallyRecord) → Noted gs (get_or s i 0) after → Grouped s (i + 1) after
  grouped_more after (inl g) =
      let x = get_or s i 0 in
      let j = length gs - 1 in
      let here : j < length gs = omega (arith, g.some) in
      record {
        counted = subst (λ l. Counted l after) (sym (take_more s i 0 within)) (subst (Counted (take i s ++ (x ∷ []))) (sym g.is) (counted_more (take i s) gs x old.counted j (group 0 0) here g.same));
        some = λ _. rw (g.is, length-set) g.some;
        last = λ _. rw (g.is, length-set, get_or-set_same gs j (group x ((last_of gs).times + 1)) (group 0 0) here) (ap (λ k. get_or s k 0) (omega arith));
      }
  grouped_more after (inr b) =
      let x = get_or s i 0 in
      record {
        counted = subst (λ l. Counted l after) (sym (take_more s i 0 within)) (subst (Counted (take i s ++ (x ∷ []))) (sym b.is) (counted_new (take i s) gs x old.counted (fresh b.other)));
        some = λ _. rw b.is (omega (arith, length_push gs (group x 1)));
        last = λ _. rw (b.is, get_or_push gs (group x 1) (group 0 0) (length (gs ++ (group x 1 ∷ [])) - 1) (omega (arith, length_push gs (group x 1)))) (ap (λ k. get_or s k 0) (omega arith));
      }

-- what is read at the last index is the last group
pub last_read : (gs : List TallyRecord) (k : ℕ) (r : TallyRecord) → k ≡ length gs → 0 < k → r ≡ get_or gs (k - 1) r → r ≡ last_of gs
last_read gs k r whole some is =
    is ∙ get_or_default gs (k - 1) r (group 0 0) (omega arith) ∙ ap (λ n. get_or gs (n - 1) (group 0 0)) whole

-- What reading at a place gives. Assumes nothing.
use Rattle.std.proofs.Common.{◌≡◌, ℕ, zero, suc, ◌+◌, ◌-◌, ◌^◌, ◌<◌, ◌≤◌, min, ◌⊎◌, List, [], ◌∷◌, length, get_or, take, drop, Ok, Err, Result, sym, refl, ap, ◌∙◌, inl, inr, add-suc, suc-add, zero-add, arith}
use Rattle.kinds.specs.declared.refusal.Refusal.{Refusal}
use Rattle.kinds.specs.declared.refusal.Refusal.TheVariants.{NoPlace}
use Rattle.runs.specs.Places.{entry_at, cut, left, part}
use Rattle.std.proofs.lemmas.List.{get_or-take, get_or_default, take_all, length-take}
use Rattle.std.proofs.lemmas.Option.{slice_get_read, slice_get_past}
use Rattle.std.proofs.lemmas.Bool.{cases_lt}
use Rattle.std.proofs.Math.Numerals.{suc-eq-add-one}
use Rattle.std.proofs.Math.Seq.{drop-cons}
use Rattle.std.specs.List.{slice_get}
use Rattle.std.specs.Option.{ok_or}
use Rattle.std.specs.Result.{OkIff, result_unwrap_or}

module _ {K : Type 0} (xs : List K) where
  -- an entry that stands there
  pub entry_there : (p : ℕ) (e : K) → 0 < p → p ≤ length xs → e ≡ get_or xs (p - 1) e → entry_at xs p ≡ Ok e
  unfolding entry_at
  entry_there zero e pos within read = absurd (omega arith)
  entry_there (suc i) e pos within read =
      let here : i ≡ suc i - 1 = omega arith in
      let e' : e ≡ get_or xs i e = read ∙ ap (λ j. get_or xs j e) (sym here) in
      ap (λ o. ok_or o NoPlace) (slice_get_read xs (length xs) i e refl (omega arith) e')

  -- no entry there
  pub entry_past : (p : ℕ) → length xs < p → entry_at xs p ≡ Err NoPlace
  unfolding entry_at
  entry_past zero past = refl
  entry_past (suc i) past = ap (λ o. ok_or o NoPlace) (slice_get_past xs i (omega arith))

  pub entry_none : entry_at xs 0 ≡ Err NoPlace
  unfolding entry_at
  entry_none = refl

  -- what is answered is the entry that stands there
  pub entry_read : (p : ℕ) (e : K) → 0 < p → p ≤ length xs → entry_at xs p ≡ Ok e → e ≡ get_or xs (p - 1) e
  entry_read p e pos within is = same (sym is ∙ entry_there p (get_or xs (p - 1) e) pos within (known p pos within))
    where
      same : {d : K} → ◌≡◌ {A = Result K Refusal} (Ok e) (Ok d) → e ≡ d
      same h = cc

      known : (p : ℕ) → 0 < p → p ≤ length xs → get_or xs (p - 1) e ≡ get_or xs (p - 1) (get_or xs (p - 1) e)
      known p pos within = get_or_default xs (p - 1) e (get_or xs (p - 1) e) (omega arith)

-- no entry outside
pub entry_outside : {K : Type 0} (xs : List K) (p n : ℕ) → n ≡ length xs → ((p ≡ 0) ⊎ (n < p)) → entry_at xs p ≡ Err NoPlace
entry_outside xs p n whole (inl none) = ap (entry_at xs) none ∙ entry_none xs
entry_outside xs p n whole (inr past) = entry_past xs p (omega arith)

-- the entry at the place after i entries
pub entry_next : {K : Type 0} (xs : List K) (i : ℕ) (e : K) → i < length xs → entry_at xs (i + 1) ≡ Ok e → e ≡ get_or xs i e
entry_next xs i e within is =
    entry_read xs (i + 1) e (omega arith) (omega arith) is ∙ ap (λ j. get_or xs j e) (omega arith)

-- what is left of a run begins with the next entry
pub left_next : {K : Type 0} (xs : List K) (i : ℕ) → i < length xs → (e : K) × (entry_at xs (i + 1) ≡ Ok e) × (left xs i ≡ e ∷ left xs (i + 1))
left_next [] i within = absurd (omega arith)
left_next (x ∷ xs) i within =
    let d = get_or (x ∷ xs) i x in
    let here : i ≡ i + 1 - 1 = omega arith in
    let read : d ≡ get_or (x ∷ xs) (i + 1 - 1) d = get_or_default (x ∷ xs) i x d within ∙ ap (λ j. get_or (x ∷ xs) j d) here in
    (d, entry_there (x ∷ xs) (i + 1) d (omega arith) (omega arith) read, drop-cons (x ∷ xs) i x within ∙ ap (λ j. d ∷ drop j (x ∷ xs)) (suc-eq-add-one i))

-- within the run no place is refused
pub entry_given : {K : Type 0} (xs : List K) (p : ℕ) (f : Refusal) → 0 < p → p ≤ length xs → entry_at xs p ≡ Err f → ⊥
entry_given [] p f pos within is = omega arith
entry_given (x ∷ xs) p f pos within is =
    let d = get_or (x ∷ xs) (p - 1) x in
    let read = entry_there (x ∷ xs) p d pos within (get_or_default (x ∷ xs) (p - 1) x d (omega arith)) in
    let z : ◌≡◌ {A = ℕ} 0 1 = cc in
    omega arith

nth_drop : {K : Type 0} (a : ℕ) (xs : List K) (i : ℕ) → slice_get (drop a xs) i ≡ slice_get xs (a + i)
nth_drop zero xs i = ap (slice_get xs) (sym (zero-add i))
nth_drop (suc a) [] i = refl
nth_drop (suc a) (x ∷ xs) i = nth_drop a xs i ∙ ap (slice_get (x ∷ xs)) (sym (suc-add a i))

nth-take : {K : Type 0} (m : ℕ) (xs : List K) (i : ℕ) → i < m → slice_get (take m xs) i ≡ slice_get xs i
nth-take zero xs i h = absurd (omega arith)
nth-take (suc m) [] i h = refl
nth-take (suc m) (x ∷ xs) zero h = refl
nth-take (suc m) (x ∷ xs) (suc i) h = nth-take m xs i (omega arith)

-- reading a part of a run
pub entry_part : {K : Type 0} (xs : List K) (a m p : ℕ) → 0 < p → p ≤ m → entry_at (part xs a m) p ≡ entry_at xs (a + p)
unfolding entry_at
entry_part xs a m zero pos few = absurd (omega arith)
entry_part xs a m (suc i) pos few =
    ap (λ o. ok_or o NoPlace) (nth-take m (drop a xs) i (omega arith) ∙ nth_drop a xs i) ∙ ap (entry_at xs) (sym (add-suc a i))

-- a table cut to a run
pub cut_all : {K : Type 0} (xs : List K) → length xs < 2 ^ 32 → cut xs ≡ xs
unfolding cut
cut_all xs h = take_all 4_294_967_295 xs (omega arith)

pub length_cut : {K : Type 0} (xs : List K) → length (cut xs) ≡ min 4_294_967_295 (length xs)
unfolding cut
length_cut xs = length-take 4_294_967_295 xs

-- as many as fit 32 bits
pub count_cut : {E : Type 0} (r : Result ℕ E) (n : ℕ) → OkIff r (n < 2 ^ 32) n → result_unwrap_or r 4_294_967_295 ≡ min 4_294_967_295 n
count_cut (Ok x) n is = omega (arith, is.0, is.1)
count_cut (Err e) n large = go (cases_lt n (2 ^ 32))
  where
    go : (n < 2 ^ 32) ⊎ (2 ^ 32 ≤ n) → 4_294_967_295 ≡ min 4_294_967_295 n
    go (inl few) = absurd (large few)
    go (inr many) = omega arith

pub get_or_cut : {K : Type 0} (xs : List K) (i : ℕ) (d : K) → i < 4_294_967_295 → get_or (cut xs) i d ≡ get_or xs i d
unfolding cut
get_or_cut xs i d h = get_or-take 4_294_967_295 xs i d h

-- where an entry is answered, the place lies within the run
pub entry_within : {K : Type 0} (xs : List K) (p : ℕ) (e : K) → entry_at xs p ≡ Ok e → (0 < p) × (p ≤ length xs)
entry_within xs p e is = go (cases_lt 0 p) (cases_lt (length xs) p)
  where
    zero_of : p ≤ 0 → p ≡ 0
    zero_of h = omega arith

    go : (0 < p) ⊎ (p ≤ 0) → (length xs < p) ⊎ (p ≤ length xs) → (0 < p) × (p ≤ length xs)
    go (inr none) l = let z : ◌≡◌ {A = ℕ} 0 1 = cc (is, ap (entry_at xs) (zero_of none), entry_none xs) in absurd (omega arith)
    go (inl pos) (inl past) = let z : ◌≡◌ {A = ℕ} 0 1 = cc (is, entry_past xs p past) in absurd (omega arith)
    go (inl pos) (inr within) = (pos, within)

-- where a place is refused, it lies outside, and the refusal is 1
pub entry_refused : {K : Type 0} (xs : List K) (p : ℕ) (f : Refusal) → entry_at xs p ≡ Err f → (f ≡ NoPlace) × ((p ≡ 0) ⊎ (length xs < p))
entry_refused xs p f is = go (cases_lt 0 p) (cases_lt (length xs) p)
  where
    zero_of : p ≤ 0 → p ≡ 0
    zero_of h = omega arith

    go : (0 < p) ⊎ (p ≤ 0) → (length xs < p) ⊎ (p ≤ length xs) → (f ≡ NoPlace) × ((p ≡ 0) ⊎ (length xs < p))
    go (inr none) l =
        let e : f ≡ NoPlace = cc (is, ap (entry_at xs) (zero_of none), entry_none xs) in
        (e, inl (zero_of none))
    go (inl pos) (inl past) = let e : f ≡ NoPlace = cc (is, entry_past xs p past) in (e, inr past)
    go (inl pos) (inr within) = absurd (entry_given xs p f pos within is)

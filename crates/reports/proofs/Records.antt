-- Records of a tally of entries. Assumes nothing.
use Rattle.std.proofs.Common.{◌≡◌, ℕ, ◌+◌, ◌<◌, Bool, true, false, cond, eqb, List, [], ◌∷◌, map, get_or, Some, None, Option, rules, sym, refl, ◌∙◌, subst, arith}
use Rattle.std.specs.Option.{MatchOption, IsSome}
use Rattle.std.specs.List.{All}
use Rattle.std.specs.List.Sorted.{IsPermutation}
use Rattle.reports.specs.Tally.{IsOfEntry, record_of}
use Rattle.reports.specs.declared.counted.Counted.{Counted}
use Rattle.std.proofs.lemmas.List.Sorted.{sum_by-IsPermutation, All-permutation, IsPermutation-map}
use Rattle.std.proofs.lemmas.List.Sums.{sum_by-cons}
use Rattle.std.proofs.lemmas.Bool.{eqb-true}
use Rattle.kinds.specs.Steps.{numbering}
use Rattle.kinds.specs.declared.steps.Steps.{Steps}
use Rattle.tallies.specs.Tallies.{times, Tallied}
use Rattle.tallies.specs.declared.records.TallyRecord.{TallyRecord}

-- a tally in another order is a tally
pub Tallied-permutation : (ns : List ℕ) (rs after : List TallyRecord) → IsPermutation rs after → Tallied ns rs → Tallied ns after
Tallied-permutation ns rs after moved t = record {
  distinct = λ n. omega (arith, t.distinct n, sum_by-IsPermutation (λ (r : TallyRecord). cond (eqb n r.number) 1 0) rs after moved);
  there = λ n h. omega (arith, t.there n h, sum_by-IsPermutation (λ (r : TallyRecord). cond (eqb n r.number) 1 0) rs after moved);
  exact = All-permutation (λ (r : TallyRecord). r.times ≡ times r.number ns) rs after moved t.exact;
  used = All-permutation (λ (r : TallyRecord). 0 < r.times) rs after moved t.used;
  adds_up = sum_by-IsPermutation (λ (r : TallyRecord). r.times) rs after moved ∙ t.adds_up;
}

-- a number that occurs is that of an entry
entry_here : (n m : ℕ) (e : Steps) (b : Bool) → numbering.number e ≡ m → eqb n m ≡ b → (b ≡ false → (s : Steps) × (numbering.number s ≡ n)) → (s : Steps) × (numbering.number s ≡ n)
entry_here n m e true is same later = (e, is ∙ sym (eqb-true n m same))
entry_here n m e false is other later = later refl

pub entry_of_times : (n : ℕ) (es : List Steps) → 0 < times n (map numbering.number es) → (s : Steps) × (numbering.number s ≡ n)
entry_of_times n [] some = absurd (omega (arith, some))
entry_of_times n (e ∷ es) some =
    let m = numbering.number e in
    let ms = map numbering.number es in
    let cut : times n (m ∷ ms) ≡ cond (eqb n m) 1 0 + times n ms = sum_by-cons (λ k. cond (eqb n k) 1 0) m ms in
    entry_here n m e (eqb n m) refl refl (λ other.
    let less : 0 < cond false 1 0 + times n ms = subst (λ b. 0 < cond b 1 0 + times n ms) other (rw cut at some) in
    entry_of_times n es (omega (arith, less)))

-- a reading that has to find an entry finds it
pub read_number : (n : ℕ) (r : Option Steps) → MatchOption r ((s : Steps) → numbering.number s ≡ n → ⊥) (λ s. numbering.number s ≡ n) → (s : Steps) × (numbering.number s ≡ n) → IsSome r
read_number n None read of = absurd (read of.0 of.1)
read_number n (Some s) read of = search rules

-- each record of a tally of entries is that of an entry
pub records_of_entries : (es : List Steps) (rs : List TallyRecord) → Tallied (map numbering.number es) rs → All IsOfEntry rs
records_of_entries es rs tally k d within =
    let n = (get_or rs k d).number in
    let some : 0 < times n (map numbering.number es) = omega (arith, tally.exact k d within, tally.used k d within) in
    entry_of_times n es some

-- entries in another order are counted as they were
pub counts_permuted : (es : List Steps) (rs : List TallyRecord) (cs after : List Counted) → Tallied (map numbering.number es) rs → map record_of cs ≡ rs → IsPermutation cs after → Tallied (map numbering.number es) (map record_of after)
counts_permuted es rs cs after tally told moved =
    Tallied-permutation _ (map record_of cs) (map record_of after) (IsPermutation-map record_of cs after moved) (subst (λ l. Tallied (map numbering.number es) l) (sym told) tally)

-- A tally has as many records as there are different numbers. Assumes nothing.
use Rattle.std.proofs.Common.{◌≡◌, ℕ, ◌<◌, ◌≤◌, cond, eqb, ltb, List, [], ◌∷◌, length, take, drop, Ok, Err, sum_by, Result, sym, refl, ap, ◌∙◌, subst, inl, inr, arith}
use Rattle.kinds.specs.Refusals.{refusal}
use Rattle.kinds.specs.declared.refusal.Refusal.{Refusal}
use Rattle.tallies.specs.Groups.{Written}
use Rattle.tallies.specs.Tallies.{times, different, Tallied, Untallied, Answered}
use Rattle.tallies.specs.declared.records.TallyRecord.{TallyRecord}
use Rattle.tallies.proofs.Sums.{all_different}
use Rattle.std.proofs.lemmas.Bool.{lt-ltb}
use Rattle.std.proofs.lemmas.Bool.Decides.{nat_tests}
use Rattle.std.proofs.lemmas.List.{take_at, drop_at}
use Rattle.std.proofs.lemmas.List.Elements.{All-head, All-tail, All-weaker}
use Rattle.std.proofs.lemmas.List.Sums.{sum_by-cons}
use Rattle.std.proofs.lemmas.List.Sorted.{length_permutation, sum_by-IsPermutation}
use Rattle.std.specs.List.Sorted.{IsPermutation}
use Rattle.std.specs.List.{All}

-- each record is for a number that occurs
each_has : (ns : List ℕ) (rs : List TallyRecord) → All (λ (r : TallyRecord). r.times ≡ times r.number ns) rs → All (λ (r : TallyRecord). 0 < r.times) rs → sum_by (λ (r : TallyRecord). cond (ltb 0 (times r.number ns)) 1 0) rs ≡ length rs
each_has ns [] exact used = refl
each_has ns (r ∷ rs) exact used =
    let one = ap (λ t. cond {A = ℕ} t 1 0) (lt-ltb 0 (times r.number ns) (omega (arith, All-head (λ (q : TallyRecord). q.times ≡ times q.number ns) r rs exact, All-head (λ (q : TallyRecord). 0 < q.times) r rs used))) in
    omega (arith, sum_by-cons (λ (q : TallyRecord). cond (ltb 0 (times q.number ns)) 1 0) r rs, each_has ns rs (All-tail (λ (q : TallyRecord). q.times ≡ times q.number ns) r rs exact) (All-tail (λ (q : TallyRecord). 0 < q.times) r rs used))

pub tally_length : (ns : List ℕ) (rs : List TallyRecord) → Tallied ns rs → length rs ≡ different ns
tally_length ns rs t =
    sym (each_has ns rs t.exact t.used) ∙ all_different ns rs (λ n h. omega (arith, t.distinct n, t.there n h))

-- a tally of the same numbers in any other order is one of these
pub tally_shuffled : (ns ms : List ℕ) (rs : List TallyRecord) → IsPermutation ns ms → Tallied ms rs → Tallied ns rs
tally_shuffled ns ms rs sh t = record {
  distinct = t.distinct;
  there = λ n h. t.there n (omega (arith, same n));
  exact = All-weaker (λ (r : TallyRecord). r.times ≡ times r.number ms) (λ (r : TallyRecord). r.times ≡ times r.number ns) (λ r e. e ∙ same r.number) rs t.exact;
  used = t.used;
  adds_up = t.adds_up ∙ length_permutation ns ms sh;
}
  where
    same : (n : ℕ) → times n ms ≡ times n ns
    same n = sum_by-IsPermutation (λ m. cond (eqb n m) 1 0) ns ms sh

different_few : (ns : List ℕ) → different ns ≤ length ns
different_few [] = omega arith
different_few (n ∷ ns) = grind (arith, nat_tests, different_few ns)

-- and no more records than numbers
pub tally_few : (ns : List ℕ) (rs : List TallyRecord) → Tallied ns rs → length rs ≤ length ns
tally_few ns rs t = omega (arith, tally_length ns rs t, different_few ns)

-- a tally written to the front of a table is the answer
pub answered : (ns : List ℕ) (rs before after : List TallyRecord) (r : Result ℕ Refusal) → Tallied ns rs → Written rs before after r → Answered ns before after r
answered ns rs before after (Ok n) t w =
    let front : take n after ≡ rs = ap (take n) w.2 ∙ take_at rs (drop n before) n (sym w.0) in
    let back : drop n after ≡ drop n before = ap (drop n) w.2 ∙ drop_at rs (drop n before) n (sym w.0) in
    (w.0 ∙ tally_length ns rs t, w.1, subst (Tallied ns) (sym front) t, back)
answered ns rs before after (Err f) t w = (w.2, inl (w.0, omega (arith, w.1, tally_length ns rs t)))

-- a table with a record for each number is never too short
pub enough : (ns : List ℕ) (table : List TallyRecord) (f : Refusal) → length ns ≤ length table → Untallied ns table f → f ≡ refusal 24
enough ns table f long (inl short) = absurd (omega (arith, short.1, different_few ns))
enough ns table f long (inr want) = want

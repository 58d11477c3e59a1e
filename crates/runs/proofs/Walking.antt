-- Two walks side by side. Assumes nothing.
use Rattle.std.proofs.Common.{◌≡◌, ℕ, ◌+◌, ◌<◌, List, length, get_or, sym, ap, ◌∙◌, arith, below_more}
use Rattle.kinds.proofs.Joins.{total_next}
use Rattle.kinds.specs.Entries.{steps_group}
use Rattle.kinds.specs.Steps.{both}
use Rattle.kinds.specs.declared.steps.Steps.{Steps}
use Rattle.runs.specs.Positions.{position_after, Together}
use Rattle.std.proofs.lemmas.List.FromFn.{get_or-enumerate_from, length-enumerate_from}
use Rattle.std.proofs.lemmas.Slice.Zip.{get_or-zip, length-zip}
use Rattle.std.specs.List.{enumerate_from, zip}

-- two drives read together, and how many stand before them
pub record Turn (xs ys : List Steps) (n i : ℕ) (one other : Steps) : Type 0 where
  pub in_first : n < length xs
  pub in_second : n < length ys
  pub counted : i ≡ n
  pub first : one ≡ get_or xs n one
  pub second : other ≡ get_or ys n other

pub side_by_side : (xs ys : List Steps) (n : ℕ) (p : ℕ × (Steps × Steps)) → n < length (enumerate_from 0 (zip xs ys)) → p ≡ get_or (enumerate_from 0 (zip xs ys)) n p → Turn xs ys n p.0 p.1.0 p.1.1
side_by_side xs ys n p within read =
    let both_in : n < length (zip xs ys) = omega (arith, within, length-enumerate_from 0 (zip xs ys)) in
    let one_in : n < length xs = omega (arith, both_in, length-zip xs ys) in
    let other_in : n < length ys = omega (arith, both_in, length-zip xs ys) in
    let is : p ≡ (0 + n, (get_or xs n p.1.0, get_or ys n p.1.1)) = read ∙ get_or-enumerate_from 0 (zip xs ys) n p both_in ∙ ap (λ q. (0 + n, q)) (get_or-zip xs ys n p.1 one_in other_in) in
    record {
      in_first = one_in;
      in_second = other_in;
      counted = ap (λ (q : ℕ × (Steps × Steps)). q.0) is ∙ omega arith;
      first = ap (λ (q : ℕ × (Steps × Steps)). q.1.0) is;
      second = ap (λ (q : ℕ × (Steps × Steps)). q.1.1) is;
    }

-- the next drive
pub step_on : (xs : List Steps) (n : ℕ) (e s t : Steps) → n < length xs → e ≡ get_or xs n e → s ≡ position_after xs n → t ≡ both s e → t ≡ position_after xs (n + 1)
step_on xs n e s t within read at joined = joined ∙ ap (λ z. both z e) at ∙ sym (total_next steps_group xs n e within read)

-- before the first drive both stand at zero
pub start_together : (xs ys : List Steps) → Together xs ys 1
start_together xs ys i h = let z : i ≡ 0 = omega arith in ap (position_after xs) z ∙ sym (ap (position_after ys) z)

-- and after one more, if they stand alike then
pub still_together : (xs ys : List Steps) (n : ℕ) (s t : Steps) → Together xs ys n → s ≡ position_after xs n → t ≡ position_after ys n → s ≡ t → Together xs ys (n + 1)
still_together xs ys n s t before here there same =
    below_more (λ i. position_after xs i ≡ position_after ys i) n before (sym here ∙ same ∙ there)

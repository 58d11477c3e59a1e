-- A log cut into lines, one after another. Assumes nothing.
use Rattle.std.proofs.Common.{◌≡◌, ℕ, zero, suc, ◌+◌, ◌-◌, ◌<◌, ◌≤◌, List, [], ◌∷◌, ◌++◌, map, length, get_or, take, drop, Some, None, cond, eqb, Result, Vec, Ok, Err, sym, refl, inl, inr, subst, ⊎_elim, ap, ◌∙◌, arith}
use Rattle.kinds.specs.Refusals.{refusal}
use Rattle.logs.specs.Logs.{lines, grown, Reached, Reads}
use Rattle.std.proofs.lemmas.List.{get_or-drop, drop-drop, length-map, length-append, take_at, get_or_at, take_all, drop_all, length-drop}
use Rattle.std.proofs.lemmas.List.Quantifiers.{position-Some}
use Rattle.std.proofs.lemmas.Bool.{eq-eqb, ne_eqb, eqb-true, false≢true, lt-ltb, cases_lt}
use Rattle.std.specs.List.{position, position_or_len}
use Rattle.std.proofs.lemmas.List.Sums.{fails_before_first}
use Rattle.std.specs.Option.{is_some}
use Rattle.std.specs.Result.{IsErrAnd}
use Rattle.std.specs.declared.alloc.Global.{Global}
use Rattle.logs.specs.declared.fault.BadLine.{BadLine}

-- the first n bytes, none of them a newline, and then a newline or the end
first_line : (bs : List ℕ) (n : ℕ) → 0 < length bs → n ≤ length bs → ((k : ℕ) → k < n → get_or bs k 0 ≡ 10 → ⊥) → (n < length bs → get_or bs n 0 ≡ 10) → lines bs ≡ take n bs ∷ lines (drop (suc n) bs)
first_line [] n some within plain found = absurd (omega arith)
first_line (b ∷ bs) zero some within plain found = rw (eq-eqb b 10 (found (omega arith)))
first_line (b ∷ []) (suc zero) some within plain found = rw (ne_eqb b 10 (plain 0 (omega arith)))
first_line (b ∷ []) (suc (suc n)) some within plain found = absurd (omega arith)
first_line (b ∷ (c ∷ cs)) (suc n) some within plain found =
    let rest = first_line (c ∷ cs) n (omega arith) (omega arith) (λ k h. plain (suc k) (omega arith)) (λ h. found (omega arith)) in
    rw (ne_eqb b 10 (plain 0 (omega arith)), rest)

module _ (log : List ℕ) (start end : ℕ) (some : start < length log) (from : start ≤ end) (upto : end ≤ length log) (plain : (k : ℕ) → start ≤ k → k < end → get_or log k 0 ≡ 10 → ⊥) (found : end < length log → get_or log end 0 ≡ 10) where
  -- the next line of a log, and what is left of it
  next_line : lines (drop start log) ≡ take (end - start) (drop start log) ∷ lines (drop (end + 1) log)
  next_line =
      let len = length-drop start log in
      first_line (drop start log) (end - start) (omega arith) (omega arith)
      (λ k h e. plain (start + k) (omega arith) (omega arith) (sym (get_or-drop start log k 0) ∙ e))
      (λ h. get_or-drop start log (end - start) 0 ∙ ap (λ j. get_or log j 0) (omega arith) ∙ found (omega arith))
      ∙ ap (λ l. take (end - start) (drop start log) ∷ lines l) (drop-drop (suc (end - start)) start log ∙ ap (λ j. drop j log) (omega arith))

-- the first newline ends the first line
pub ended_line : (bs : List ℕ) (n : ℕ) → position (λ b. eqb b 10) bs ≡ Some n → lines bs ≡ take n bs ∷ lines (take (length bs - (n + 1)) (drop (n + 1) bs))
ended_line bs n is =
    let at = position-Some (λ b. eqb b 10) bs n 0 is in
    let behind : suc n ≡ n + 1 = omega arith in
    let all : length (drop (n + 1) bs) ≤ length bs - (n + 1) = omega (arith, length-drop (n + 1) bs) in
    first_line bs n (omega (arith, at.0)) (omega (arith, at.0)) (λ k h e. false≢true (sym (at.2 k h) ∙ eq-eqb _ 10 e)) (λ _. eqb-true _ 10 at.1)
    ∙ ap (λ k. take n bs ∷ lines (drop k bs)) behind
    ∙ ap (λ ls. take n bs ∷ lines ls) (sym (take_all _ _ all))

some_none : {n : ℕ} → Some n ≡ None → ⊥
some_none e = false≢true (sym (ap is_some e))

-- with no newline the bytes are one line
pub open_line : (bs : List ℕ) → position (λ b. eqb b 10) bs ≡ None → 0 < length bs → lines bs ≡ bs ∷ []
open_line bs is some =
    let p = λ (b : ℕ). eqb b 10 in
    let n = length bs in
    let plain : (k : ℕ) → k < n → get_or bs k 0 ≡ 10 → ⊥ = λ k h e. ⊎_elim
    (λ (within : position_or_len p bs < n). some_none (sym (ap (λ t. cond t (Some (position_or_len p bs)) None) (lt-ltb _ _ within)) ∙ is))
    (λ (past : n ≤ position_or_len p bs). false≢true (sym (fails_before_first p bs k 0 (omega arith)) ∙ eq-eqb _ 10 e))
    (cases_lt (position_or_len p bs) n) in
    first_line bs n some (omega arith) plain (λ h. absurd (omega arith)) ∙ ap (λ l. l ∷ lines (drop (suc n) bs)) (take_all n bs (omega arith)) ∙ ap (λ ls. bs ∷ lines ls) (drop_all (suc n) bs (omega arith))

-- there are no more lines than bytes
grown_length : (b : ℕ) (ls : List (List ℕ)) → length (grown b ls) ≤ length ls + 1
grown_length b [] = omega arith
grown_length b (l ∷ ls) = omega arith

pub length-lines : (bs : List ℕ) → length (lines bs) ≤ length bs
length-lines [] = omega arith
length-lines (b ∷ bs) = grind (arith, grown_length b (lines bs), length-lines bs)

-- a refusal that is handed out
abbrev pub refused_at : ℕ → ℕ → BadLine
refused_at line n = record { line = line; refusal = refusal n }

handed_out : {L : Type 0} (text : L → List ℕ) (bs : List ℕ) (r : Result (Vec L Global) BadLine) (f g : BadLine) → IsErrAnd r (λ e. e ≡ f) → f ≡ g → Reads text bs (Err g) → Reads text bs r
handed_out text bs (Ok said) f g is same reads = absurd is
handed_out text bs (Err e) f g is same reads = subst (λ x. Reads text bs (Err x)) (sym (is ∙ same)) reads

-- a line behind lines that say something: ds is what they say, n how many they are, and left what was left of the log
module _ {L : Type 0} (text : L → List ℕ) (bs : List ℕ) (ds : List L) (n : ℕ) (line : List ℕ) (left rest : List (List ℕ)) (read : lines bs ≡ map text ds ++ left) (step : left ≡ line ∷ rest) (count : n ≡ length ds) where
  sofar : lines bs ≡ map text ds ++ (line ∷ rest)
  sofar = read ∙ ap (λ ls. map text ds ++ ls) step

  here : line ≡ get_or (lines bs) (length ds) []
  here = sym (ap (λ xs. get_or xs (length ds) []) sofar ∙ get_or_at (map text ds) line rest [] (length ds) (length-map ds text))

  reached : Reached text (lines bs) (n + 1)
  reached =
      let len = length-map ds text in
      record {
        before = ds;
        count = omega (arith, count);
        within = omega (arith, ap length sofar, length-append (map text ds) (line ∷ rest));
        good = ap (take (length ds)) sofar ∙ take_at (map text ds) (line ∷ rest) (length ds) len;
      }

  -- it says nothing
  pub says_nothing : ((s : L) → text s ≡ line → ⊥) → (r : Result (Vec L Global) BadLine) (f : BadLine) → IsErrAnd r (λ e. e ≡ f) → f ≡ refused_at (n + 1) 6 → Reads text bs r
  unfolding reached
  says_nothing none r f is same = handed_out text bs r f (refused_at (n + 1) 6) is same (inl (refl, record { at = reached; bad = λ s e. none s (e ∙ sym here) }))

  -- it says something, and found no memory
  pub finds_no_memory : (s : L) → text s ≡ line → (r : Result (Vec L Global) BadLine) (f : BadLine) → IsErrAnd r (λ e. e ≡ f) → f ≡ refused_at (n + 1) 24 → Reads text bs r
  unfolding reached
  finds_no_memory s says r f is same = handed_out text bs r f (refused_at (n + 1) 24) is same (inr (refl, record { at = reached; says = s; good = says ∙ here }))

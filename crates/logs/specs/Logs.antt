-- What a log says, whatever a line of it can say. Assumes nothing.
use Rattle.std.specs.Prelude.{◌≡◌, ℕ, ◌+◌, ◌<◌, cond, ◌⊎◌, List, [], ◌∷◌, map, length, take, Ok, Err, vec_items, Result, Vec, ◌==◌, ◌≢◌, slice_index_or}
use Rattle.kinds.specs.Refusals.{refusal}
use Rattle.logs.specs.declared.fault.BadLine.{BadLine}
use Rattle.std.specs.declared.alloc.Global.{Global}

-- one byte more in front of the first line
abbrev pub grown : ℕ → List (List ℕ) → List (List ℕ)
grown b [] = (b ∷ []) ∷ []
grown b (l ∷ ls) = (b ∷ l) ∷ ls

-- the lines of a log: each ends at a newline, the last also at the end; no bytes after the last newline are no line
abbrev pub lines : List ℕ → List (List ℕ)
lines [] = []
lines (b ∷ bs) = cond (b == 10) ([] ∷ lines bs) (grown b (lines bs))

-- reading came to line k, counted from 1: the lines before it say something
pub record Reached {L : Type 0} (text : L → List ℕ) (ls : List (List ℕ)) (k : ℕ) : Type 0 where
  pub before : List L
  pub count : k ≡ length before + 1
  pub within : length before < length ls
  pub good : take (length before) ls ≡ map text before

-- what stands in the line that was reached
abbrev pub line_at : {L : Type 0} {text : L → List ℕ} {ls : List (List ℕ)} {k : ℕ} → Reached text ls k → List ℕ
line_at {ls = ls} r = slice_index_or ls (length r.before) []

-- line k is the first that says nothing
pub record FirstBad {L : Type 0} (text : L → List ℕ) (ls : List (List ℕ)) (k : ℕ) : Type 0 where
  pub at : Reached text ls k
  pub bad : (l : L) → text l ≢ line_at at

-- line k says something, but there was no memory for it
pub record WantsMemory {L : Type 0} (text : L → List ℕ) (ls : List (List ℕ)) (k : ℕ) : Type 0 where
  pub at : Reached text ls k
  pub says : L
  pub good : text says ≡ line_at at

-- what reading a log answers: what its lines say, each saying something, or the first line that says nothing
abbrev pub Reads : {L : Type 0} → (L → List ℕ) → List ℕ → Result (Vec L Global) BadLine → Type 0
Reads text bs (Ok said) = map text (vec_items said) ≡ lines bs
Reads text bs (Err f) =
    ((f.refusal ≡ refusal 6) × FirstBad text (lines bs) f.line) ⊎ ((f.refusal ≡ refusal 24) × WantsMemory text (lines bs) f.line)

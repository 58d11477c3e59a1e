-- No two kinds are known by one number. Assumes nothing.
use Rattle.std.proofs.Common.{◌≡◌, ℕ, cond, eqb, sym, refl, ap, ◌∙◌}
use Rattle.kinds.specs.Kinds.{Named, counts, steps, flags, faults, code_of, CodesDiffer}

abbrev known : ℕ → Named
known n = cond (eqb n 1) counts (cond (eqb n 2) steps (cond (eqb n 3) flags faults))

back : (a : Named) → known (code_of a) ≡ a
back counts = refl
back steps = refl
back flags = refl
back faults = refl

pub codes_differ_lem : CodesDiffer
codes_differ_lem a b e = sym (back a) ∙ ap known e ∙ back b

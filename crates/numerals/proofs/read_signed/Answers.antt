use Rattle.std.proofs.Common.{◌∷◌, length, sym, ap, ◌∙◌, arith}
use Rattle.std.specs.List.{between}
use Rattle.numerals.proofs.Spelled.{minus_read}
use Rattle.numerals.proofs.read_signed.Goals as goal
use Rattle.std.proofs.lemmas.Slice.{first_rest}

pub returns-in-len1-up : goal.returns-in-len1-up
returns-in-len1-up c =
    let bs = c.args.text.now in
    let rest = first_rest bs 0 (omega (arith, c.in-len1-up.len_at_least)) ∙ ap (λ b. b ∷ between 1 (length bs) bs) (sym c.from.ensures ∙ c.if-from-eq45.true) in
    minus_read c.negative.result bs _ rest c.negative.ensures

use Rattle.std.proofs.Common.{ap, ◌∙◌, subst, arith, take_all}
use Rattle.numerals.proofs.Spelled.{spelled}
use Rattle.numerals.proofs.read_unsigned.Goals as goal
use Rattle.std.proofs.lemmas.Int.Digits.{digits_value_more, digits_more}
use Rattle.std.specs.Str.Parse.{AllDigits, digits_value}

pub loop-b-preserved : goal.loop-b-preserved
loop-b-preserved c =
    let bs = c.args.text.now in
    let i = c.loop-b.b-index in
    let got = c.in_ok-n.ensures in
    (digits_more 10 bs i c.loop-b-test.true c.loop-b.invariant.0 got.0, omega (arith, got.1, c.loop-b.invariant.1, digits_value_more 10 bs i c.loop-b-test.true), got.2)

pub returns : goal.returns
returns c =
    let bs = c.args.text.now in
    let whole = take_all c.loop-b.b-index bs c.loop-b-test.false in
    let begun = c.if-not-well_begun.ensures in
    spelled bs c.loop-b.n (subst (AllDigits 10) whole c.loop-b.invariant.0) (c.loop-b.invariant.1 ∙ ap (digits_value 10) whole) c.loop-b.invariant.2 begun.0 begun.1

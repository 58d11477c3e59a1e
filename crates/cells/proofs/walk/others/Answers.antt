use Rattle.std.proofs.Common.{◌-◌, ap, ◌∙◌, arith}
use Rattle.cells.proofs.Decoding.{power_within, besides_more}
use Rattle.cells.proofs.walk.others.Goals as goal
use Rattle.cells.specs.Cells.{cell}
use Rattle.kinds.proofs.Grouped.{group_of}

pub overflow_sub-before : goal.overflow_sub-before
overflow_sub-before g c = omega (arith, power_within c.args.place.number c.loop-t.t c.args.place.from_one c.args.place.fits c.loop-t-test.true)

pub invariant_of-before : goal.invariant_of-before
invariant_of-before g c =
    let h = power_within c.args.place.number c.loop-t.t c.args.place.from_one c.args.place.fits c.loop-t-test.true in
    record { from_one = omega (arith, h, c.power.ensures); fits = omega (arith, c.args.place.fits) }

pub loop-t-preserved : goal.loop-t-preserved
loop-t-preserved g c =
    c.join-sum.ensures
    ∙ besides_more g.K.Reckoned (group_of g.met.K.Reckoned) c.args.cells.now c.args.place.number c.loop-t.t _ _ c.loop-t.invariant
    (c.cell_of.ensures ∙ ap (λ p. cell g.K.Reckoned c.args.cells.now (c.args.place.number - p)) c.power.ensures)

use Rattle.cells.proofs.Raising.{Raising, raising_more}
use Rattle.cells.proofs.walk.raise.Goals as goal
use Rattle.std.proofs.Common.{◌≡◌, ◌+◌, ◌-◌, set, sym, ap, ◌∙◌, subst, arith}

pub loop-above-preserved : goal.loop-above-preserved
loop-above-preserved g c =
    let R = g.K.Reckoned in
    let l = c.loop-above in
    let p = c.args.place.number in
    let at : l.above - 1 ≡ c.index.result = omega (arith, c.index.ensures) in
    subst (λ i. Raising R c.args.cells.now (set l.cells i c.join.result) c.args.count p c.args.amount (l.above + c.span-above.result)) at
    (subst (λ s. Raising R c.args.cells.now (set l.cells (l.above - 1) c.join.result) c.args.count p c.args.amount (l.above + s)) (sym c.span-above.ensures)
    (raising_more R c.args.cells.now c.args.count p c.args.amount c.args.place.from_one l.cells l.above c.join.result
    c.requires.last (omega (arith, c.requires.few)) (omega arith) (c.join.ensures ∙ ap (λ x. R.join x c.args.amount) c.cell_of.ensures) l.invariant))

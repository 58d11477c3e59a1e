use Rattle.std.proofs.Common.{◌≡◌, ◌-◌, ◌^◌, ◌<◌, sym, ap, ◌∙◌, arith}
use Rattle.cells.proofs.Decoding.{summed, summed_runs, summed_none}
use Rattle.cells.proofs.Reach.{span_le}
use Rattle.cells.proofs.walk.joined.Goals as goal
use Rattle.cells.specs.Cells.{cell}
use Rattle.kinds.proofs.Grouped.{group_of}

pub overflow_sub-left : goal.overflow_sub-left
overflow_sub-left g c =
    omega (arith, span_le c.loop-left.left (omega arith) (omega (arith, c.loop-left.invariant.0, c.requires)), c.span-left.ensures)

pub loop-left-preserved : goal.loop-left-preserved
loop-left-preserved g c =
    let R = g.K.Reckoned in
    let laws = group_of g.met.K.Reckoned in
    let cells = c.args.cells.now in
    let p = c.loop-left.left in
    let few : p < 2 ^ 32 = omega (arith, c.loop-left.invariant.0, c.requires) in (
      omega (arith, c.loop-left.invariant.0),
      ap (λ s. R.join (summed R cells (p - s)) c.join-sum.result) c.span-left.ensures
          ∙ ap (R.join (summed R cells _)) (c.join-sum.ensures ∙ ap (λ x. R.join x c.loop-left.sum) c.cell_of.ensures)
          ∙ sym (laws.associative _ (cell R cells p) c.loop-left.sum)
          ∙ ap (λ y. R.join y c.loop-left.sum) (summed_runs R laws cells p few p (omega arith) (omega arith))
          ∙ c.loop-left.invariant.1,
    )

pub returns : goal.returns
returns g c =
    let R = g.K.Reckoned in
    let laws = group_of g.met.K.Reckoned in
    let cells = c.args.cells.now in
    let s = c.loop-left.sum in
    let none : c.loop-left.left ≡ 0 = omega arith in
    sym (laws.left s)
    ∙ ap (λ z. R.join z s) (sym (summed_none R cells) ∙ ap (summed R cells) (sym none))
    ∙ c.loop-left.invariant.1

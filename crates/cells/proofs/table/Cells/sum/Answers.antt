use Rattle.cells.proofs.Raising.{decoded_front}
use Rattle.cells.proofs.table.Cells.sum.Goals as goal
use Rattle.cells.specs.Cells.{decoded}
use Rattle.kinds.specs.Totals.{total}
use Rattle.std.proofs.Common.{length, take, vec_items, ap, ◌∙◌, arith}

pub returns : goal.returns
returns g c =
    let R = g.K.Reckoned in
    let s = c.args.self.now in
    let n = s.count in
    c.joined.ensures
    ∙ ap (λ l. total R (decoded R (take n l) (length (take n l)))) c.deref.ensures.value
    ∙ ap (total R) (decoded_front R (vec_items s.table) n (omega (arith, s.within)) (omega (arith, s.within, s.table.ok.0)))

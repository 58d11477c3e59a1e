use Rattle.cells.proofs.Decoding.{decoded_at, length-decoded}
use Rattle.cells.proofs.table.Cells.entry.Goals as goal
use Rattle.cells.specs.Cells.{cell, besides, written}
use Rattle.runs.proofs.Placed.{entry_there}
use Rattle.std.proofs.Common.{◌≡◌, vec_items, sym, ap, ◌∙◌, arith}

pub returns : goal.returns
returns g c =
    let R = g.K.Reckoned in
    let s = c.args.self.now in
    let p = c.args.place.number in
    let xs = vec_items s.table in
    let is : c.join.result ≡ R.join (cell R xs p) (R.inverse (besides R xs p)) = c.join.ensures ∙ ap (λ x. R.join x c.inverse.result) (c.cell_of.ensures ∙ ap (λ l. cell R l p) c.as_slice-cells.ensures.value) ∙ ap (R.join (cell R xs p)) (c.inverse.ensures ∙ ap R.inverse (c.others.ensures ∙ ap (λ l. besides R l p) c.as_slice-cells.ensures.value)) in
    entry_there (written R s) p c.join.result c.args.place.from_one (omega (arith, c.requires, length-decoded R xs s.count))
    (is ∙ sym (decoded_at R xs s.count p c.join.result c.args.place.from_one c.requires))

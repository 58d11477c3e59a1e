use Rattle.cells.proofs.Decoding.{length-decoded, take-decoded}
use Rattle.cells.proofs.Raising.{decoded_front}
use Rattle.cells.proofs.table.Cells.total.Goals as goal
use Rattle.cells.specs.Cells.{decoded, written}
use Rattle.kinds.specs.Totals.{total}
use Rattle.runs.proofs.Summing.{total_there, total_past}
use Rattle.std.proofs.Common.{◌≡◌, ◌≤◌, length, take, Ok, vec_items, sym, ap, ◌∙◌, arith}

pub returns-then-i-self : goal.returns-then-i-self
returns-then-i-self g c =
    let R = g.K.Reckoned in
    let s = c.args.self.now in
    sym (total_past R (written R s) c.args.i (omega (arith, length-decoded R (vec_items s.table) s.count)))

pub returns : goal.returns
returns g c =
    let R = g.K.Reckoned in
    let s = c.args.self.now in
    let i = c.args.i in
    let xs = vec_items s.table in
    let within : i ≤ s.count = omega arith in
    let front : c.joined.result ≡ total R (decoded R (take i xs) (length (take i xs))) = c.joined.ensures ∙ ap (λ l. total R (decoded R (take i l) (length (take i l)))) c.deref.ensures.value in
    ap Ok (front ∙ ap (total R) (decoded_front R xs i (omega (arith, c.ranges.i.fits)) (omega (arith, s.within, s.table.ok.0)) ∙ sym (take-decoded R xs s.count i within)))
    ∙ sym (total_there R (written R s) i (omega (arith, length-decoded R xs s.count)))

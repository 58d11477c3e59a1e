use Rattle.cells.proofs.Decoding.{length-decoded}
use Rattle.kinds.specs.Totals.{total}
use Rattle.ledgers.proofs.replaying.total_of.Goals as goal
use Rattle.runs.proofs.Summing.{total_there}
use Rattle.sheets.specs.Sheets.{entries_of}
use Rattle.std.proofs.Common.{◌≡◌, take, vec_items, refl, ap, ◌∙◌, arith}
use Rattle.std.proofs.lemmas.List.{take_all}

pub unwrap-requires : goal.unwrap-requires
unwrap-requires g c =
    let R = g.K.Reckoned in
    let s = c.args.book.now.sheet in
    let there = total_there R (entries_of R s) c.count.result (omega (arith, c.count.ensures.counts, length-decoded R (vec_items s.cells.table) s.cells.count)) in
    rw (c.total.ensures.answers, there) refl

pub returns : goal.returns
returns g c =
    let R = g.K.Reckoned in
    let s = c.args.book.now.sheet in
    let n = c.count.result in
    let long = length-decoded R (vec_items s.cells.table) s.cells.count in
    let there = total_there R (entries_of R s) n (omega (arith, c.count.ensures.counts, long)) in
    let is : c.unwrap.result ≡ total R (take n (entries_of R s)) = cc (there, c.total.ensures.answers, c.unwrap.ensures) in
    is ∙ ap (total R) (take_all n (entries_of R s) (omega (arith, c.count.ensures.counts, long)))

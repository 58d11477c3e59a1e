use Rattle.cells.proofs.Clearing.{cleared_beyond, cleared_long}
use Rattle.cells.proofs.table.Cells.over.Goals as goal
use Rattle.cells.specs.Cells.{limit, own}
use Rattle.std.proofs.lemmas.List.{with_items_is}
use Rattle.std.proofs.Common.{◌≡◌, ◌++◌, length, drop, replicate, vec_items, sym, ap, ◌∙◌, arith}

pub returns-clause-beyond : goal.returns-clause-beyond
returns-clause-beyond g c =
    let R = g.K.Reckoned in
    let v = c.args.table in
    let xs = vec_items v in
    let cut : c.min-own.result ≡ own (length xs) = omega (arith, v.ok.0, c.min-own.ensures, c.len.ensures) in
    let is : c.clear.new.cells ≡ replicate (own (length xs)) R.zero ++ drop (own (length xs)) xs = c.clear.ensures ∙ ap (λ l. replicate c.min-own.result R.zero ++ drop c.min-own.result l) c.as_mut_slice.ensures.value ∙ ap (λ n. replicate n R.zero ++ drop n xs) cut in
    let long : length c.clear.new.cells ≡ v.len = ap length is ∙ cleared_long R.zero xs ∙ sym v.ok.0 in
    ap (drop limit) (with_items_is v c.clear.new.cells long ∙ is) ∙ cleared_beyond R.zero xs

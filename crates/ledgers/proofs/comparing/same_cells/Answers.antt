use Rattle.ledgers.proofs.comparing.same_cells.Goals as goal
use Rattle.std.proofs.Common.{◌≡◌, length, get_or, sym, ap, ◌∙◌, below_more}
use Rattle.std.proofs.lemmas.List.{length_push}
use Rattle.std.proofs.lemmas.Slice.Zip.{zip_turn}

pub returns-then-number : goal.returns-then-number
returns-then-number g c =
    let z = g.K.Reckoned.zero in
    let xs = c.args.cells.now in
    let ys = c.args.others.now in
    let n = length c.loop-cell.yielded in
    let turn = zip_turn xs ys c.loop-cell.yielded c.into_iter-cell-iterator.result c.loop-cell.cell-iterator c.next.new.self c.next.result (cc) (cc) c.loop-cell.yielded_by (c.in-Some.cell, c.in-Some.other) c.in-Some.is c.next.ensures.steps in
    let one = turn.2 z in
    let other = turn.3 z in
    (n, turn.0, λ same. c.if-number.true (c.number.ensures ∙ ap g.K.Kind.number (one ∙ same ∙ sym other) ∙ sym c.number-in-loop-cell.ensures))

pub loop-cell-preserved : goal.loop-cell-preserved
loop-cell-preserved g c =
    let z = g.K.Reckoned.zero in
    let xs = c.args.cells.now in
    let ys = c.args.others.now in
    let n = length c.loop-cell.yielded in
    let turn = zip_turn xs ys c.loop-cell.yielded c.into_iter-cell-iterator.result c.loop-cell.cell-iterator c.next.new.self c.next.result (cc) (cc) c.loop-cell.yielded_by (c.in-Some.cell, c.in-Some.other) c.in-Some.is c.next.ensures.steps in
    let one = turn.2 z in
    let other = turn.3 z in
    let alike = g.met.K.Kind.distinct _ _ (sym c.number.ensures ∙ c.if-number.false ∙ c.number-in-loop-cell.ensures) in
    rw (length_push c.loop-cell.yielded (c.in-Some.cell, c.in-Some.other))
    (below_more (λ k. get_or xs k z ≡ get_or ys k z) n c.loop-cell.invariant (sym one ∙ alike ∙ other))

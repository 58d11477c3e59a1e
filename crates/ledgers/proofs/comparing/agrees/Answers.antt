use Rattle.kinds.proofs.Grouped.{group_of}
use Rattle.ledgers.proofs.Lawful.{compared, compared_histories, counts_differ, cut_same}
use Rattle.ledgers.proofs.comparing.agrees.Goals as goal
use Rattle.sheets.specs.Sheets.{entries_of}
use Rattle.std.proofs.Common.{◌≡◌, false, MatchBool, vec_items, ◌∙◌, arith}

pub returns-then-count : goal.returns-then-count
returns-then-count g c =
    let R = g.K.Reckoned in
    let a = c.args.a.now.sheet in
    let b = c.args.b.now.sheet in
    let differ = counts_differ R a b _ _ c.count-count.ensures.counts c.count.ensures.counts c.if-count.true in
    record { entries = differ; histories = compared_histories R g.K.Kind a b false differ }

pub returns : goal.returns
returns g c =
    let R = g.K.Reckoned in
    let a = c.args.a.now.sheet in
    let b = c.args.b.now.sheet in
    let n = c.count-count.result in
    let here = c.count-count.ensures.counts in
    let there = c.if-count.false ∙ c.count.ensures.counts in
    let same = cut_same R.zero c.same_cells.result (vec_items a.cells.table) (vec_items b.cells.table) n (omega (arith, here, a.cells.within, a.cells.table.ok.0)) (omega (arith, there, b.cells.within, b.cells.table.ok.0)) (simp (c.cells.ensures, c.cells-2.ensures) at c.same_cells.ensures) in
    let told : MatchBool c.same_cells.result (entries_of R a ≡ entries_of R b) (entries_of R a ≡ entries_of R b → ⊥) = compared R (group_of g.met.K.Reckoned) a b c.same_cells.result n here there same in
    record { entries = told; histories = compared_histories R g.K.Kind a b c.same_cells.result told }

use Rattle.cells.proofs.Decoding.{length-decoded}
use Rattle.sheets.proofs.closed.ClosedSheetRun.count.Goals as goal
use Rattle.std.proofs.Common.{vec_items, sym, ◌∙◌}

pub returns : goal.returns
returns g c =
    let s = c.args.self.now.sheet in
    c.count.ensures.counts ∙ sym (length-decoded g.K.Reckoned (vec_items s.cells.table) s.cells.count)

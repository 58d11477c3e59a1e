use Rattle.cells.proofs.Decoding.{length-decoded}
use Rattle.cells.proofs.table.Cells.at.Goals as goal
use Rattle.runs.proofs.Placed.{entry_outside}
use Rattle.std.proofs.Common.{sym}
use Rattle.std.proofs.lemmas.Result.{err_from_is_err_and}

pub returns-in_err-place : goal.returns-in_err-place
returns-in_err-place g c =
    let p = err_from_is_err_and c.from_residual.result c.from_residual.ensures.1 in
    rw (p.1, p.2, c.in_err-place.ensures.0) (sym (entry_outside _ c.args.place c.args.self.now.count (sym (length-decoded g.K.Reckoned _ _)) c.in_err-place.ensures.1))

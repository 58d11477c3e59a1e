use Rattle.runs.proofs.Placed.{count_cut, length_cut}
use Rattle.runs.proofs.table.RefSliceRun.count.Goals as goal
use Rattle.std.proofs.Common.{sym, ◌∙◌}

pub returns : goal.returns
returns g c =
    c.unwrap_or.ensures ∙ count_cut c.try_from.result _ c.try_from.ensures ∙ sym (length_cut c.args.self.now.now)

use Rattle.cells.specs.Cells.{own}
use Rattle.kinds.proofs.Grouped.{group_of}
use Rattle.sheets.proofs.Keeping.{keeps, none_written}
use Rattle.sheets.proofs.sheet.Sheet.make.Goals as goal
use Rattle.sheets.specs.History.{begun}
use Rattle.std.proofs.Common.{vec_len, refl, ap}

pub returns-clause-begins_history : goal.returns-clause-begins_history
returns-clause-begins_history g c =
    let R = g.K.Reckoned in
    keeps g.K.Kind R (group_of g.met.K.Reckoned) (begun R c.args.unit (own (vec_len c.args.table))) _ refl (ap own c.over.ensures.long) (none_written R _ _ c.over.ensures.empty) c.over.ensures.cleared refl refl

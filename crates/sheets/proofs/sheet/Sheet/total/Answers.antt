use Rattle.sheets.proofs.Asking.{follows_total}
use Rattle.sheets.proofs.sheet.Sheet.total.Goals as goal

pub returns-clause-follows_history : goal.returns-clause-follows_history
returns-clause-follows_history g c = follows_total g.K.Kind g.K.Reckoned c.args.self.now c.args.i c.total.result c.total.ensures

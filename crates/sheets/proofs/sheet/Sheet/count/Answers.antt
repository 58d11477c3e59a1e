use Rattle.sheets.proofs.Asking.{follows_count}
use Rattle.sheets.proofs.sheet.Sheet.count.Goals as goal

pub returns-clause-follows_history : goal.returns-clause-follows_history
returns-clause-follows_history g c = follows_count g.K.Kind g.K.Reckoned c.args.self.now c.count.result c.count.ensures

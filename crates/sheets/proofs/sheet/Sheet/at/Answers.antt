use Rattle.sheets.proofs.Asking.{follows_at}
use Rattle.sheets.proofs.sheet.Sheet.at.Goals as goal

pub returns-clause-follows_history : goal.returns-clause-follows_history
returns-clause-follows_history g c = follows_at g.K.Kind g.K.Reckoned c.args.self.now c.args.place c.at.result c.at.ensures

use Rattle.sheet_trials.proofs.Evaluated.{examples}
use Rattle.sheet_trials.proofs.worked.examples_hold.Goals as goal

pub returns : goal.returns
returns c = examples

use Rattle.trials.proofs.Evaluated.{examples}
use Rattle.trials.proofs.worked.examples_hold.Goals as goal

pub returns : goal.returns
returns c = examples

-- Searched for by the rules alone, so that a body that keeps another history is refused soon.
use Rattle.ledgers.proofs.ledger.Ledger.shift.Goals as goal
use Rattle.std.proofs.Common.{rules}

pub returns-clause-follows_history : goal.returns-clause-follows_history
returns-clause-follows_history g c = search rules

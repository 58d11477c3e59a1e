use Rattle.kinds.specs.Totals.{total}
use Rattle.runs.proofs.walk.total.Given as goal
use Rattle.std.proofs.Common.{◌≡◌}

abbrev pub invariant-loop-entry : goal.invariant-loop-entry
invariant-loop-entry g l =
    (goal.iterator-loop-entry g).can_next l.entry-iterator
    × (goal.iterator-loop-entry g).is_finite l.entry-iterator
    × (l.sum ≡ total g.R.Entry.Reckoned l.yielded)

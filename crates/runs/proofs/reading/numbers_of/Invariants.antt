use Rattle.runs.proofs.reading.numbers_of.Given as goal
use Rattle.std.proofs.Common.{◌≡◌, ◌≤◌, length, map, vec_capacity, vec_items, vec_len}

abbrev pub invariant-loop-entry : goal.invariant-loop-entry
invariant-loop-entry g l =
    (goal.iterator-loop-entry g).can_next l.entry-iterator
    × (goal.iterator-loop-entry g).is_finite l.entry-iterator
    × (vec_items l.numbers ≡ map g.R.Entry.Kind.number l.yielded)
    × (vec_len l.numbers ≡ length l.yielded)
    × (length (g.R.Run.entries l.run) ≤ vec_capacity l.numbers)

use Rattle.std.proofs.Common.{◌≡◌, ◌≤◌, map, length, take, vec_capacity, vec_items, vec_len}
use Rattle.kinds.specs.Totals.{total}
use Rattle.runs.proofs.totals.Totals.over.Given as goal
use Rattle.std.specs.List.{range_with_len}

abbrev pub invariant-loop-entry : goal.invariant-loop-entry
invariant-loop-entry g l =
    let xs = g.R.Run.entries l.run in
    let n = length l.yielded in
    (goal.iterator-loop-entry g).can_next l.entry-iterator
    × (goal.iterator-loop-entry g).is_finite l.entry-iterator
    × (n ≤ length xs)
    × (l.sum ≡ total g.K.Reckoned (take n xs))
    × (vec_items l.joins ≡ map (λ j. total g.K.Reckoned (take j xs)) (range_with_len 1 n))
    × (vec_len l.joins ≡ n)
    × (length xs ≤ vec_capacity l.joins)

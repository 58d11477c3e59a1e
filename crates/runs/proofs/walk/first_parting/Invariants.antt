use Rattle.std.proofs.Common.{◌≡◌, ◌+◌, ◌≤◌, length}
use Rattle.runs.proofs.walk.first_parting.Given as goal
use Rattle.runs.specs.Positions.{position_after, Together}

abbrev pub invariant-loop-i : goal.invariant-loop-i
invariant-loop-i g l =
    let xs = g.A.Run.entries l.a in
    let ys = g.B.Run.entries l.b in
    let n = length l.yielded in
    (goal.iterator-loop-i g).can_next l.i-iterator
    × (goal.iterator-loop-i g).is_finite l.i-iterator
    × (n ≤ length xs)
    × (n ≤ length ys)
    × (l.first ≡ position_after xs n)
    × (l.second ≡ position_after ys n)
    × Together xs ys (n + 1)

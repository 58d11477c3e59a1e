use Rattle.std.proofs.Common.{◌≡◌, ◌≤◌, map, length, take, vec_items, vec_len, vec_capacity}
use Rattle.ledgers.proofs.Lawful.{Followed}
use Rattle.ledgers.proofs.replaying.replay.Given as goal
use Rattle.ledgers.specs.Law.{by_slip}

abbrev pub invariant-loop-call : goal.invariant-loop-call
invariant-loop-call g l =
    Followed g.K.Reckoned g.K.Kind l.unit (map (by_slip l.unit) (take l.call-index l.calls)) l.initial.ledger.sheet l.ledger.sheet (vec_items l.answers)
    × (vec_len l.answers ≡ l.call-index)
    × (length l.calls ≤ vec_capacity l.answers)

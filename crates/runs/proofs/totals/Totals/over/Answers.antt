use Rattle.kinds.proofs.Grouped.{group_of}
use Rattle.kinds.proofs.Joins.{total_next}
use Rattle.kinds.specs.Totals.{total}
use Rattle.runs.proofs.Summing.{running_more, running_all}
use Rattle.runs.proofs.totals.Totals.over.Goals as goal
use Rattle.runs.specs.Places.{left}
use Rattle.std.proofs.Common.{◌≡◌, ◌+◌, ◌++◌, ◌∷◌, [], length, take, ap, ◌∙◌, rules, arith}
use Rattle.std.proofs.lemmas.Iterator.Consumers.{YieldsList-from_first, YieldsList-turn, YieldsList-end}
use Rattle.std.proofs.lemmas.List.{length_push}
use Rattle.std.proofs.lemmas.List.FromFn.{length-map-range_with_len}

pub loop-entry-preserved : goal.loop-entry-preserved
loop-entry-preserved g c =
    let R = g.K.Reckoned in
    let xs = g.R.Run.entries c.args.run.now in
    let e = c.in-Some.entry in
    let given = YieldsList-from_first (λ x. x) (λ s. left (g.R.Run.entries s.run.now) s.given) {s = c.into_iter-entry-iterator.result} xs (cc) in
    let turn = YieldsList-turn given c.loop-entry.yielded c.loop-entry.entry-iterator c.loop-entry.yielded_by c.next.result c.next.new.self e c.in-Some.is c.next.ensures.steps in
    let n = length c.loop-entry.yielded in
    let next = total_next (group_of g.met.K.Reckoned) xs n e turn.0 turn.1 in
    let joined : c.join-sum.result ≡ total R (take (n + 1) xs) = search rules in
    let more : length (c.loop-entry.yielded ++ e ∷ []) ≡ n + 1 = length_push c.loop-entry.yielded e in
    rw more (tt, tt, omega (arith, turn.0), joined, c.push_reserved.ensures.items ∙ running_more R xs n _ _ c.loop-entry.invariant.4 joined, omega (arith, c.push_reserved.ensures.len, c.loop-entry.invariant.5), omega (arith, c.push_reserved.ensures.capacity, c.loop-entry.invariant.6))

pub invariant_of-result : goal.invariant_of-result
invariant_of-result g c =
    let long = ap length c.loop-entry.invariant.4 ∙ length-map-range_with_len _ 1 (length c.loop-entry.yielded) in
    record { few = omega (arith, long, c.loop-entry.invariant.2, c.count.ensures, c.count.type_inv) }

pub returns : goal.returns
returns g c =
    let xs = g.R.Run.entries c.args.run.now in
    let given = YieldsList-from_first (λ x. x) (λ s. left (g.R.Run.entries s.run.now) s.given) {s = c.into_iter-entry-iterator.result} xs (cc) in
    let end = YieldsList-end given c.loop-entry.yielded c.loop-entry.entry-iterator c.loop-entry.yielded_by c.next.result c.next.new.self c.in-None.is c.next.ensures.steps in
    running_all g.K.Reckoned xs _ (length c.loop-entry.yielded) end.1 c.loop-entry.invariant.4

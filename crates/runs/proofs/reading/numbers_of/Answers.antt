use Rattle.runs.proofs.reading.numbers_of.Goals as goal
use Rattle.runs.specs.Places.{left}
use Rattle.std.proofs.Common.{map, sym, ap, ◌∙◌, rules, arith}
use Rattle.std.proofs.lemmas.Iterator.Consumers.{YieldsList-from_first, YieldsList-turn, YieldsList-end}
use Rattle.std.proofs.lemmas.List.{length_push, map-id, map_push}

pub push_reserved-requires : goal.push_reserved-requires
push_reserved-requires g c =
    let given = YieldsList-from_first (λ x. x) (λ s. left (g.R.Run.entries s.run.now) s.given) {s = c.into_iter-entry-iterator.result} (g.R.Run.entries c.args.run.now) (cc) in
    let turn = YieldsList-turn given c.loop-entry.yielded c.loop-entry.entry-iterator c.loop-entry.yielded_by c.next.result c.next.new.self c.in-Some.entry c.in-Some.is c.next.ensures.steps in
    omega (arith, turn.0, c.loop-entry.invariant.3, c.loop-entry.invariant.4)

pub loop-entry-preserved : goal.loop-entry-preserved
loop-entry-preserved g c =
    let ys = c.loop-entry.yielded in
    let more = map_push g.R.Entry.Kind.number ys c.in-Some.entry in
    (tt, tt, search rules, omega (arith, c.push_reserved.ensures.len, c.loop-entry.invariant.3, length_push ys c.in-Some.entry), omega (arith, c.push_reserved.ensures.capacity, c.loop-entry.invariant.4))

pub returns : goal.returns
returns g c =
    let given = YieldsList-from_first (λ x. x) (λ s. left (g.R.Run.entries s.run.now) s.given) {s = c.into_iter-entry-iterator.result} (g.R.Run.entries c.args.run.now) (cc) in
    let end = YieldsList-end given c.loop-entry.yielded c.loop-entry.entry-iterator c.loop-entry.yielded_by c.next.result c.next.new.self c.in-None.is c.next.ensures.steps in
    c.loop-entry.invariant.2 ∙ ap (map g.R.Entry.Kind.number) (sym (map-id _) ∙ end.0)

use Rattle.kinds.specs.Entries.{same_steps}
use Rattle.runs.proofs.Walking.{side_by_side, step_on, still_together}
use Rattle.runs.proofs.walk.first_parting.Goals as goal
use Rattle.runs.specs.Places.{left}
use Rattle.runs.specs.Positions.{position_after}
use Rattle.std.proofs.Common.{◌≡◌, ◌+◌, ◌++◌, ◌∷◌, [], length, rules, ap, ◌∙◌, arith}
use Rattle.std.proofs.lemmas.Iterator.{YieldsList-from_zip}
use Rattle.std.proofs.lemmas.Iterator.Consumers.{YieldsList-from_first, YieldsList-from_enumerate, YieldsList-turn}
use Rattle.std.proofs.lemmas.List.{length_push}
use borrow.Author.Tests.{tests}
use Rattle.kinds.specs.declared.steps.Steps.{Steps}

pub returns-then-ne : goal.returns-then-ne
returns-then-ne g c =
    let xs = g.A.Run.entries c.args.a.now in
    let ys = g.B.Run.entries c.args.b.now in
    let s = c.into_iter-i-iterator.result in
    let one = YieldsList-from_first (λ x. x) (λ s. left (g.A.Run.entries s.run.now) s.given) {s = s.iter.a} xs (cc) in
    let other = YieldsList-from_first (λ x. x) (λ s. left (g.B.Run.entries s.run.now) s.given) {s = s.iter.b} ys (cc) in
    let pairs = YieldsList-from_enumerate {s = s} (YieldsList-from_zip {s = s.iter} one other) (cc) in
    let next = YieldsList-turn pairs c.loop-i.yielded c.loop-i.i-iterator c.loop-i.yielded_by c.next.result c.next.new.self (c.in-Some.i, (c.in-Some.one, c.in-Some.other)) c.in-Some.is c.next.ensures.steps in
    let n = length c.loop-i.yielded in
    let turn = side_by_side xs ys n (c.in-Some.i, (c.in-Some.one, c.in-Some.other)) next.0 next.1 in
    let first = step_on xs n _ _ _ turn.in_first turn.first c.loop-i.invariant.4 c.join-first.ensures in
    let second = step_on ys n _ _ _ turn.in_second turn.second c.loop-i.invariant.5 c.join-second.ensures in
    let at : n + 1 ≡ c.in-Some.i + 1 = omega (arith, turn.counted) in
    record {
      in_first = omega (arith, turn.in_first, turn.counted);
      in_second = omega (arith, turn.in_second, turn.counted);
      first = first ∙ ap (position_after xs) at;
      second = second ∙ ap (position_after ys) at;
      differ = λ e. let v = ap (λ (s : Steps). s.value) e in search (rules, tests);
      before = λ j h. c.loop-i.invariant.6 j (omega (arith, h, turn.counted));
    }

pub loop-i-preserved : goal.loop-i-preserved
loop-i-preserved g c =
    let goes = c.in-Some.ensures.goes.on c.loop-i.invariant.1 in
    let xs = g.A.Run.entries c.args.a.now in
    let ys = g.B.Run.entries c.args.b.now in
    let s = c.into_iter-i-iterator.result in
    let one = YieldsList-from_first (λ x. x) (λ s. left (g.A.Run.entries s.run.now) s.given) {s = s.iter.a} xs (cc) in
    let other = YieldsList-from_first (λ x. x) (λ s. left (g.B.Run.entries s.run.now) s.given) {s = s.iter.b} ys (cc) in
    let pairs = YieldsList-from_enumerate {s = s} (YieldsList-from_zip {s = s.iter} one other) (cc) in
    let next = YieldsList-turn pairs c.loop-i.yielded c.loop-i.i-iterator c.loop-i.yielded_by c.next.result c.next.new.self (c.in-Some.i, (c.in-Some.one, c.in-Some.other)) c.in-Some.is c.next.ensures.steps in
    let n = length c.loop-i.yielded in
    let turn = side_by_side xs ys n (c.in-Some.i, (c.in-Some.one, c.in-Some.other)) next.0 next.1 in
    let first = step_on xs n _ _ _ turn.in_first turn.first c.loop-i.invariant.4 c.join-first.ensures in
    let second = step_on ys n _ _ _ turn.in_second turn.second c.loop-i.invariant.5 c.join-second.ensures in
    let more : length (c.loop-i.yielded ++ _ ∷ []) ≡ n + 1 = length_push c.loop-i.yielded (c.in-Some.i, (c.in-Some.one, c.in-Some.other)) in
    rw more (goes.0, goes.1, omega (arith, turn.in_first), omega (arith, turn.in_second), first, second, still_together xs ys (n + 1) _ _ c.loop-i.invariant.6 first second (same_steps _ _ (search (rules, tests))))

use Rattle.kinds.proofs.Grouped.{group_of}
use Rattle.kinds.proofs.Joins.{total-push}
use Rattle.kinds.specs.Totals.{total}
use Rattle.runs.proofs.Summing.{total_past, total_there}
use Rattle.runs.proofs.walk.total.Goals as goal
use Rattle.runs.specs.Places.{left}
use Rattle.std.proofs.Common.{Ok, sym, ap, ◌∙◌, rules, arith}
use Rattle.std.proofs.lemmas.Iterator.{YieldsList-from_take}
use Rattle.std.proofs.lemmas.Iterator.Consumers.{YieldsList-from_first, YieldsList-end}
use Rattle.std.proofs.lemmas.List.{map-id}

pub returns-then-i-count : goal.returns-then-i-count
returns-then-i-count g c = sym (total_past g.R.Entry.Reckoned _ c.args.i (omega (arith, c.count.ensures)))

pub loop-entry-preserved : goal.loop-entry-preserved
loop-entry-preserved g c =
    let more = total-push (group_of g.met.R.Entry.Reckoned) c.loop-entry.yielded c.in-Some.entry in
    search rules

pub returns : goal.returns
returns g c =
    let R = g.R.Entry.Reckoned in
    let xs = g.R.Run.entries c.args.run.now in
    let given = YieldsList-from_first (λ x. x) (λ s. left (g.R.Run.entries s.run.now) s.given) {s = c.into_iter-entry-iterator.result.iter} xs (cc) in
    let taken = YieldsList-from_take {s = c.into_iter-entry-iterator.result} c.args.i given (cc) in
    let end = YieldsList-end taken c.loop-entry.yielded c.loop-entry.entry-iterator c.loop-entry.yielded_by c.next.result c.next.new.self c.in-None.is c.next.ensures.steps in
    sym (total_there R xs c.args.i (omega (arith, c.count.ensures))
    ∙ ap (λ ys. Ok (total R ys)) (sym (sym (map-id _) ∙ end.0)) ∙ ap Ok (sym c.loop-entry.invariant.2))

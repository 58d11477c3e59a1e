use Rattle.kinds.proofs.Grouped.{group_of}
use Rattle.sheets.proofs.Altered.{decided_refuses, decided_leaves, corrects}
use Rattle.sheets.proofs.sheet.Sheet.correct.Goals as goal
use Rattle.std.proofs.Common.{refl, arith}

pub invariant_of-self : goal.invariant_of-self
invariant_of-self g c =
    let s = c.args.self.now in
    record { room = omega (arith, s.room, c.put.ensures.counts, c.put.ensures.table.cells) }

pub returns : goal.returns
returns g c =
    let s = c.args.self.now in
    let N = g.K.Kind in
    let R = g.K.Reckoned in
    let laws = group_of g.met.K.Reckoned in
    let done = c.put.ensures.puts in
    let undone = c.put.ensures.refuses in
    record {
      refuses = decided_refuses N R s c.args.place c.put.result (λ x. x) (λ e is. (done e is).0) (λ f is. (undone f is).0) _ refl;
      stays = record { unit = refl; table = c.put.ensures.table };
      leaves = decided_leaves N R s _ refl refl c.put.ensures.table c.args.place c.put.result (λ x. x) (λ _. c.args.entry) done undone _ (λ old is left. (is, left)) _ refl;
      follows_history = corrects N R s _ refl refl c.put.ensures.table laws c.args.place c.args.entry c.put.result done undone;
    }

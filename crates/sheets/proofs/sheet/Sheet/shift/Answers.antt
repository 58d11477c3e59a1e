use Rattle.kinds.proofs.Grouped.{group_of}
use Rattle.sheets.proofs.Altered.{same_shift, decided_refuses, decided_leaves, shifts}
use Rattle.sheets.proofs.sheet.Sheet.shift.Goals as goal
use Rattle.std.proofs.Common.{refl, arith}

pub invariant_of-self : goal.invariant_of-self
invariant_of-self g c =
    let s = c.args.self.now in
    record { room = omega (arith, s.room, c.join_at.ensures.counts, c.join_at.ensures.table.cells) }

pub returns : goal.returns
returns g c =
    let s = c.args.self.now in
    let N = g.K.Kind in
    let R = g.K.Reckoned in
    let laws = group_of g.met.K.Reckoned in
    let a = c.args.amount in
    let done = c.join_at.ensures.joins in
    let undone = c.join_at.ensures.refuses in
    record {
      refuses = decided_refuses N R s c.args.place c.join_at.result (λ e. R.join e a) (λ e is. (done e is).0) (λ f is. (undone f is).0) _ refl;
      stays = record { unit = refl; table = c.join_at.ensures.table };
      leaves = decided_leaves N R s _ refl refl c.join_at.ensures.table c.args.place c.join_at.result (λ e. R.join e a) (λ e. R.join e a) done undone _ (λ e is left. (same_shift R s c.args.place a e is, left)) _ refl;
      follows_history = shifts N R s _ refl refl c.join_at.ensures.table laws c.args.place a c.join_at.result done undone;
    }

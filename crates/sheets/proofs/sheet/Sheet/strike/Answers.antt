use Rattle.kinds.proofs.Grouped.{group_of}
use Rattle.sheets.proofs.Altered.{strikes_refuses, strikes_leaves, strikes}
use Rattle.sheets.proofs.sheet.Sheet.strike.Goals as goal
use Rattle.std.proofs.lemmas.Bool.{cases_lt}
use Rattle.std.proofs.Common.{refl, arith}

pub invariant_of-self : goal.invariant_of-self
invariant_of-self g c =
    let s = c.args.self.now in
    record { room = omega (arith, s.room, c.pop.ensures.counts, c.pop.ensures.table.cells) }

pub returns : goal.returns
returns g c =
    let s = c.args.self.now in
    let N = g.K.Kind in
    let R = g.K.Reckoned in
    let laws = group_of g.met.K.Reckoned in
    let some = cases_lt 0 s.cells.count in
    let done = c.pop.ensures.removes in
    let undone = c.pop.ensures.refuses in
    record {
      refuses = strikes_refuses N R s c.pop.result (λ h. (done h).0) (λ h. (undone h).0) some;
      stays = record { unit = refl; table = c.pop.ensures.table };
      leaves = strikes_leaves N R s _ refl refl c.pop.ensures.table laws c.pop.result done undone some;
      follows_history = strikes N R s _ refl refl c.pop.ensures.table laws c.pop.result done undone some;
    }

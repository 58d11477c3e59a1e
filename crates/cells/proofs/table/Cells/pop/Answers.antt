use Rattle.std.proofs.Common.{◌≡◌, ℕ, ◌-◌, ◌<◌, sym, refl, arith}
use Rattle.cells.proofs.Stored.{popped, same_table}
use Rattle.cells.proofs.table.Cells.pop.Goals as goal

pub returns-clause-removes : goal.returns-clause-removes
returns-clause-removes g c some = (sym c.entry-last.ensures, popped g.K.Reckoned c.args.self.now c.zero.result _ refl)

pub returns-clause-table : goal.returns-clause-table
returns-clause-table g c =
    let s = c.args.self.now in
    let past : (j : ℕ) → s.count - 1 < j → (j - 1 ≡ s.count - 1 → ⊥) → s.count < j = λ j h d. omega arith in
    same_table g.K.Reckoned s _ refl (s.count - 1) c.zero.result refl (omega (arith, s.within)) (omega (arith, s.within)) past (λ _. c.zero.ensures)

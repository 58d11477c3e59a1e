use Rattle.std.proofs.Common.{◌≡◌, ℕ, ◌+◌, ◌-◌, ◌<◌, ◌≤◌, vec_items, refl, ap, ◌∙◌, arith}
use Rattle.cells.proofs.Stored.{pushed, same_table}
use Rattle.cells.proofs.table.Cells.push.Goals as goal
use Rattle.cells.specs.Cells.{besides}
use Rattle.kinds.proofs.Grouped.{group_of}

pub returns-clause-adds : goal.returns-clause-adds
returns-clause-adds g c free =
    let R = g.K.Reckoned in
    let s = c.args.self.now in
    let value : c.join-cell.result ≡ R.join (besides R (vec_items s.table) (s.count + 1)) c.args.entry = c.join-cell.ensures ∙ ap (λ x. R.join x c.args.entry) (c.others.ensures ∙ ap (λ l. besides R l (s.count + 1)) c.as_slice.ensures.value) in
    (refl, refl, pushed R s (group_of g.met.K.Reckoned) c.args.entry _ _ refl free value)

pub returns-clause-table : goal.returns-clause-table
returns-clause-table g c =
    let R = g.K.Reckoned in
    let s = c.args.self.now in
    let past : (j : ℕ) → s.count + 1 < j → (j - 1 ≡ s.count → ⊥) → s.count < j = λ j h d. omega arith in
    let early : s.count + 1 ≤ s.count → c.join-cell.result ≡ R.zero = λ h. absurd (omega arith) in
    same_table R s _ refl s.count _ refl (omega (arith, c.capacity.ensures)) (omega (arith, c.capacity.ensures)) past early

use Rattle.cells.proofs.Stored.{raised_at, raised_table}
use Rattle.cells.proofs.table.Cells.raise_at.Goals as goal
use Rattle.cells.specs.Cells.{Raised}
use Rattle.kinds.proofs.Grouped.{group_of}
use Rattle.std.proofs.lemmas.List.{with_items_is}
use Rattle.std.specs.Vec.{with_items}
use Rattle.std.proofs.Common.{vec_items, sym, refl, ◌∙◌, subst}

pub returns : goal.returns
returns g c =
    let R = g.K.Reckoned in
    let s = c.args.self.now in
    let p = c.args.place.number in
    let a = c.args.amount in
    let items = with_items_is s.table c.raise.new.cells (c.raise.ensures.long ∙ c.as_mut_slice.ensures.len) in
    let raised : Raised R (vec_items s.table) (with_items s.table c.raise.new.cells).items s.count p a = subst (λ l. Raised R l (with_items s.table c.raise.new.cells).items s.count p a) c.as_mut_slice.ensures.value (subst (λ l. Raised R c.as_mut_slice.result.now l s.count p a) (sym items) c.raise.ensures) in
    record {
      counts = refl;
      joins = λ e is. raised_at R s (group_of g.met.K.Reckoned) p e a _ c.args.place.from_one c.requires raised is;
      table = raised_table R s _ refl p a refl raised;
    }

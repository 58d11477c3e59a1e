use Rattle.std.proofs.Common.{vec_items, subst, take_all}
use Rattle.tallies.proofs.Rising.{Counted, tallied, grouped_none, grouped_room, grouped_more}
use Rattle.tallies.proofs.tallying.grouped.Goals as goal

pub loop-number-init : goal.loop-number-init
loop-number-init c = grouped_none c.args.sorted.now _ c.new-groups.ensures.items

pub note-requires : goal.note-requires
note-requires c = grouped_room c.args.sorted.now c.loop-number.number-index _ c.loop-number.invariant c.loop-number-test.true c.requires.few

pub loop-number-preserved : goal.loop-number-preserved
loop-number-preserved c =
    grouped_more c.args.sorted.now c.loop-number.number-index _ c.requires.rising c.loop-number-test.true c.loop-number.invariant _ c.in_ok-note.ensures

pub returns : goal.returns
returns c =
    let s = c.args.sorted.now in
    let gs = vec_items c.loop-number.groups in
    tallied s gs (subst (λ l. Counted l gs) (take_all c.loop-number.number-index s c.loop-number-test.false) c.loop-number.invariant.counted)

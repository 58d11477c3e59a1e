use Rattle.std.proofs.Common.{◌≡◌, ◌+◌, ◌<◌, [], ◌∷◌, ◌++◌, map, length, take, vec_items, sym, ap, ◌∙◌, subst, arith}
use Rattle.ledgers.proofs.Lawful.{Followed, followed_none, followed_more, lawful}
use Rattle.ledgers.proofs.replaying.replay.Goals as goal
use Rattle.ledgers.specs.Law.{by_slip}
use Rattle.sheets.specs.Sheets.{Follows}
use Rattle.std.proofs.lemmas.List.{map_more, take_all}

pub loop-call-init : goal.loop-call-init
loop-call-init g c =
    let made = c.in-Ok.ensures in
    (followed_none g.K.Reckoned g.K.Kind c.args.unit c.make-ledger.result.sheet _ c.make-ledger.ensures.unit made.items, omega (arith, made.len), omega (arith, made.capacity))

pub loop-call-preserved : goal.loop-call-preserved
loop-call-preserved g c =
    let R = g.K.Reckoned in
    let N = g.K.Kind in
    let u = c.args.unit in
    let calls = c.args.calls.now in
    let i = c.loop-call.call-index in
    let f = c.loop-call.invariant.0 in
    let t = c.loop-call.ledger.sheet in
    let x = c.call-item.result in
    let within : i < length calls = omega arith in
    let more : map (by_slip u) (take (i + 1) calls) ≡ map (by_slip u) (take i calls) ++ (by_slip u x ∷ []) = map_more (by_slip u) calls i x within ∙ ap (λ y. map (by_slip u) (take i calls) ++ (by_slip u y ∷ [])) (sym c.call-item.is) in
    let step = subst (λ w. Follows N R (by_slip w x) t c.call.new.self.sheet c.call.result) f.unit c.call.ensures.follows_history in
    let next = followed_more R N u _ _ (by_slip u x) c.make-ledger.result.sheet t c.call.new.self.sheet _ c.call.result f c.call.ensures.stays step more in
    (subst (λ l. Followed R N u (map (by_slip u) (take (i + 1) calls)) c.make-ledger.result.sheet c.call.new.self.sheet l) (sym c.push_reserved.ensures.items) next, omega (arith, c.push_reserved.ensures.len), omega (arith, c.push_reserved.ensures.capacity))

pub returns : goal.returns
returns g c =
    let R = g.K.Reckoned in
    let N = g.K.Kind in
    let u = c.args.unit in
    let calls = c.args.calls.now in
    let whole : take c.loop-call.call-index calls ≡ calls = take_all c.loop-call.call-index calls (omega arith) in
    let f = subst (λ l. Followed R N u (map (by_slip u) l) c.make-ledger.result.sheet c.loop-call.ledger.sheet (vec_items c.loop-call.answers)) whole c.loop-call.invariant.0 in
    lawful R N u _ (vec_items c.args.table) calls c.make-ledger.result.sheet c.loop-call.ledger.sheet c.close-book.result.sheet c.total_of-total.result (vec_items c.loop-call.answers)
    c.args.table.ok.0 c.make-ledger.ensures.begins_history c.make-ledger.ensures.beyond f c.close-book.ensures.stays c.close-book.ensures.follows_history c.total_of-total.ensures

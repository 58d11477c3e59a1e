use Rattle.kinds.specs.declared.refusal.Refusal.TheVariants.{WrongSlip}
use Rattle.ledgers.proofs.Fitting.{held_unit, no_slip, told_none}
use Rattle.ledgers.proofs.ledger.Ledger.restore.Goals as goal
use Rattle.sheets.specs.History.{restore}
use Rattle.std.proofs.Common.{◌≡◌, Some, None, rules, sym, refl, ap, ◌∙◌}
use Rattle.std.proofs.lemmas.Result.{err_from_is_err_and}
use Rattle.std.specs.Result.{result_ok}

pub returns-in_err-slip-clause-follows_history : goal.returns-in_err-slip-clause-follows_history
returns-in_err-slip-clause-follows_history g c =
    let s = c.args.self.now.sheet in
    let p = err_from_is_err_and c.from_residual.result c.from_residual.ensures.1 in
    let none : c.take.result ≡ None = c.ok_or.ensures.ok_part ∙ ap result_ok c.in_err-slip.was in
    let why : c.in_err-slip.field-0.0 ≡ WrongSlip = told_none c.take.result c.ok_or.result _ WrongSlip c.ok_or.ensures.value none c.in_err-slip.was in
    let turned = no_slip g.K.Kind g.K.Reckoned s c.args.self.now.slip c.take.new.self (restore s.unit) refl (sym c.take.ensures.value ∙ none) c.take.ensures.after c.args.self.now.held in
    rw (p.1, p.2, why) turned.3

pub returns-clause-follows_history : goal.returns-clause-follows_history
returns-clause-follows_history g c =
    let s = c.args.self.now.sheet in
    let slip = c.in_ok-slip.slip in
    let there : c.take.result ≡ Some slip = c.ok_or.ensures.ok_part ∙ ap result_ok c.in_ok-slip.was in
    let same : slip.unit ≡ s.unit = held_unit c.args.self.now.slip slip s.unit s.parked (sym c.take.ensures.value ∙ there) c.args.self.now.held in
    rw (c.held_again.ensures.answers, ← same) (search rules)

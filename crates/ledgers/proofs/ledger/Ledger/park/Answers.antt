use Rattle.ledgers.proofs.Fitting.{none_before}
use Rattle.ledgers.proofs.ledger.Ledger.park.Goals as goal

pub hold-requires : goal.hold-requires
hold-requires g c =
    let s = c.args.self.now.sheet in
    none_before c.args.self.now.slip s.unit s.parked _ c.in_ok-slip.ensures.refuses c.args.self.now.held

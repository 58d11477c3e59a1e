use Rattle.runs.proofs.Placed.{left_next}
use Rattle.runs.proofs.iter.IterIterator.next.Goals as goal
use Rattle.std.proofs.Common.{◌≡◌, refl, arith}

pub unwrap-requires : goal.unwrap-requires
unwrap-requires g c =
    let next = left_next (g.R.Run.entries c.args.self.now.run.now) c.args.self.now.given (omega (arith, c.count.ensures)) in
    rw (c.at.ensures, next.1) refl

pub returns-clause-steps : goal.returns-clause-steps
returns-clause-steps g c =
    let next = left_next (g.R.Run.entries c.args.self.now.run.now) c.args.self.now.given (omega (arith, c.count.ensures)) in
    let same : c.unwrap.result ≡ next.0 = cc (c.unwrap.ensures, c.at.ensures, next.1) in
    rw same next.2

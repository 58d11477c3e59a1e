use Rattle.bits.proofs.words.lowest.Goals as goal
use Rattle.std.proofs.lemmas.Nat.{and_mask, one_shl}

pub returns : goal.returns
returns c = rw (one_shl c.args.n 32 c.requires) (and_mask c.args.word c.args.n)

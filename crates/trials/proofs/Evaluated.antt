-- The worked examples hold: each side computes. Assumes nothing.
use Rattle.runs.specs.Places.{entry_at, running, total_at}
use Rattle.trials.specs.Examples.{Examples}
use Rattle.std.proofs.Common.{refl}

pub examples : Examples
unfolding entry_at running total_at
examples = record {
  steps = refl;
  refusals = refl;
  excerpt = refl;
  excerpt_past = refl;
  first = refl;
  last = refl;
  before_first = refl;
  past_last = refl;
  totals = refl;
  whole = refl;
  too_many = refl;
  twice = refl;
  never = refl;
  three = refl;
  last_line_open = refl;
  last_line_ended = refl;
  empty_line = refl;
  no_line = refl;
}

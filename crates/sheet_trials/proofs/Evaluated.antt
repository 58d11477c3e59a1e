-- The worked examples hold: each side computes. Assumes nothing.
use Rattle.cells.specs.Cells.{decoded}
use Rattle.sheets.specs.History.{after, answer, after_all, answers}
use Rattle.sheet_trials.specs.Examples.{Examples}
use lib.Count.{count_trailing_zeros}
use Rattle.std.proofs.Common.{refl}

pub examples : Examples
unfolding after answer after_all answers decoded count_trailing_zeros
examples = record {
  season_entries = refl;
  season_balance = refl;
  season_answers = refl;
  refusals = refl;
  mended_entries = refl;
  mended_balance = refl;
  mended_answers = refl;
  given_up = refl;
  given_up_balance = refl;
  other_unit = refl;
  spans = refl;
  fourth_cell = refl;
  decoding = refl;
  own_cells = refl;
}

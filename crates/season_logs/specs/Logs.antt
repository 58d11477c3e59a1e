-- What a line in the log of a season says. Assumes nothing.
use Rattle.std.specs.Prelude.{ℕ, List, codes}
use Rattle.season_logs.specs.declared.line.LogLine.{LogLine}
use Rattle.season_logs.specs.declared.line.LogLine.TheVariants.{Drive, Park, Restore}
use Rattle.std.specs.Fmt.{signed_decimal}

-- what is written in a line: a drive by its decimal digits, after a minus if it is negative, and the two words
abbrev pub text : LogLine → List ℕ
text (Drive s) = signed_decimal s.value
text Park = codes "park"
text Restore = codes "restore"

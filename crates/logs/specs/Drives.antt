-- How a drive is written in a log. Assumes nothing.
use Rattle.std.specs.Prelude.{ℕ, List}
use Rattle.kinds.specs.declared.steps.Steps.{Steps}
use Rattle.std.specs.Fmt.{signed_decimal}

-- a drive as it is written: its decimal digits, after a minus if it is negative
abbrev pub text : Steps → List ℕ
text s = signed_decimal s.value

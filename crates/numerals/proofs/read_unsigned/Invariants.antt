use Rattle.std.proofs.Common.{◌≡◌, ◌^◌, ◌<◌, take}
use Rattle.numerals.proofs.read_unsigned.Given as goal
use Rattle.std.specs.Str.Parse.{AllDigits, digits_value}

abbrev pub invariant-loop-b : goal.invariant-loop-b
invariant-loop-b l = AllDigits 10 (take l.b-index l.text) × (l.n ≡ digits_value 10 (take l.b-index l.text)) × (l.n < 2 ^ 32)

-- The bytes of the lines that are printed. Assumes nothing.
use Rattle.std.specs.Prelude.{ℕ, ℤ, ◌-ℤ◌, List, ◌++◌, Bool, Option, Some, None, if◌then◌else◌, codes, decimal}
use Rattle.std.specs.Fmt.{signed_decimal}
use Rattle.kinds.specs.Refusals.{number}
use Rattle.kinds.specs.declared.steps.Steps.{Steps}
use Rattle.logs.specs.declared.fault.BadLine.{BadLine}
use Rattle.runs.specs.declared.parting.Parting.{Parting}
use Rattle.reports.specs.declared.counted.Counted.{Counted}
use Rattle.reports.specs.declared.word.Word.{Word}
use Rattle.reports.specs.declared.word.Word.TheVariants.{Drive, Entry}

-- the word for what is counted
abbrev pub word_text : Word → List ℕ
word_text Drive = codes "drive"
word_text Entry = codes "entry"

-- a line of a log that was refused with a number
abbrev pub line_refused_text : List ℕ → ℕ → ℕ → List ℕ
line_refused_text name line number = name ++ (codes ": line " ++ (decimal line ++ (codes " refused with " ++ decimal number)))

-- a line of a log that was refused
abbrev pub refused_text : List ℕ → BadLine → List ℕ
refused_text name bad = line_refused_text name bad.line (number bad.refusal)

-- how many drives a log has and where it ends, or how many entries a book has and their total
abbrev pub summary_text : Word → List ℕ → ℕ → Steps → List ℕ
summary_text Drive name count end = name ++ (codes ": " ++ (decimal count ++ (codes " drives, position " ++ signed_decimal end.value)))
summary_text Entry name count end = name ++ (codes ": " ++ (decimal count ++ (codes " entries, total " ++ signed_decimal end.value)))

-- how often a drive or an entry occurs
abbrev pub tally_text : Word → Counted → List ℕ
tally_text word c = codes "  " ++ (word_text word ++ (codes " " ++ (signed_decimal c.entry.value ++ (codes ": " ++ (decimal c.times ++ codes " times")))))

-- by how many steps the totals of two books part
abbrev pub totals_text : ℤ → List ℕ
totals_text gap = codes "The totals part by " ++ (signed_decimal gap ++ codes " steps")

-- whether two books agree
abbrev pub agreement_text : List ℕ → List ℕ → Bool → List ℕ
agreement_text first second agree = first ++ (codes " and " ++ (second ++ (if agree then codes " agree entry for entry" else (codes " do not agree entry for entry"))))

-- after how many entries two positions part, where each then is, and by how many steps
abbrev pub parted_text : Word → ℕ → Steps → Steps → ℤ → List ℕ
parted_text word after first second gap = codes "The positions part after " ++ (word_text word ++ (codes " " ++ (decimal after ++ (codes ": " ++ (signed_decimal first.value ++ (codes " and " ++ (signed_decimal second.value ++ (codes ", by " ++ (signed_decimal gap ++ codes " steps")))))))))

-- where the positions part and by how much, or that they never do
abbrev pub parting_text : Word → Option Parting → List ℕ
parting_text word None = codes "The positions never part, as far as both logs go."
parting_text word (Some p) = parted_text word p.after p.first p.second (p.first.value -ℤ p.second.value)

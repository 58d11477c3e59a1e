-- A season's log as calls on a book of steps. Assumes nothing.
use Rattle.std.specs.Prelude.{◌+◌, List, length, replicate}
use Rattle.kinds.specs.Steps.{none}
use Rattle.kinds.specs.declared.steps.Steps.{Steps}
use Rattle.ledgers.specs.declared.call.Call.{Call}
use Rattle.ledgers.specs.declared.call.Call.TheVariants.{Enter, Park, Restore}
use Rattle.season_logs.specs.declared.line.LogLine.{LogLine}
use Rattle.season_logs.specs.declared.line.LogLine.TheVariants as line

-- the call that a line asks for: a drive is entered
abbrev pub call_of : LogLine → Call Steps
call_of (line.Drive s) = Enter s
call_of line.Park = Park
call_of line.Restore = Restore

-- the table of a season's book: a cell for each line, and one that is kept while parked
abbrev pub table_for : List LogLine → List Steps
table_for ls = replicate (length ls + 1) none

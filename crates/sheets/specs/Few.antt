-- A sheet has fewer entries than a run may have. Assumes nothing.
use Rattle.std.specs.Prelude.{◌^◌, ◌<◌, length, vec_items}
use Rattle.cells.proofs.Decoding.{length-decoded}
use Rattle.kinds.specs.declared.laws.Reckoned.{Ghosts}
use Rattle.sheets.specs.Sheets.{entries_of}
use Rattle.sheets.specs.declared.sheet.Sheet.{Sheet}
use Rattle.std.proofs.Common.{arith}

pub entries_few : {K : Type 0} (R : Ghosts K) (s : Sheet K) → length (entries_of R s) < 2 ^ 32
entries_few R s = omega (arith, length-decoded R (vec_items s.cells.table) s.cells.count, s.cells.within)

-- How often each entry of a run of steps occurs, in the order of the entries. Assumes nothing.
use Rattle.std.specs.Prelude.{◌≡◌, List, map, IsSortedByKey}
use Rattle.std.specs.Ordering.{int_cmp}
use Rattle.kinds.specs.Steps.{numbering}
use Rattle.kinds.specs.declared.steps.Steps.{Steps}
use Rattle.tallies.specs.Tallies.{Tallied}
use Rattle.tallies.specs.declared.records.TallyRecord.{TallyRecord}
use Rattle.reports.specs.declared.counted.Counted.{Counted}

-- the record of an entry that is counted
abbrev pub record_of : Counted → TallyRecord
record_of c = record { number = numbering.number c.entry; times = c.times }

-- the number of a record is that of an entry
abbrev pub IsOfEntry : TallyRecord → Type 0
IsOfEntry r = (s : Steps) × (numbering.number s ≡ r.number)

-- each entry of the run is counted once, and the entries rise
pub record CountsEach (entries : List Steps) (counts : List Counted) : Type 0 where
  pub tally : Tallied (map numbering.number entries) (map record_of counts)
  pub rising : IsSortedByKey (λ (c : Counted). c.entry.value) int_cmp counts

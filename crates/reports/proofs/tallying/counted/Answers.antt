use Rattle.reports.proofs.Records.{read_number}
use Rattle.reports.proofs.tallying.counted.Goals as goal

pub unwrap-requires : goal.unwrap-requires
unwrap-requires c = read_number _ _ c.from_number.ensures (c.requires c.loop-record.record-index _ c.loop-record-test.true)

use Rattle.std.proofs.Common.{◌≡◌, ◌≤◌, length, map, take, vec_items, vec_len, vec_capacity}
use Rattle.reports.specs.Tally.{record_of}
use Rattle.reports.proofs.tallying.counted.Given as goal

abbrev pub invariant-loop-record : goal.invariant-loop-record
invariant-loop-record l = record {
  told : map record_of (vec_items l.counts) ≡ take l.record-index l.records;
  len : vec_len l.counts ≡ l.record-index;
  room : length l.records ≤ vec_capacity l.counts;
}

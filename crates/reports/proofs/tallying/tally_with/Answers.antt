use Rattle.reports.proofs.Records.{counts_permuted, records_of_entries}
use Rattle.reports.proofs.tallying.tally_with.Goals as goal
use Rattle.reports.specs.Tally.{IsOfEntry}
use Rattle.reports.specs.declared.counted.Counted.{Counted}
use Rattle.std.proofs.lemmas.List.Sorted.{answers_always}
use Rattle.std.specs.List.{All}
use Rattle.std.proofs.Common.{subst, sym, ◌∙◌, rules}

pub counted-requires : goal.counted-requires
counted-requires g c = subst (All IsOfEntry) (sym c.as_slice.ensures.value) (records_of_entries _ _ c.in_ok-records.ensures.tallies)

pub returns-clause-counts : goal.returns-clause-counts
returns-clause-counts g c = record {
  tally = counts_permuted _ _ _ _ c.in_ok-records.ensures.tallies (c.in_ok-counts.ensures ∙ c.as_slice.ensures.value) c.sort_unstable_by_key.ensures.permutation;
  rising = c.sort_unstable_by_key.ensures.sorted (λ (it : Counted). it.entry.value) (answers_always _ _ _ (λ f a r f' called. search rules));
}

use Rattle.std.proofs.Common.{◌≡◌, length, vec_items, ap, ◌∙◌, arith}
use Rattle.std.proofs.lemmas.List.{length-map}
use Rattle.std.proofs.lemmas.List.Sorted.{IsNonDecreasingBy-from_sort, length_permutation}
use Rattle.tallies.proofs.Distinct.{tally_shuffled}
use Rattle.tallies.proofs.tallying.counted.Goals as goal

pub grouped-requires : goal.grouped-requires
grouped-requires g c =
    let s = c.sort_unstable.new.self in
    let ns = c.in_ok-numbers.numbers in
    let whole : length (vec_items s) ≡ length (vec_items ns) = length_permutation _ _ c.sort_unstable.ensures.permutation in
    let all = ap length c.in_ok-numbers.ensures ∙ length-map (g.R.Run.entries c.args.run.now) g.R.Entry.Kind.number in
    record {
      rising = rw c.as_slice.ensures.value (IsNonDecreasingBy-from_sort (λ x. x) (vec_items s) c.sort_unstable.ensures.sorted);
      few = rw c.as_slice.ensures.value (omega (arith, g.R.Run.few c.args.run.now));
    }

pub returns : goal.returns
returns g c =
    let same = rw c.in_ok-numbers.ensures at c.sort_unstable.ensures.permutation in
    tally_shuffled _ _ _ same (rw c.as_slice.ensures.value at c.in_ok-grouped.ensures)

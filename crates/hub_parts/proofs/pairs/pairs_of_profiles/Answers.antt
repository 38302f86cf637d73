use Rattle.std.proofs.lemmas.List.Filters.{dedup_is}
use Rattle.hub_parts.proofs.Ascending.{sorted_pairs}
use Rattle.hub_parts.proofs.pairs.pairs_of_profiles.Goals as goal

pub returns : goal.returns
returns c =
    sorted_pairs c.args.profiles.now c.in_ok-values.values.items _ c.as_slice.result.now c.in_ok-found.found.items
    c.as_slice-2.result.now c.in_ok-pairs.pairs.items _ _ c.in_ok-values.ensures c.sort_unstable.ensures.permutation
    c.sort_unstable.ensures.sorted c.as_slice.ensures.value c.in_ok-found.ensures c.as_slice-2.ensures.value c.in_ok-pairs.ensures
    c.sort_unstable-2.ensures.permutation c.sort_unstable-2.ensures.sorted (dedup_is _ _ _ c.dedup.ensures.filtered)

use Rattle.std.proofs.Common.{◌∙◌, ℕ, List, length, subst, sym}
use Rattle.hub_profile.specs.Parts.{Parts}
use Rattle.hub_parts.specs.Clashing.{AreNearPairs}
use Rattle.hub_apart.specs.UnisonLines.{AreWithin}
use Rattle.hub_apart.proofs.Numbers.{near-within}
use Rattle.hub_apart.proofs.unison.search_near.Goals as goal

pub search_pairs-requires : goal.search_pairs-requires
search_pairs-requires c =
    let pairs = c.in_ok-pairs.pairs.items in
    let near = subst (λ (Ps : List Parts). AreNearPairs Ps pairs) (c.as_slice.ensures ∙ sym c.into_vec.ensures) c.in_ok-pairs.ensures in
    subst (λ (ps : List (ℕ × ℕ)). AreWithin (length c.into_vec.result.items) ps) (sym c.as_slice-2.ensures.value)
    (near-within c.into_vec.result.items pairs near)

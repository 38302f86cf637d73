use Rattle.std.proofs.Common.{◌≡◌, ◌<◌, ◌-◌, ◌++◌, List, length}
use Rattle.hub_unison.specs.Keys.{Key, next_places, pairs_after}
use Rattle.hub_unison.proofs.shared.add_pairs.Given as goal

abbrev pub invariant-loop-place : goal.invariant-loop-place
invariant-loop-place l =
    (l.place < length l.next) × ((ks : List Key) → l.next ≡ next_places 0 ks
    → l.pairs.items ++ pairs_after l.at l.place ks ≡ l.initial.pairs.items ++ pairs_after l.at l.at ks)

abbrev pub decreases-loop-place : goal.decreases-loop-place
decreases-loop-place l = length l.next - l.place

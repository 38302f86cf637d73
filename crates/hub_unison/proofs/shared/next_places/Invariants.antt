use Rattle.std.proofs.Common.{◌≡◌, map, reverse, drop}
use Rattle.std.specs.BTreeMap.{get}
use Rattle.std.specs.List.{AllByRecursion}
use Rattle.hub_profile.specs.Parts.{IsProfile}
use Rattle.hub_unison.specs.Keys.{key_of, next_place, next_places}
use Rattle.hub_unison.proofs.Keyed.{Texts, now, texts_cmp}
use Rattle.hub_unison.proofs.shared.next_places.Given as goal

abbrev pub invariant-loop-at : goal.invariant-loop-at
invariant-loop-at l =
    (reverse l.next.items ≡ next_places l.at (map key_of (drop l.at l.profiles)))
    × ((q : Texts) → get texts_cmp l.later q ≡ next_place (now q) l.at (map key_of (drop l.at l.profiles)))
    × AllByRecursion IsProfile (drop l.at l.profiles)

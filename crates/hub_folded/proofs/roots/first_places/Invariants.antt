use Rattle.std.proofs.Common.{◌≡◌, drop}
use Rattle.hub_path.specs.Path.{Path, path_eq}
use Rattle.hub_folded.specs.FirstPlaces.{first_place}
use Rattle.hub_folded.specs.Table.{unicode}
use Rattle.indexmap.specs.IndexMap.{get}
use Rattle.hub_folded.proofs.roots.first_places.Given as goal

abbrev pub invariant-loop-at : goal.invariant-loop-at
invariant-loop-at l =
    (q : Path) → get path_eq l.places q ≡ first_place unicode q l.at (drop l.at l.roots)

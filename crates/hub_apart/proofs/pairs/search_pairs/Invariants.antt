use Rattle.std.proofs.Common.{◌≡◌, take}
use Rattle.hub_apart.specs.ApartLines.{Adds}
use Rattle.hub_apart.specs.UnisonLines.{AreLinesOfPairs}
use Rattle.hub_apart.proofs.pairs.search_pairs.Given as goal

abbrev pub invariant-loop-pair : goal.invariant-loop-pair
invariant-loop-pair l = record {
  profiles : l.profiles.items ≡ l.fn.profiles.items;
  lines : Adds (AreLinesOfPairs l.fn.profiles.items (take l.pair-index l.pairs)) l.initial.lines.items l.lines.items;
}

use Rattle.std.proofs.Common.{◌≡◌, take}
use Rattle.hub_apart.specs.ApartLines.{with_pairs}
use Rattle.hub_apart.proofs.lines.push_pairs.Given as goal

abbrev pub invariant-loop-pair : goal.invariant-loop-pair
invariant-loop-pair l = l.lines ≡ with_pairs (take l.pair-index l.pairs) l.initial.lines

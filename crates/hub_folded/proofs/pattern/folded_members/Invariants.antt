use Rattle.std.proofs.Common.{◌≡◌, take}
use Rattle.std.specs.List.{flat_map}
use Rattle.hub_folded.specs.Table.{folded_character}
use Rattle.hub_folded.proofs.pattern.folded_members.Given as goal

abbrev pub invariant-loop-c : goal.invariant-loop-c
invariant-loop-c l = l.members ≡ flat_map folded_character (take l.c-index l.set)

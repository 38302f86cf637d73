use Rattle.std.proofs.Common.{◌≡◌, ◌++◌, take}
use Rattle.hub_folded.specs.Table.{image_in}
use Rattle.hub_folded.proofs.fold.push_all_shown.Given as goal

abbrev pub invariant-loop-c : goal.invariant-loop-c
invariant-loop-c l = l.list ≡ l.initial.list ++ image_in (take l.c-index l.image)

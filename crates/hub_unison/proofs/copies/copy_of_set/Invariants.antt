use Rattle.std.proofs.Common.{◌≡◌, take}
use Rattle.hub_unison.proofs.copies.copy_of_set.Given as goal

abbrev pub invariant-loop-c : goal.invariant-loop-c
invariant-loop-c l = l.copy ≡ take l.c-index l.set

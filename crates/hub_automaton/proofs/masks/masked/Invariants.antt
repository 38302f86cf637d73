use Rattle.std.proofs.Common.{◌≡◌, ◌++◌, drop}
use Rattle.hub_automaton.specs.Masks as masking
use Rattle.hub_automaton.proofs.masks.masked.Given as goal

abbrev pub invariant-loop-one : goal.invariant-loop-one
invariant-loop-one l = l.bits.items ++ masking.mask_all l.mask (drop l.one-index l.alternatives) ≡ masking.mask_all l.mask l.alternatives

use Rattle.std.proofs.Common.{◌≡◌, ◌++◌, drop, map}
use Rattle.hub_automaton.specs.Masks as masking
use Rattle.hub_automaton.proofs.masks.mask_choice.Given as goal

abbrev pub invariant-loop-piece : goal.invariant-loop-piece
invariant-loop-piece l =
    l.bits.items ++ map (masking.masks_piece l.mask l.kind) (drop l.piece-index l.choice) ≡ l.fn.bits.items ++ masking.mask_choice l.mask l.kind l.choice

use Rattle.std.proofs.Common.{◌≡◌, ◌++◌, drop}
use Rattle.hub_automaton.specs.Masks as masking
use Rattle.hub_automaton.proofs.masks.mask_choices.Given as goal

abbrev pub invariant-loop-choice : goal.invariant-loop-choice
invariant-loop-choice l =
    l.bits.items ++ masking.mask_choices l.mask l.kind (drop l.choice-index l.choices) ≡ l.fn.bits.items ++ masking.mask_choices l.mask l.kind l.choices

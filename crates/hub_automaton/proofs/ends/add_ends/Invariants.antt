use Rattle.std.proofs.Common.{◌≡◌, ◌++◌, drop}
use Rattle.hub_automaton.specs.Ends as ending
use Rattle.hub_automaton.proofs.ends.add_ends.Given as goal

abbrev pub invariant-loop-choice : goal.invariant-loop-choice
invariant-loop-choice l =
    l.bits.items ++ ending.end_choices l.on (drop l.choice-index l.choices) ≡ l.fn.bits.items ++ ending.end_choices l.on l.choices

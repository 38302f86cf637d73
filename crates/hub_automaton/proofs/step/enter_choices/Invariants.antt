use Rattle.std.proofs.Common.{◌≡◌, ◌++◌, drop}
use Rattle.hub_automaton.specs.forms.Stepping as stepping
use Rattle.hub_automaton.proofs.step.enter_choices.Given as goal

abbrev pub invariant-loop-choice : goal.invariant-loop-choice
invariant-loop-choice l =
    l.new.items ++ stepping.entered_choices (drop l.choice-index l.choices) ≡ l.fn.new.items ++ stepping.entered_choices l.choices

use Rattle.std.proofs.Common.{◌≡◌, ◌++◌, drop}
use Rattle.hub_automaton.specs.forms.Stepping as stepping
use Rattle.hub_automaton.proofs.step.enter_choice.Given as goal

abbrev pub invariant-loop-piece : goal.invariant-loop-piece
invariant-loop-piece l =
    l.new.items ++ stepping.entered_pieces l.before (drop l.piece-index l.choice) ≡ l.fn.new.items ++ stepping.entered l.choice

use Rattle.std.proofs.Common.{◌≡◌, ◌++◌, drop}
use Rattle.std.specs.List.{flat_map}
use Rattle.hub_automaton.specs.forms.Stepping as stepping
use Rattle.hub_automaton.proofs.step.entered_spots.Given as goal

abbrev pub invariant-loop-one : goal.invariant-loop-one
invariant-loop-one l =
    l.spots.items ++ flat_map (λ a. stepping.entered_choices a.choices) (drop l.one-index l.alternatives) ≡ flat_map (λ a. stepping.entered_choices a.choices) l.alternatives

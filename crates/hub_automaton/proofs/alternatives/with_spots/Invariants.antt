use Rattle.std.proofs.Common.{◌≡◌, ◌≤◌, ◌+◌, drop}
use Rattle.hub_automaton.specs.declared.alternatives.TheConstants.{SPOTS}
use Rattle.hub_automaton.specs.Spots.{spot_count}
use Rattle.hub_automaton.proofs.alternatives.with_spots.Given as goal

abbrev pub invariant-loop-choice : goal.invariant-loop-choice
invariant-loop-choice l =
    (l.spots + spot_count (drop l.choice-index l.choices) ≡ l.before + spot_count l.choices) × (l.spots ≤ SPOTS)

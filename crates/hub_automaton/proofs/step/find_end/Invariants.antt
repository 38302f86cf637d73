use Rattle.std.proofs.Common.{◌≡◌, ◌+◌, ◌||◌, drop}
use Rattle.hub_automaton.specs.Masks as masking
use Rattle.hub_automaton.specs.Spots.{spot_count}
use Rattle.hub_automaton.proofs.step.find_end.Given as goal

abbrev pub invariant-loop-choice : goal.invariant-loop-choice
invariant-loop-choice l =
    (l.after + spot_count (drop l.choice-index l.choices) ≡ l.place + spot_count l.choices)
    × ((l.matched || masking.ended_at (drop l.choice-index l.choices) l.live l.after) ≡ masking.ended_at l.choices l.live l.place)

use Rattle.std.proofs.Common.{◌≡◌, take}
use Rattle.std.specs.List.{flat_map}
use Rattle.hub_automaton.specs.Alphabet.{with_characters}
use Rattle.hub_reach.proofs.mentioning.mention_each.Given as goal

abbrev pub invariant-loop-value : goal.invariant-loop-value
invariant-loop-value g l = l.alphabet ≡ with_characters l.initial.alphabet (flat_map g.T.Mentioning.characters (take l.value-index l.values))

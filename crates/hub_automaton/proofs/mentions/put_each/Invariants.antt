use Rattle.std.proofs.Common.{◌≡◌, take}
use Rattle.std.specs.List.{flat_map}
use Rattle.hub_automaton.specs.Alphabet as alphabet
use Rattle.hub_automaton.proofs.mentions.put_each.Given as goal

abbrev pub invariant-loop-value : goal.invariant-loop-value
invariant-loop-value g l =
    (l.mentioned.items ≡ alphabet.with_characters l.initial.mentioned.items (flat_map g.T.Mentioning.characters (take l.value-index l.values)))
    × alphabet.IsAlphabet l.mentioned.items

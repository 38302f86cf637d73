use Rattle.std.proofs.Common.{◌≡◌, drop}
use Rattle.hub_automaton.specs.Alphabet as alphabet
use Rattle.hub_automaton.proofs.mentions.RelPathMentioning.put_in.Given as goal

abbrev pub invariant-loop-i : goal.invariant-loop-i
invariant-loop-i l =
    (alphabet.with_characters l.mentioned.items (alphabet.path_characters (drop l.i l.self)) ≡ alphabet.with_characters l.initial.mentioned.items (alphabet.path_characters l.self))
    × alphabet.IsAlphabet l.mentioned.items

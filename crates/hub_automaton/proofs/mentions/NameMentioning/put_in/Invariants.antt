use Rattle.std.proofs.Common.{◌≡◌, drop, length}
use Rattle.hub_automaton.specs.Alphabet as alphabet
use Rattle.hub_automaton.proofs.mentions.NameMentioning.put_in.Given as goal

abbrev pub invariant-loop-character : goal.invariant-loop-character
invariant-loop-character l =
    (alphabet.with_characters l.mentioned.items (drop (length l.yielded) l.self) ≡ alphabet.with_characters l.initial.mentioned.items l.self)
    × alphabet.IsAlphabet l.mentioned.items

use Rattle.std.proofs.Common.{◌≡◌, ◌≤◌, ◌+◌, drop}
use Rattle.hub_automaton.proofs.Alphabets.{free_from}
use Rattle.hub_automaton.proofs.alphabet.first_unmentioned.Given as goal

abbrev pub invariant-loop-character : goal.invariant-loop-character
invariant-loop-character l =
    (free_from l.code (drop l.character-index l.mentioned) ≡ free_from 97 l.mentioned) × (l.code ≤ 97 + l.character-index)

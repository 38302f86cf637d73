use Rattle.std.proofs.Common.{◌≡◌, ◌++◌, drop, map}
use Rattle.hub_automaton.specs.Masks as masking
use Rattle.hub_automaton.specs.forms.Takers.{begun}
use Rattle.hub_automaton.specs.Words.{packed}
use Rattle.hub_automaton.proofs.takers.begin_each.Given as goal

abbrev pub invariant-loop-character : goal.invariant-loop-character
invariant-loop-character l =
    l.takers.items ++ map (λ c. packed (masking.mask_all (begun c) l.alternatives)) (drop l.character-index l.samples)
    ≡ map (λ c. packed (masking.mask_all (begun c) l.alternatives)) l.samples

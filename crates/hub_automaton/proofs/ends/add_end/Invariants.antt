use Rattle.std.proofs.Common.{◌≡◌, ◌++◌, false, drop, map}
use Rattle.hub_automaton.proofs.ends.add_end.Given as goal

abbrev pub invariant-loop-piece : goal.invariant-loop-piece
invariant-loop-piece l = l.bits.items ++ map (λ p. false) (drop l._piece-index l.choice) ≡ l.fn.bits.items ++ map (λ p. false) l.choice

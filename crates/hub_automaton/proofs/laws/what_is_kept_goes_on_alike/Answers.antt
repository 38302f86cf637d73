use Rattle.std.proofs.Common.{sym, ap, ◌∙◌}
use Rattle.hub_automaton.specs.Spots.{packed_state, unpacked}
use Rattle.hub_automaton.specs.forms.Stepping.{pushed}
use Rattle.hub_automaton.proofs.Spotted.{push_law, pushed_alike}
use Rattle.hub_automaton.proofs.SpecStates.{same_unpacked}
use Rattle.hub_automaton.proofs.laws.what_is_kept_goes_on_alike.Goals as goal

pub returns-clause-same : goal.returns-clause-same
returns-clause-same c = λ ls t u x h. ap packed_state (sym (push_law ls t x) ∙ ap (λ s. pushed ls s x) (same_unpacked ls t u h) ∙ push_law ls u x)

pub returns-clause-classes : goal.returns-clause-classes
returns-clause-classes c = λ ms ls t x y k a h m n. ap packed_state (sym (push_law ls t x) ∙ pushed_alike ms x y k ls (unpacked ls t) a h m n ∙ push_law ls t y)

use Rattle.std.proofs.Common.{ℕ, List, sym, subst}
use Rattle.hub_automaton.specs.ClassSets.{AllBelow}
use Rattle.hub_automaton.proofs.varied.Varied.distinguish_spot.Goals as goal

pub returns-clause-grown : goal.returns-clause-grown
returns-clause-grown c = λ n few. c.insert_between.ensures.grown n (subst (λ (ks : List ℕ). AllBelow n ks) (sym c.as_slice.ensures.value) few)

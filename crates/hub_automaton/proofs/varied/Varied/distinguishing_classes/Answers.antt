use Rattle.std.proofs.Common.{ℕ, List, sym, subst, le_refl}
use Rattle.hub_automaton.specs.ClassSets.{AllBelow, room}
use Rattle.hub_automaton.specs.laws.ClassSet.{grown-twice}
use Rattle.hub_automaton.proofs.varied.Varied.distinguishing_classes.Goals as goal

pub insert_between-requires : goal.insert_between-requires
insert_between-requires c = subst (λ (cs : List ℕ). AllBelow (room c.args.splits.now) cs) (sym c.as_slice.ensures.value) c.requires.few_apart

pub returns-clause-grown : goal.returns-clause-grown
returns-clause-grown c = λ n f g.
    grown-twice c.args.splits.now c.insert_between.new.self c.distinguish_row.new.splits n n n
    (c.insert_between.ensures.grown n (subst (λ (cs : List ℕ). AllBelow n cs) (sym c.as_slice.ensures.value) g)) (c.distinguish_row.ensures.grown n f) (le_refl n) (le_refl n)

pub returns-clause-told : goal.returns-clause-told
returns-clause-told c = c.distinguish_row.ensures.told

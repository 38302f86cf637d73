use Rattle.std.proofs.Common.{◌≡◌, List, length, Some, slice_get, refl, sym, subst, arith}
use Rattle.std.proofs.lemmas.Option.{slice_get_within}
use Rattle.hub_text.specs.laws.List.{snoc-old}
use Rattle.hub_job.specs.Outcome.{replicas_of}
use Rattle.hub_schedule.specs.declared.slot.WorkingTree.{WorkingTree}
use Rattle.hub_schedule.specs.Table.{AreTrees, IsNotIn, IsTreeNumber}
use Rattle.hub_schedule.proofs.Opened.{rest_push, trees_push}
use Rattle.hub_schedule.proofs.Places.{placed_last}
use Rattle.hub_schedule.proofs.slots.place_for.Goals as goal

pub returns-in-Some-clause-placed : goal.returns-in-Some-clause-placed
returns-in-Some-clause-placed c = subst (λ (ts : List WorkingTree). IsTreeNumber ts c.args.root.now c.in-Some.place) c.as_slice.ensures.value c.in-Some.ensures

pub returns-clause-placed : goal.returns-clause-placed
returns-clause-placed c =
    placed_last c.args.trees.now.items c.push.new.self.items (record { root = c.args.root; tree = c.in_ok-tree.tree }) c.len.result c.in_ok-push.ensures.items
    (omega (arith, c.len.ensures, c.push.new.self.ok.0))

pub returns-clause-trees : goal.returns-clause-trees
returns-clause-trees c =
    let absent : IsNotIn c.args.trees.now.items (length c.args.trees.now.items) c.args.root.now =
    subst (λ (ts : List WorkingTree). IsNotIn ts (length ts) c.args.root.now) c.as_slice.ensures.value c.in_default.ensures in
    subst (AreTrees (replicas_of c.args.state.now)) (sym c.in_ok-push.ensures.items)
    (trees_push (replicas_of c.args.state.now) c.args.trees.now.items (record { root = c.args.root; tree = c.in_ok-tree.tree }) c.requires c.in_ok-tree.ensures
    (λ k u e. absent k u (slice_get_within c.args.trees.now.items k u e) e))

pub returns-clause-more : goal.returns-clause-more
returns-clause-more c = λ k t e.
    subst (λ (ts : List WorkingTree). slice_get ts k ≡ Some t) (sym c.in_ok-push.ensures.items)
    (snoc-old c.args.trees.now.items (record { root = c.args.root; tree = c.in_ok-tree.tree }) t k e)

pub returns-clause-rest : goal.returns-clause-rest
returns-clause-rest c = λ k t e.
    rest_push c.args.trees.now.items (record { root = c.args.root; tree = c.in_ok-tree.tree }) c.args.root.now refl k t
    (subst (λ (ts : List WorkingTree). slice_get ts k ≡ Some t) c.in_ok-push.ensures.items e)

-- Replicas that are trees: the empty one, and those of a state.
use Rattle.std.proofs.Common.{◌≡◌, Bool, true, false, cond, [], ◌∷◌, Option, None, Some, refl, sym, ◌∙◌, ap}
use Rattle.std.specs.Prelude.{unwrap_or}
use Rattle.std.specs.FinMap as fin
use Rattle.std.proofs.lemmas.Bool.{false≢true}
use Rattle.hub_path.specs.Path.{Name, Path, is_place, parent, path_cmp}
use Rattle.hub_tree.specs.Tree.{IsTree, Replica, contents_at, is_absent, is_directory}
use Rattle.hub_tree.specs.declared.contents.Contents.TheVariants as contents
use Rattle.hub_state.specs.State.{IsState, State, replica_at, root_text}
use Rattle.hub_starter.specs.Opened.{replica_in}

empty_at : (n : Name) (p : Path) → contents_at fin.empty (n ∷ p) ≡ contents.Absent
empty_at n p = ap (λ o. unwrap_or o contents.Absent) (fin.get-empty path_cmp (n ∷ p))

empty_parents : (p : Path) → is_absent (contents_at fin.empty p) ≡ false
    → is_directory (contents_at fin.empty (parent p)) ≡ true
empty_parents [] e = refl
empty_parents (n ∷ p) e = absurd (false≢true (sym e ∙ ap is_absent (empty_at n p)))

pub empty_is_tree : IsTree fin.empty
empty_is_tree = record {
  parents = empty_parents;
  present = λ p e.
      let n : None ≡ Some contents.Absent = sym (fin.get-empty path_cmp p) ∙ e in cc;
  no_top = fin.get-empty path_cmp [];
}

-- The state's replicas are trees.
tree_by : (S : State) → IsState S → (r : Path) (b : Bool) (x : Option Replica)
    → replica_at S r ≡ x → IsTree (cond b (unwrap_or x fin.empty) fin.empty)
tree_by S valid r false x e = empty_is_tree
tree_by S valid r true None e = empty_is_tree
tree_by S valid r true (Some m) e = (valid.trees (root_text r) m e).0

pub state_trees : (S : State) → IsState S → (r : Path) → IsTree (replica_in S r)
state_trees S valid r = tree_by S valid r (is_place r) (replica_at S r) refl

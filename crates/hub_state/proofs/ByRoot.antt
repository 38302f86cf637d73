-- States with the same replicas and archives are equal.
use Rattle.std.proofs.Common.{◌≡◌, true, cond, List, [], ◌∷◌, Option, Some, None, refl, sym, ap, ◌∙◌}
use Rattle.std.specs.FinMap as fin
use Rattle.hub_path.specs.Path.{Path, name_cmp, path_cmp, is_place}
use Rattle.hub_path.specs.laws.General.{name_cmp-total, name_cmp-exact, path_cmp-total, path_cmp-exact}
use Rattle.hub_tree.specs.Tree.{Replica, Archive}
use Rattle.hub_state.specs.State.{State, Text, IsState, root_text, is_before, pair_of, replica_at, archive_at}

no_other : {X : Type 0} (x y : Option X) → ((v : X) → x ≡ Some v → x ≡ y) → ((v : X) → y ≡ Some v → x ≡ y) → x ≡ y
no_other None None f g = refl
no_other None (Some v) f g = g v refl
no_other (Some v) y f g = f v refl

same_replicas : (S T : State) → IsState S → IsState T → ((r : Path) → is_place r ≡ true → replica_at S r ≡ replica_at T r) → S.replicas ≡ T.replicas
same_replicas S T i j h =
    fin.same_map name_cmp-total name_cmp-exact S.replicas T.replicas
    (λ t. no_other (fin.get S.replicas t) (fin.get T.replicas t) (λ m e. at t (i.roots t m e)) (λ m e. at t (j.roots t m e)))
  where
    at : (t : Text) → (r : Path) × (is_place r ≡ true) × (t ≡ root_text r) → fin.get S.replicas t ≡ fin.get T.replicas t
    at t w = ap (fin.get S.replicas) w.2 ∙ h w.0 w.1 ∙ sym (ap (fin.get T.replicas) w.2)

same_archives : (S T : State) → IsState S → IsState T → ((r s : Path) → is_place r ≡ true → is_place s ≡ true → archive_at S r s ≡ archive_at T r s) → S.archives ≡ T.archives
same_archives S T i j h =
    fin.same_map path_cmp-total path_cmp-exact S.archives T.archives
    (λ k. no_other (fin.get S.archives k) (fin.get T.archives k) (λ a e. at k (i.pairs k a e)) (λ a e. at k (j.pairs k a e)))
  where
    at : (k : List Text) → (r s : Path) × (is_place r ≡ true) × (is_place s ≡ true) × (k ≡ root_text r ∷ root_text s ∷ []) × (is_before (name_cmp (root_text r) (root_text s)) ≡ true)
        → fin.get S.archives k ≡ fin.get T.archives k
    at k w =
        let is : k ≡ pair_of w.0 w.1 = w.4 ∙ sym (ap (λ b. cond b (root_text w.0 ∷ root_text w.1 ∷ []) (root_text w.1 ∷ root_text w.0 ∷ [])) w.5) in
        ap (fin.get S.archives) is ∙ h w.0 w.1 w.2 w.3 ∙ sym (ap (fin.get T.archives) is)

abbrev state_with : fin.FinMap name_cmp Replica → fin.FinMap path_cmp Archive → State
state_with rs ks = record { replicas = rs; archives = ks }

pub same_states : (S T : State) → IsState S → IsState T → ((r : Path) → is_place r ≡ true → replica_at S r ≡ replica_at T r)
    → ((r s : Path) → is_place r ≡ true → is_place s ≡ true → archive_at S r s ≡ archive_at T r s) → S ≡ T
same_states S T i j f g =
    ap (λ (rs : fin.FinMap name_cmp Replica). state_with rs S.archives) (same_replicas S T i j f) ∙ ap (state_with T.replicas) (same_archives S T i j g)

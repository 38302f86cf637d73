-- Roots that have no replica.
use Rattle.std.proofs.Common.{◌≡◌, inl, inr, Bool, true, false, cond, not, List, [], ◌∷◌, ◌++◌, Option, Some, None, refl, ap, sym, ◌∙◌}
use Rattle.std.specs.Prelude.{ℕ, zero, suc, slice_get, find, is_some}
use Rattle.std.specs.List.{list_any, flat_map}
use Rattle.std.proofs.lemmas.Bool.{false≢true, or_cases}
use Rattle.hub_reconcile.specs.laws.Views.{same_paths}
use Rattle.hub_path.specs.Path.{Path, path_eq}
use Rattle.hub_profile.specs.Parts.{Parts, some_passes}
use Rattle.hub_reach.specs.Reach.{has_root}
use Rattle.hub_tree.specs.Tree.{Replica}
use Rattle.hub_state.specs.State.{State, replica_at}
use Rattle.hub_schedule.specs.Promise.{HasReplicas}
use Rattle.hub_schedule.specs.Refusals.{first_missing}

pub find_after : {X : Type 0} (t : X → Bool) (xs ys : List X) → find t xs ≡ None
    → find t (xs ++ ys) ≡ find t ys
find_after t [] ys e = refl
find_after {X} t (x ∷ xs) ys e =
    elim (t x) as (λ b. cond b (Some x) (find t xs) ≡ None
    → cond b (Some x) (find t (xs ++ ys)) ≡ find t ys) [
      | true ↦ λ h. cc
      | false ↦ λ h. find_after t xs ys h
    ] e

pub find_in : {X : Type 0} (t : X → Bool) (xs ys : List X) (y : X) → find t xs ≡ Some y
    → find t (xs ++ ys) ≡ Some y
find_in t [] ys y e = cc
find_in {X} t (x ∷ xs) ys y e =
    elim (t x) as (λ b. cond b (Some x) (find t xs) ≡ Some y
    → cond b (Some x) (find t (xs ++ ys)) ≡ Some y) [
      | true ↦ λ h. h
      | false ↦ λ h. find_in t xs ys y h
    ] e

none_first : {X : Type 0} (t : X → Bool) (xs ys : List X) → find t (xs ++ ys) ≡ None
    → find t xs ≡ None
none_first t [] ys e = refl
none_first {X} t (x ∷ xs) ys e =
    elim (t x) as (λ b. cond b (Some x) (find t (xs ++ ys)) ≡ None
    → cond b (Some x) (find t xs) ≡ None) [
      | true ↦ λ h. h
      | false ↦ λ h. none_first t xs ys h
    ] e

none_second : {X : Type 0} (t : X → Bool) (xs ys : List X) → find t (xs ++ ys) ≡ None
    → find t ys ≡ None
none_second t xs ys e = sym (find_after t xs ys (none_first t xs ys e)) ∙ e

abbrev pub lacks : State → Path → Bool
lacks S r = not (is_some (replica_at S r))

there_is : (S : State) (r : Path) (o : Option Replica) → replica_at S r ≡ o
    → not (is_some o) ≡ false → (m : Replica) × (replica_at S r ≡ Some m)
there_is S r None e h = absurd (false≢true (sym h))
there_is S r (Some m) e h = (m, e)

in_roots : (S : State) (rs : List Path) (r : Path) → find (lacks S) rs ≡ None
    → list_any (λ own. path_eq own r) rs ≡ true → lacks S r ≡ false
in_roots S [] r none h = absurd (false≢true h)
in_roots S (q ∷ rs) r none h =
    elim (lacks S q) as (λ b. lacks S q ≡ b → cond b (Some q) (find (lacks S) rs) ≡ None
    → lacks S r ≡ false) [
      | true ↦ λ e g. cc
      | false ↦ λ e g. elim (or_cases (path_eq q r) (list_any (λ own. path_eq own r) rs) h) [
        | inl same ↦ ap (lacks S) (sym (same_paths q r same)) ∙ e
        | inr more ↦ in_roots S rs r g more
      ]
    ] refl none

in_profiles : (S : State) (Ps : List Parts) (j : ℕ) (P : Parts) (r : Path)
    → first_missing S Ps ≡ None → slice_get Ps j ≡ Some P → has_root P r ≡ true → lacks S r ≡ false
in_profiles S [] j P r none at h = cc
in_profiles S (Q ∷ Ps) zero P r none at h =
    in_roots S Q.roots r (none_first (lacks S) Q.roots (flat_map (λ P. P.roots) Ps) none)
    (ap (some_passes (λ P. has_root P r)) at ∙ h)
in_profiles S (Q ∷ Ps) (suc j) P r none at h =
    in_profiles S Ps j P r (none_second (lacks S) Q.roots (flat_map (λ P. P.roots) Ps) none) at h

pub have_replicas : (S : State) (Ps : List Parts) → first_missing S Ps ≡ None → HasReplicas S Ps
have_replicas S Ps none =
    λ j P r at has. there_is S r (replica_at S r) refl (in_profiles S Ps j P r none at has)

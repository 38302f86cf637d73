-- What holds of a state after a change.
use Rattle.std.proofs.Common.{◌≡◌, ◌≢◌, Bool, true, false, cond, List, [], ◌∷◌, refl, sym, ap, ◌∙◌, subst}
use Rattle.std.specs.Prelude.{Option, Some, None, Result, Ok, Err, OnOk, OnErr, unwrap_or}
use Rattle.std.specs.FinMap as fin
use Rattle.std.specs.Ordering.{eq_by_cmp, ordering_reverse}
use Rattle.std.specs.declared.cmp.Ordering.{Ordering}
use Rattle.std.specs.declared.cmp.Ordering.TheVariants.{Less, Equal, Greater}
use Rattle.std.proofs.lemmas.Bool.{false≢true}
use lib.Utf8.{encode}
use Rattle.hub_path.specs.Path.{Path, name_cmp, path_cmp, is_place, root_bytes}
use Rattle.hub_path.specs.laws.General.{name_cmp-total, name_cmp-exact, path_cmp-total}
use Rattle.hub_tree.specs.Tree.{Replica, Archive, IsTree, IsArchive, HasPaths, HasBytes, HasDigests}
use Rattle.hub_tree.specs.laws.Order.{same_path, same_name}
use Rattle.hub_state.specs.State.{State, Text, IsState, empty_state, root_text, is_before, pair_of, with_replica, with_archive}
use Rattle.hub_state.specs.laws.RootTexts.{same_roots}

-- The text of a root by its two definitions.
pub root_text-bytes : (r : Path) → root_bytes r ≡ root_text r
unfolding encode
root_text-bytes r = refl

either : {X P : Type 0} (b : Bool) (v x : X) (o : Option X) → cond b (Some v) o ≡ Some x → (b ≡ true → v ≡ x → P) → (o ≡ Some x → P) → P
either true v x o e f g = f refl (ap (λ z. unwrap_or z v) e)
either false v x o e f g = g e

pub IsState-nothing : IsState empty_state
IsState-nothing = record {
  roots = λ t m h. let n : None ≡ Some m = sym (fin.get-empty name_cmp t) ∙ h in cc;
  trees = λ t m h. let n : None ≡ Some m = sym (fin.get-empty name_cmp t) ∙ h in cc;
  pairs = λ k a h. let n : None ≡ Some a = sym (fin.get-empty path_cmp k) ∙ h in cc;
  marks = λ k a h. let n : None ≡ Some a = sym (fin.get-empty path_cmp k) ∙ h in cc;
}

pub IsState-replica : (S : State) (r : Path) (m : Replica) → IsState S → is_place r ≡ true → IsTree m × HasPaths m × HasBytes m → IsState (with_replica S r m)
IsState-replica S r m is place tree = record {
  roots = λ t k h. either (eq_by_cmp name_cmp t (root_text r)) m k (fin.get S.replicas t) (sym (fin.get-insert name_cmp-total S.replicas (root_text r) m t) ∙ h)
      (λ e v. (r, place, same_name t (root_text r) e)) (λ g. is.roots t k g);
  trees = λ t k h. either (eq_by_cmp name_cmp t (root_text r)) m k (fin.get S.replicas t) (sym (fin.get-insert name_cmp-total S.replicas (root_text r) m t) ∙ h)
      (λ e v. subst (λ (x : Replica). IsTree x × HasPaths x × HasBytes x) v tree) (λ g. is.trees t k g);
  pairs = is.pairs;
  marks = is.marks;
}

-- Of two different roots one comes before the other.
other_before : (r s : Path) → is_place r ≡ true → is_place s ≡ true → r ≢ s → is_before (name_cmp (root_text r) (root_text s)) ≡ false → is_before (name_cmp (root_text s) (root_text r)) ≡ true
other_before r s h k other e =
    ap is_before (name_cmp-total.antisymm (root_text s) (root_text r)) ∙ by (name_cmp (root_text r) (root_text s)) refl
  where
    by : (x : Ordering) → name_cmp (root_text r) (root_text s) ≡ x → is_before (ordering_reverse x) ≡ true
    by Less is = absurd (false≢true (sym e ∙ ap is_before is))
    by Equal is = absurd (other (same_roots r s h k (name_cmp-exact (root_text r) (root_text s) is)))
    by Greater is = refl

abbrev IsPair : List Text → Type 0
IsPair k = (r s : Path) × (is_place r ≡ true) × (is_place s ≡ true) × (k ≡ root_text r ∷ root_text s ∷ []) × (is_before (name_cmp (root_text r) (root_text s)) ≡ true)

ordered_pair : (r s : Path) → is_place r ≡ true → is_place s ≡ true → r ≢ s → IsPair (pair_of r s)
ordered_pair r s h k other = by (is_before (name_cmp (root_text r) (root_text s))) refl
  where
    by : (b : Bool) → is_before (name_cmp (root_text r) (root_text s)) ≡ b → IsPair (pair_of r s)
    by true e = (r, s, h, k, ap (λ x. cond x (root_text r ∷ root_text s ∷ []) (root_text s ∷ root_text r ∷ [])) e, e)
    by false e = (s, r, k, h, ap (λ x. cond x (root_text r ∷ root_text s ∷ []) (root_text s ∷ root_text r ∷ [])) e, other_before r s h k other e)

pub IsState-archive : (S : State) (r s : Path) (a : Archive) → IsState S → is_place r ≡ true → is_place s ≡ true → r ≢ s → IsArchive a × HasPaths a × HasDigests a → IsState (with_archive S r s a)
IsState-archive S r s a is here there other marks = record {
  roots = is.roots;
  trees = is.trees;
  pairs = λ k b h. either (eq_by_cmp path_cmp k (pair_of r s)) a b (fin.get S.archives k) (sym (fin.get-insert path_cmp-total S.archives (pair_of r s) a k) ∙ h)
      (λ e v. subst IsPair (sym (same_path k (pair_of r s) e)) (ordered_pair r s here there other)) (λ g. is.pairs k b g);
  marks = λ k b h. either (eq_by_cmp path_cmp k (pair_of r s)) a b (fin.get S.archives k) (sym (fin.get-insert path_cmp-total S.archives (pair_of r s) a k) ∙ h)
      (λ e v. subst (λ (x : Archive). IsArchive x × HasPaths x × HasDigests x) v marks) (λ g. is.marks k b g);
}

-- A value after a call that may fail.
pub on_either : {T E A : Type 0} (r : Result T E) (x y z : A) (P : A → Type 0) → OnOk r (x ≡ y) → OnErr r (x ≡ z) → P y → P z → P x
on_either (Ok t) x y z P e f p q = subst P (sym e) p
on_either (Err t) x y z P e f p q = subst P (sym f) q

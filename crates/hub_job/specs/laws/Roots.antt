-- The two roots of a profile: which they are, and that they are apart.
use Rattle.std.proofs.Common.{◌≡◌, Bool, true, false, ◌||◌, List, [], ◌∷◌, length, Some, refl, ap, sym, ◌∙◌, subst, not, ◌&&◌, arith}
use Rattle.std.specs.Prelude.{◌==◌, ℕ, IsTrue, slice_get}
use Rattle.std.specs.List.{list_any, list_all}
use Rattle.std.proofs.lemmas.Bool.{false≢true, and_parts, not-true, false_from_ne_true, or_parts, or_right}
use Rattle.hub_reconcile.specs.laws.Views.{same_paths}
use Rattle.hub_path.specs.Path.{Path, path_eq, is_over, is_place, none_over}
use Rattle.hub_path.specs.declared.side.Side.{Side}
use Rattle.hub_path.specs.declared.side.Side.TheVariants.{Left, Right}
use Rattle.hub_profile.specs.Parts.{Parts, at_side, IsProfile}
use Rattle.hub_reach.specs.Reach.{has_root}
use Rattle.hub_job.specs.laws.Untouched.{path-of_Some}
use Rattle.std.proofs.lemmas.Bool.Decides.{nat_tests}
use Rattle.hub_path.specs.laws.General.{is_over-reflexive, path_eq-turned}
use Rattle.hub_profile.specs.Facts.{are_roots}
use Rattle.hub_reconcile.specs.Sync.{root_or_top}
use Rattle.hub_job.specs.Run.{root_at}

pub record TwoRoots (rs : List Path) : Type 0 where
  pub first : Path
  pub second : Path
  pub are : rs ≡ first ∷ second ∷ []
  pub apart : is_over first second ≡ false

many : (a b c : Path) (rs : List Path) → (length (a ∷ b ∷ c ∷ rs) == 2) ≡ false
many a b c rs = grind (arith, nat_tests)

not_two : (n : Bool) (p q : Bool) → n ≡ false → (n && p && q) ≡ true → ⊥
not_two true p q e h = false≢true (sym e)
not_two false p q e h = false≢true h

pub two_roots : (rs : List Path) → are_roots rs ≡ true → TwoRoots rs
two_roots [] h = absurd (false≢true h)
two_roots (a ∷ []) h = absurd (false≢true h)
two_roots (a ∷ b ∷ []) h =
    let apart = (and_parts (list_all is_place (a ∷ b ∷ [])) (none_over (a ∷ b ∷ [])) h).1 in
    let one = (and_parts (list_all (λ q. not (is_over a q || is_over q a)) (b ∷ []))
    (none_over (b ∷ [])) apart).0 in
    let both = (and_parts (not (is_over a b || is_over b a)) true one).0 in
    record {
      first = a;
      second = b;
      are = refl;
      apart = (or_parts (is_over a b) (is_over b a) (not-true _ both)).0;
    }
two_roots (a ∷ b ∷ c ∷ rs) h = absurd (not_two (length (a ∷ b ∷ c ∷ rs) == 2) _ _ (many a b c rs) h)

root_first : (roots : List Path) (r : Path) → slice_get roots 0 ≡ Some r
    → list_any (λ own. path_eq own r) roots ≡ true
root_first [] r e = cc
root_first (a ∷ rs) r e = ap (λ b. b || list_any (λ own. path_eq own r) rs) (path-of_Some a r e)

root_second : (roots : List Path) (r : Path) → slice_get roots 1 ≡ Some r
    → list_any (λ own. path_eq own r) roots ≡ true
root_second [] r e = cc
root_second (a ∷ rs) r e = or_right (path_eq a r) _ (root_first rs r e)

pub has_its_root : (P : Parts) (side : Side) (r : Path) → at_side P.roots side ≡ Some r
    → IsTrue (has_root P r)
has_its_root P Left r e = root_first P.roots r e
has_its_root P Right r e = root_second P.roots r e

module _ (P : Parts) (facts : IsProfile P) (j : ℕ) where
  roots : TwoRoots P.roots
  roots = two_roots P.roots facts.roots

  pub side_root : (k : Side) → at_side P.roots k ≡ Some (root_at P k)
  side_root Left = ap (λ rs. at_side rs Left) roots.are
      ∙ ap (λ r. Some r) (sym (ap (λ rs. root_or_top (at_side rs Left)) roots.are))
  side_root Right = ap (λ rs. at_side rs Right) roots.are
      ∙ ap (λ r. Some r) (sym (ap (λ rs. root_or_top (at_side rs Right)) roots.are))

  roots_over : is_over (root_at P Left) (root_at P Right) ≡ false
  roots_over =
      ap (λ rs. is_over (root_or_top (at_side rs Left)) (root_or_top (at_side rs Right))) roots.are
      ∙ roots.apart

  pub left_not_right : path_eq (root_at P Left) (root_at P Right) ≡ false
  left_not_right =
      false_from_ne_true _
      (λ e. false≢true (sym roots_over
      ∙ subst (λ r. is_over (root_at P Left) r ≡ true)
      (same_paths (root_at P Left) (root_at P Right) e) (is_over-reflexive (root_at P Left))))

  pub right_not_left : path_eq (root_at P Right) (root_at P Left) ≡ false
  right_not_left = path_eq-turned (root_at P Right) (root_at P Left) ∙ left_not_right

-- A profile has its roots.
pub has_own : (P : Parts) → IsProfile P → (side : Side) (r : Path) → r ≡ root_at P side
    → has_root P r ≡ true
has_own P facts side r e =
    subst (λ q. has_root P q ≡ true) (sym e)
    (has_its_root P side (root_at P side) (side_root P facts 0 side))

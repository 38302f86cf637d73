-- An archive that is put at the two roots of a profile.
use Rattle.std.proofs.Common.{◌≡◌, ◌≢◌, ◌⊎◌, inl, inr, Bool, true, false, cond, ◌&&◌, ◌||◌, [], ◌∷◌, Option, Some, refl, ap, sym, ◌∙◌}
use Rattle.std.specs.Prelude.{is_some, unwrap_or}
use Rattle.std.specs.List.{list_any}
use Rattle.std.specs.FinMap as fin
use Rattle.std.proofs.lemmas.Bool.{false≢true, or_cases, or_left, or_right, and_parts, and_from}
use Rattle.std.specs.Cmp.{both_ways}
use Rattle.hub_reconcile.specs.laws.Views.{same_paths}
use Rattle.hub_path.specs.laws.General.{path_eq-decides}
use Rattle.hub_path.specs.Path.{Path, path_eq}
use Rattle.hub_profile.specs.Parts.{Parts, IsProfile}
use Rattle.hub_reach.specs.Reach.{reach, has_root}
use Rattle.hub_tree.specs.Tree.{Archive, old_mark_at}
use Rattle.hub_state.specs.State.{State, is_pair, archive_at, with_archive}
use Rattle.hub_state.specs.laws.RootTexts.{archive_put, pair_turned}
use Rattle.hub_schedule.specs.forms.Left.{mark_in, mark_given, has_pair, HasArchives, HasMarks}
use Rattle.hub_schedule.proofs.Promised.{root_place}

there_if : (x : Bool) (a : Archive) (o : Option Archive) → is_some (cond x (Some a) o) ≡ (x || is_some o)
there_if true a o = refl
there_if false a o = refl

module _ (P : Parts) (facts : IsProfile P) (a b : Path) (are : P.roots ≡ a ∷ b ∷ []) where
  has_is : (r : Path) → has_root P r ≡ (path_eq a r || (path_eq b r || false))
  has_is r = ap (list_any (λ own. path_eq own r)) are

  has_first : (r : Path) → r ≡ a → has_root P r ≡ true
  has_first r e = has_is r ∙ or_left (path_eq a r) (path_eq b r || false) ((path_eq-decides a r).1 (sym e))

  has_second : (r : Path) → r ≡ b → has_root P r ≡ true
  has_second r e = has_is r ∙ or_right (path_eq a r) (path_eq b r || false) (or_left (path_eq b r) false ((path_eq-decides b r).1 (sym e)))

  which : (r : Path) → has_root P r ≡ true → (r ≡ a) ⊎ (r ≡ b)
  which r h =
      elim (or_cases (path_eq a r) (path_eq b r || false) (sym (has_is r) ∙ h)) [
        | inl e ↦ inl (sym (same_paths a r e))
        | inr e ↦ elim (or_cases (path_eq b r) false e) [
          | inl e ↦ inr (sym (same_paths b r e))
          | inr never ↦ absurd (false≢true never)
        ]
      ]

  -- Two roots are the profile's, in either order.
  abbrev AreBoth : Path → Path → Type 0
  AreBoth r s = ((r ≡ a) × (s ≡ b)) ⊎ ((r ≡ b) × (s ≡ a))

  pair_both : (r s : Path) → is_pair a b r s ≡ true → AreBoth r s
  pair_both r s h =
      elim (or_cases (path_eq r a && path_eq s b) (path_eq r b && path_eq s a) h) [
        | inl e ↦ let w = and_parts (path_eq r a) (path_eq s b) e in inl (same_paths r a w.0, same_paths s b w.1)
        | inr e ↦ let w = and_parts (path_eq r b) (path_eq s a) e in inr (same_paths r b w.0, same_paths s a w.1)
      ]

  both_pair : (r s : Path) → AreBoth r s → is_pair a b r s ≡ true
  both_pair r s (inl w) = or_left (path_eq r a && path_eq s b) (path_eq r b && path_eq s a) (and_from (path_eq r a) (path_eq s b) ((path_eq-decides r a).1 w.0) ((path_eq-decides s b).1 w.1))
  both_pair r s (inr w) = or_right (path_eq r a && path_eq s b) (path_eq r b && path_eq s a) (and_from (path_eq r b) (path_eq s a) ((path_eq-decides r b).1 w.0) ((path_eq-decides s a).1 w.1))

  both_has : (r s : Path) → AreBoth r s → (has_root P r && has_root P s) ≡ true
  both_has r s (inl w) = and_from (has_root P r) (has_root P s) (has_first r w.0) (has_second s w.1)
  both_has r s (inr w) = and_from (has_root P r) (has_root P s) (has_second r w.0) (has_first s w.1)

  has_both : (r s : Path) → r ≢ s → (has_root P r && has_root P s) ≡ true → AreBoth r s
  has_both r s off h =
      let w = and_parts (has_root P r) (has_root P s) h in
      elim (which r w.0) [
        | inl e ↦ elim (which s w.1) [
          | inl f ↦ absurd (off (e ∙ sym f))
          | inr f ↦ inl (e, f)
        ]
        | inr e ↦ elim (which s w.1) [
          | inl f ↦ inr (e, f)
          | inr f ↦ absurd (off (e ∙ sym f))
        ]
      ]

  as_pair : (r s : Path) → r ≢ s → is_pair a b r s ≡ (has_root P r && has_root P s)
  as_pair r s off = both_ways (is_pair a b r s) (has_root P r && has_root P s) (λ h. both_has r s (pair_both r s h)) (λ h. both_pair r s (has_both r s off h))

  turned : (S : State) (r s : Path) → AreBoth r s → archive_at S a b ≡ archive_at S r s
  turned S r s (inl w) = λ i. archive_at S (sym w.0 i) (sym w.1 i)
  turned S r s (inr w) = ap (fin.get S.archives) (pair_turned a b) ∙ (λ i. archive_at S (sym w.0 i) (sym w.1 i))

  pub put_there : (S : State) (merged : Archive) → HasArchives (has_pair P) S (with_archive S a b merged)
  put_there S merged = λ r s one other off.
      ap (λ (o : Option Archive). is_some o) (archive_put S a b r s merged (root_place P a facts (has_first a refl)) (root_place P b facts (has_second b refl)) one other)
      ∙ (there_if (is_pair a b r s) merged (archive_at S r s) ∙ ap (λ x. x || is_some (archive_at S r s)) (as_pair r s off))

  module _ (S : State) (next merged : Archive) (each : (p : Path) → old_mark_at merged p ≡ cond (reach P p) (old_mark_at next p) (mark_in S a b p)) where
    by_pair : (r s p : Path) (x : Bool) → is_pair a b r s ≡ x → old_mark_at (unwrap_or (cond x (Some merged) (archive_at S r s)) fin.empty) p ≡ cond (x && reach P p) (old_mark_at next p) (mark_in S r s p)
    by_pair r s p true e = each p ∙ ap (λ o. cond (reach P p) (old_mark_at next p) (old_mark_at (unwrap_or o fin.empty) p)) (turned S r s (pair_both r s e))
    by_pair r s p false e = refl

    pub put_given : HasMarks (mark_given P next) S (with_archive S a b merged)
    put_given = λ r s p one other off.
        ap (λ o. old_mark_at (unwrap_or o fin.empty) p) (archive_put S a b r s merged (root_place P a facts (has_first a refl)) (root_place P b facts (has_second b refl)) one other)
        ∙ (by_pair r s p (is_pair a b r s) refl ∙ ap (λ x. cond (x && reach P p) (old_mark_at next p) (mark_in S r s p)) (as_pair r s off))

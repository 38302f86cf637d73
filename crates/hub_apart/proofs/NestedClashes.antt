-- Two profiles with nested roots that no line is about don't clash.
use Rattle.std.proofs.Common.{◌≡◌, ◌≢◌, ◌∙◌, ◌==◌, ◌&&◌, ℕ, zero, suc, Bool, true, List, [], ◌∷◌, ◌++◌, length, map, Some, refl, sym, ap, subst, arith}
use Rattle.std.specs.Prelude.{Contains, slice_get}
use Rattle.std.specs.List.{list_all}
use Rattle.std.proofs.lemmas.Bool.{and_parts}
use Rattle.std.proofs.lemmas.Bool.Decides.{nat_tests}
use Rattle.std.proofs.lemmas.List.Elements.{Contains-append_left, Contains-append_right}
use Rattle.std.proofs.lemmas.Option.{none-some}
use Rattle.hub_text.specs.laws.List.{cons-here}
use Rattle.hub_path.specs.laws.General.{path_eq-decides}
use Rattle.hub_path.specs.Path.{Path, is_place, none_over, path_eq}
use Rattle.hub_path.specs.declared.side.Side.{Side}
use Rattle.hub_path.specs.declared.side.Side.TheVariants.{Left, Right}
use Rattle.hub_profile.specs.Parts.{IsProfile, Parts, at_side, has_root}
use Rattle.hub_reach.specs.Safe.{Clash}
use Rattle.hub_cert.specs.Set.{IsSafeSet}
use Rattle.hub_cert.specs.declared.fault.CheckFault.{CheckFault}
use Rattle.hub_cert.specs.declared.fault.CheckFault.TheVariants as fault
use Rattle.hub_nested.specs.Meeting.{meeting}
use Rattle.hub_nested.specs.declared.meeting.Meeting.{Meeting}
use Rattle.hub_nested.specs.declared.meeting.Meeting.TheVariants as meets
use Rattle.hub_nested.specs.declared.meeting.Together.{Together}
use Rattle.hub_parts.specs.Nested.{ClashAt}
use Rattle.hub_rounds.specs.Lines.{HasPair, subject_of}
use Rattle.hub_apart.specs.ApartLines.{line_among, nested_line}
use Rattle.hub_apart.specs.NestedLines.{AreLinesAt, AreLinesOfNested, line_from, together}
use Rattle.hub_apart.proofs.Items.{passing}
use Rattle.hub_apart.proofs.WithoutLines.{MadeSafe, RestShown, inductive, itself}

-- What is known of two profiles that are counted from the upper root.
pub record Counting : Type 1 where
  pub apart : (P Q : Parts) (a b : Side) (r s : Path) → at_side P.roots a ≡ Some r → at_side Q.roots b ≡ Some s → meeting P a Q b ≡ meets.Apart
      → ¬ (ClashAt P Q r s)
  pub apart_second : (P Q : Parts) (a b : Side) (r s : Path) → at_side P.roots a ≡ Some r → at_side Q.roots b ≡ Some s
      → meeting P a Q b ≡ meets.Apart → ¬ (ClashAt Q P s r)
  pub first : (P Q : Parts) (a b : Side) (r s : Path) (t : Together) → IsProfile P → IsProfile Q → at_side P.roots a ≡ Some r
      → at_side Q.roots b ≡ Some s → meeting P a Q b ≡ meets.Counted t → ClashAt P Q r s → Clash t.first t.second
  pub second : (P Q : Parts) (a b : Side) (r s : Path) (t : Together) → IsProfile P → IsProfile Q → at_side P.roots a ≡ Some r
      → at_side Q.roots b ≡ Some s → meeting P a Q b ≡ meets.Counted t → ClashAt Q P s r → Clash t.second t.first

-- Each root of a profile is at a side.
side-at : (rs : List Path) (r : Path) → (length rs == 2) ≡ true → (k : ℕ) → slice_get rs k ≡ Some r → (a : Side) × (at_side rs a ≡ Some r)
side-at rs r two zero at = (Left, at)
side-at rs r two (suc zero) at = (Right, at)
side-at [] r two (suc (suc k)) at = absurd (none-some r at)
side-at (p ∷ []) r two (suc (suc k)) at = absurd (none-some r at)
side-at (p ∷ q ∷ []) r two (suc (suc k)) at = absurd (none-some r at)
side-at (p ∷ q ∷ s ∷ rs) r two (suc (suc k)) at = grind (arith, nat_tests, two)

pub side-of : (P : Parts) (r : Path) → IsProfile P → has_root P r ≡ true → (a : Side) × (at_side P.roots a ≡ Some r)
side-of P r valid h =
    let w = passing (λ own. path_eq own r) P.roots h in
    let two = and_parts (length P.roots == 2) (list_all is_place P.roots) (and_parts (length P.roots == 2 && list_all is_place P.roots) (none_over P.roots) valid.roots).0 in
    side-at P.roots r two.0 w.0 (w.2 ∙ ap Some ((path_eq-decides w.1 r).0 w.3))

-- A line counted from another root is about the same profiles.
same-subject : (t : Together) (i j : ℕ) (e : CheckFault) → subject_of (line_from t i j e) ≡ subject_of (line_among i j e)
same-subject t i j (fault.Overlap w o place held path) = refl
same-subject t i j _ = refl

module _ (rest : RestShown) (made : MadeSafe) where
  counted-safe : (t : Together) (i j : ℕ) (own lines : List CheckFault) → AreLinesAt (meets.Counted t) i j own
      → ((e : CheckFault) → Contains own e → Contains lines e) → (HasPair lines i j → ⊥) → IsSafeSet (together t)
  counted-safe t i j own lines are among none =
      made (together t) are.1.valid are.1.apart
      (inductive t.first t.second i j rest (line_from t i j) (same-subject t i j) are.0 own lines are.1.faults are.2 among none)

  module _ (counting : Counting) (P Q : Parts) (i j : ℕ) (own lines : List CheckFault) (valid : IsProfile P) (other : IsProfile Q)
      (n : AreLinesOfNested P Q i j own) (among : (e : CheckFault) → Contains own e → Contains lines e) (none : HasPair lines i j → ⊥) where
    among-at : (a b : Side) (e : CheckFault) → Contains (n.at a b) e → Contains lines e
    among-at a b e has = among e (subst (λ es. Contains es e) (sym n.all) (go a b has))
      where
        go : (a b : Side) → Contains (n.at a b) e
            → Contains (((n.at Left Left ++ n.at Left Right) ++ n.at Right Left) ++ n.at Right Right) e
        go Left Left h =
            Contains-append_left ((n.at Left Left ++ n.at Left Right) ++ n.at Right Left) (n.at Right Right) e
            (Contains-append_left (n.at Left Left ++ n.at Left Right) (n.at Right Left) e
            (Contains-append_left (n.at Left Left) (n.at Left Right) e h))
        go Left Right h =
            Contains-append_left ((n.at Left Left ++ n.at Left Right) ++ n.at Right Left) (n.at Right Right) e
            (Contains-append_left (n.at Left Left ++ n.at Left Right) (n.at Right Left) e
            (Contains-append_right (n.at Left Left) (n.at Left Right) e h))
        go Right Left h =
            Contains-append_left ((n.at Left Left ++ n.at Left Right) ++ n.at Right Left) (n.at Right Right) e
            (Contains-append_right (n.at Left Left ++ n.at Left Right) (n.at Right Left) e h)
        go Right Right h =
            Contains-append_right ((n.at Left Left ++ n.at Left Right) ++ n.at Right Left) (n.at Right Right) e h

    unsaid : (es : List CheckFault) → ((e : CheckFault) → Contains es e → Contains lines e) → es ≡ nested_line i j ∷ [] → ⊥
    unsaid es within is =
        none (nested_line i j, within (nested_line i j) (subst (λ xs. Contains xs (nested_line i j)) (sym is) (cons-here (nested_line i j) (nested_line i j) [] refl)), itself i j)

    no-clash-at : (a b : Side) (r s : Path) → at_side P.roots a ≡ Some r → at_side Q.roots b ≡ Some s → ¬ (ClashAt P Q r s) × ¬ (ClashAt Q P s r)
    no-clash-at a b r s at_r at_s = go (meeting P a Q b) refl (n.are a b)
      where
        go : (m : Meeting) → meeting P a Q b ≡ m → AreLinesAt m i j (n.at a b) → ¬ (ClashAt P Q r s) × ¬ (ClashAt Q P s r)
        go meets.Apart e are = (counting.apart P Q a b r s at_r at_s e, counting.apart_second P Q a b r s at_r at_s e)
        go meets.Unsaid e are = absurd (unsaid (n.at a b) (among-at a b) are)
        go (meets.Counted t) e are =
            let safe = counted-safe t i j (n.at a b) lines are (among-at a b) none in (
              λ clash. safe.no_clash 0 1 t.first t.second refl refl (λ same. cc) (counting.first P Q a b r s t valid other at_r at_s e clash),
              λ clash. safe.no_clash 1 0 t.second t.first refl refl (λ same. cc) (counting.second P Q a b r s t valid other at_r at_s e clash),
            )

    pub no-nested-clash : (r s : Path) → has_root P r ≡ true → has_root Q s ≡ true → ¬ (ClashAt P Q r s) × ¬ (ClashAt Q P s r)
    no-nested-clash r s has_r has_s =
        let a = side-of P r valid has_r in
        let b = side-of Q s other has_s in
        no-clash-at a.0 b.0 r s a.1 b.1

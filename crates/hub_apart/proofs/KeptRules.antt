-- A profile of which no line says something alone keeps all rules.
use Rattle.std.proofs.Common.{◌≡◌, ◌≢◌, ◌∙◌, ◌⊎◌, inl, inr, ⊎_elim, ◌==◌, ℕ, zero, suc, Bool, true, false, cond, List, [], ◌∷◌, ◌++◌, Some, None, refl, sym, ap, subst}
use Rattle.std.specs.Prelude.{Contains, slice_get}
use Rattle.std.proofs.lemmas.Option.{none-some, same_Some}
use Rattle.hub_text.specs.laws.List.{to-map}
use Rattle.hub_path.specs.laws.General.{path_eq-decides}
use Rattle.hub_path.specs.Path.{Path, path_eq}
use Rattle.hub_profile.specs.Parts.{IsProfile, Parts, has_root, some_passes}
use Rattle.hub_profile.specs.declared.rule.Rule.{Rule}
use Rattle.hub_reach.specs.Safe.{Breach}
use Rattle.hub_cert.specs.Aim.{Aim, is_open_aim}
use Rattle.hub_cert.specs.Goals.{AllInductive, aim_of, breaching}
use Rattle.hub_cert.specs.Inductive.{IsInductive}
use Rattle.hub_cert.specs.Set.{AreApart, HasValidProfiles, forbidden_by, roots_in}
use Rattle.hub_cert.specs.declared.fault.CheckFault.{CheckFault}
use Rattle.hub_cert.specs.declared.fault.CheckFault.TheVariants as fault
use Rattle.hub_cert.specs.declared.goal.Goal.{Goal}
use Rattle.hub_cert.specs.declared.goal.Goal.TheVariants as goal
use Rattle.hub_cert.specs.declared.goal.Place.{Place}
use Rattle.hub_search.specs.Faults.{HasInductiveTexts, HasLine}
use Rattle.hub_search.specs.Search.{Tells}
use Rattle.hub_apart.specs.ApartLines.{AreLinesOfOne, line_among, number_of, set_of_one}
use Rattle.hub_rounds.specs.Lines.{HasNoOwnLine, subject_of}
use Rattle.hub_rounds.specs.declared.placing.Obstacle.{Obstacle}
use Rattle.hub_rounds.specs.declared.placing.Obstacle.TheVariants as why
use Rattle.hub_rounds.specs.declared.subject.Subject.TheVariants.{Alone}
use Rattle.hub_apart.proofs.Items.{passing}
use Rattle.hub_apart.proofs.WithoutLines.{At, MadeSafe, RestShown, append-at, roots-over}

module _ (P : Parts) (R : Rule) where
  -- With a rule at a root of its own.
  own-root : has_root P R.root ≡ true → At P.roots R.root
  own-root h =
      let w = passing (λ own. path_eq own R.root) P.roots h in
      (w.0, w.2 ∙ ap Some ((path_eq-decides w.1 R.root).0 w.3))

  one-of : has_root P R.root ≡ true → (i : ℕ) (r : Path) → slice_get (roots_in (set_of_one P (R ∷ []))) i ≡ Some r → At P.roots r
  one-of h i r at = ⊎_elim
      (λ own. ⊎_elim (λ a. a) (λ b. absurd (none-some r b.1)) (append-at P.roots [] own.0 r own.1))
      (λ ruled. of-rule ruled.0 ruled.1)
      (append-at (P.roots ++ []) (R.root ∷ []) i r at)
    where
      of-rule : (k : ℕ) → slice_get (R.root ∷ []) k ≡ Some r → At P.roots r
      of-rule zero e = subst (At P.roots) (same_Some R.root r e) (own-root h)
      of-rule (suc k) e = absurd (none-some r e)

  one-apart : IsProfile P → has_root P R.root ≡ true → AreApart (set_of_one P (R ∷ []))
  one-apart valid h i j r s at_r at_s over = roots-over P r s valid (one-of h i r at_r) (one-of h j s at_s) over

  one-valid : IsProfile P → HasValidProfiles (set_of_one P (R ∷ []))
  one-valid valid zero Q at = subst IsProfile (same_Some P Q at) valid
  one-valid valid (suc i) Q at = absurd (none-some Q at)

-- A set of one profile has no clashes.
unless : (b : Bool) (a : Aim) → cond b None None ≡ Some a → ⊥
unless true a e = none-some a e
unless false a e = none-some a e

pub no-clash : (P : Parts) (Rs : List Rule) (w o : ℕ) (place : Place) (a : Aim) → aim_of (set_of_one P Rs) (goal.Clash w o place) ≡ Some a → ⊥
no-clash P Rs zero zero place a is = none-some a is
no-clash P Rs zero (suc o) place a is = unless (0 == suc o) a is
no-clash P Rs (suc w) o place a is = unless (suc w == o) a is

module _ (P : Parts) (Rs : List Rule) (i : ℕ) where
  -- The line of a breach is about the profile alone.
  breach-number : (p k : ℕ) (a : Aim) → aim_of (set_of_one P Rs) (goal.Breach p k) ≡ Some a → number_of i i p ≡ i
  breach-number zero k a is = refl
  breach-number (suc p) k a is = refl

  goal-alone : (g : Goal) (a : Aim) → aim_of (set_of_one P Rs) g ≡ Some a → (w : Obstacle) × (subject_of (line_among i i (fault.TooLarge g)) ≡ Alone i w)
  goal-alone (goal.Clash w o place) a is = absurd (no-clash P Rs w o place a is)
  goal-alone (goal.Breach p k) a is = (why.TooLarge k, ap (λ n. Alone n (why.TooLarge k)) (breach-number p k a is))

  line-alone : (g : Goal) (a : Aim) (e : CheckFault) → aim_of (set_of_one P Rs) g ≡ Some a → e ≢ fault.OutOfMemory → Tells g a e
      → (w : Obstacle) × (subject_of (line_among i i e) ≡ Alone i w)
  line-alone g a (fault.Overlap w o place held path) is not_memory t =
      absurd (no-clash P Rs w o place a (subst (λ h. aim_of (set_of_one P Rs) h ≡ Some a) t.0 is))
  line-alone g a (fault.Breach p k path) is not_memory t =
      (why.Breach k, ap (λ n. Alone n (why.Breach k)) (breach-number p k a (subst (λ h. aim_of (set_of_one P Rs) h ≡ Some a) t.0 is)))
  line-alone g a (fault.TooLarge h) is not_memory t = goal-alone h a (subst (λ k. aim_of (set_of_one P Rs) k ≡ Some a) (sym t.0) is)
  line-alone g a fault.OutOfMemory is not_memory t = absurd (not_memory refl)
  line-alone g a _ is not_memory t = absurd t

  -- Without such a line each goal is ruled out.
  ruled-out : RestShown → (own lines : List CheckFault) → AreLinesOfOne P Rs i own → ((e : CheckFault) → Contains own e → Contains lines e)
      → HasNoOwnLine lines i → AllInductive (set_of_one P Rs)
  ruled-out rest own lines are among none g a aim opens =
      go (rest (set_of_one P Rs) are.0 g are.1 (ap (some_passes is_open_aim) aim ∙ opens))
    where
      go : HasInductiveTexts (set_of_one P Rs) g ⊎ HasLine (set_of_one P Rs) are.0 g → (ts : List (List ℕ)) × IsInductive a ts
      go (inl h) = h a aim
      go (inr line) =
          let has : Contains own (line_among i i line.0) =
          subst (λ es. Contains es (line_among i i line.0)) (sym are.2) (to-map (line_among i i) are.0 line.0 line.1) in
          let alone = line-alone g a line.0 aim line.2.0 (line.2.1 a aim) in
          absurd (none alone.0 (line_among i i line.0, among (line_among i i line.0) has, alone.1))

  -- With one of the rules too.
  one-rule : (k : ℕ) (R : Rule) → slice_get Rs k ≡ Some R → AllInductive (set_of_one P Rs) → AllInductive (set_of_one P (R ∷ []))
  one-rule k R at all (goal.Clash w o place) a aim opens = absurd (no-clash P (R ∷ []) w o place a aim)
  one-rule k R at all (goal.Breach zero zero) a aim opens = all (goal.Breach 0 k) a (ap (breaching (Some P)) at ∙ aim) opens
  one-rule k R at all (goal.Breach zero (suc m)) a aim opens = absurd (none-some a aim)
  one-rule k R at all (goal.Breach (suc p) m) a aim opens = absurd (none-some a aim)

pub keeps : RestShown → MadeSafe → (P : Parts) (Rs : List Rule) (i : ℕ) (own lines : List CheckFault) → IsProfile P → AreLinesOfOne P Rs i own
    → ((e : CheckFault) → Contains own e → Contains lines e) → HasNoOwnLine lines i → (k : ℕ) (R : Rule) → slice_get Rs k ≡ Some R
    → has_root P R.root ≡ true → ¬ (Breach P (forbidden_by R))
keeps rest made P Rs i own lines valid are among none k R at root =
    (made (set_of_one P (R ∷ [])) (one-valid P R valid) (one-apart P R valid root)
    (one-rule P Rs i k R at (ruled-out P Rs i rest own lines are among none))).no_breach 0 0 P (forbidden_by R) refl refl

-- A profile of which no line says something alone keeps all rules, wherever the roots lie.
use Rattle.std.proofs.Common.{◌≡◌, ◌≢◌, ◌∙◌, ◌⊎◌, ⊎_elim, inl, inr, ◌||◌, ℕ, Bool, true, false, List, [], ◌∷◌, ◌++◌, length, drop, Some, refl, sym, ap, subst}
use Rattle.std.specs.Prelude.{Contains, slice_get}
use Rattle.std.specs.List.{list_any}
use Rattle.std.proofs.lemmas.Bool.{false≢true, or_left, or_right}
use Rattle.std.proofs.lemmas.List.Elements.{Contains-append_left, Contains-append_right}
use Rattle.std.proofs.lemmas.Option.{same_Some, slice_get_within}
use Rattle.hub_text.specs.laws.List.{cons-here, to-map}
use Rattle.hub_path.specs.laws.General.{is_over-append, is_over-comparable}
use Rattle.hub_path.specs.Path.{Path, is_over}
use Rattle.hub_path.specs.declared.side.Side.{Side}
use Rattle.hub_path.specs.declared.side.Side.TheVariants.{Left, Right}
use Rattle.hub_glob.specs.Glob.{matches}
use Rattle.hub_profile.specs.Parts.{IsProfile, Parts, at_side, has_root, some_passes}
use Rattle.hub_profile.specs.declared.rule.Rule.{Rule}
use Rattle.hub_reach.specs.Reach.{may_at, reach}
use Rattle.hub_reach.specs.Safe.{Breach}
use Rattle.hub_cert.specs.Aim.{Aim, is_open_aim}
use Rattle.hub_cert.specs.Goals.{AllInductive, aim_of}
use Rattle.hub_cert.specs.Inductive.{IsInductive}
use Rattle.hub_cert.specs.Refused.{is_nested}
use Rattle.hub_cert.specs.Set.{IsSafeSet}
use Rattle.hub_cert.specs.declared.fault.CheckFault.{CheckFault}
use Rattle.hub_cert.specs.declared.fault.CheckFault.TheVariants as fault
use Rattle.hub_cert.specs.declared.goal.Goal.{Goal}
use Rattle.hub_cert.specs.declared.goal.Goal.TheVariants as goal
use Rattle.hub_nested.specs.Meeting.{rule_meeting}
use Rattle.hub_nested.specs.declared.rule_meeting.RuleMeeting.{RuleMeeting}
use Rattle.hub_nested.specs.declared.rule_meeting.RuleMeeting.TheVariants as meets_rule
use Rattle.hub_nested.specs.declared.rule_meeting.Under.{Under}
use Rattle.hub_parts.specs.Nested.{WideBreach}
use Rattle.hub_rounds.specs.Lines.{HasNoOwnLine, subject_of}
use Rattle.hub_rounds.specs.declared.placing.Obstacle.{Obstacle}
use Rattle.hub_rounds.specs.declared.placing.Obstacle.TheVariants as why
use Rattle.hub_rounds.specs.declared.subject.Subject.TheVariants.{Alone}
use Rattle.hub_search.specs.Faults.{HasInductiveTexts, HasLine}
use Rattle.hub_search.specs.Search.{Tells}
use Rattle.hub_unison.specs.Rules.{forbidden}
use Rattle.hub_apart.specs.Apart.{nests_any, nests_rule}
use Rattle.hub_apart.specs.ApartLines.{AreLinesOfOne}
use Rattle.hub_apart.specs.NestedLines.{AreLinesBeside, AreLinesOfRules, AreLinesUnder, breach_from, large_breach, nests_rules, under}
use Rattle.hub_apart.proofs.Items.{none-at, not-true}
use Rattle.hub_apart.proofs.KeptRules.{keeps, no-clash}
use Rattle.hub_apart.proofs.NestedClashes.{side-of}
use Rattle.hub_apart.proofs.WithoutLines.{MadeSafe, RestShown, not-nested}

-- What is known of a profile and a rule that are counted from the upper root.
pub record RuleCounting : Type 1 where
  pub apart : (P : Parts) (a : Side) (r p q : Path) (R : Rule) → at_side P.roots a ≡ Some r → rule_meeting P a R ≡ meets_rule.Apart
      → r ++ p ≡ R.root ++ q → reach P p ≡ true → matches R.spec q ≡ true → ⊥
  pub breach : (P : Parts) (a : Side) (r p q : Path) (R : Rule) (u : Under) → IsProfile P → P.ignore ≡ [] → at_side P.roots a ≡ Some r
      → rule_meeting P a R ≡ meets_rule.Counted u → r ++ p ≡ R.root ++ q → reach P p ≡ true → may_at P r p R.verb ≡ true
      → matches R.spec q ≡ true → Breach u.profile (forbidden u.rule)

-- What follows a path.
drop-own : (x q : Path) → drop (length x) (x ++ q) ≡ q
drop-own [] q = refl
drop-own (n ∷ x) q = drop-own x q

same-rest : (r p q : Path) → r ++ p ≡ r ++ q → p ≡ q
same-rest r p q e = sym (drop-own r p) ∙ (ap (drop (length r)) e ∙ drop-own r q)

module _ (u : Under) (i k : ℕ) where
  -- The line of a breach, counted from the rule's root, is about the profile alone.
  alone-from : (g : Goal) (a : Aim) (e : CheckFault) → aim_of (under u) g ≡ Some a → e ≢ fault.OutOfMemory → Tells g a e
      → (w : Obstacle) × (subject_of (breach_from u i k e) ≡ Alone i w)
  alone-from g a (fault.Overlap w o place held path) is not_memory t =
      absurd (no-clash u.profile (u.rule ∷ []) w o place a (subst (λ h. aim_of (under u) h ≡ Some a) t.0 is))
  alone-from g a (fault.Breach p r path) is not_memory t = (why.Breach k, refl)
  alone-from g a (fault.TooLarge h) is not_memory t = (why.TooLarge k, refl)
  alone-from g a fault.OutOfMemory is not_memory t = absurd (not_memory refl)
  alone-from g a _ is not_memory t = absurd t

  ruled-out : RestShown → (own lines : List CheckFault) → AreLinesUnder (meets_rule.Counted u) i k own
      → ((e : CheckFault) → Contains own e → Contains lines e) → HasNoOwnLine lines i → AllInductive (under u)
  ruled-out rest own lines are among none g a aim opens =
      go (rest (under u) are.0 g are.1.faults (ap (some_passes is_open_aim) aim ∙ opens))
    where
      go : HasInductiveTexts (under u) g ⊎ HasLine (under u) are.0 g → (ts : List (List ℕ)) × IsInductive a ts
      go (inl h) = h a aim
      go (inr line) =
          let e = breach_from u i k line.0 in
          let has : Contains own e = subst (λ es. Contains es e) (sym are.2) (to-map (breach_from u i k) are.0 line.0 line.1) in
          let alone = alone-from g a line.0 aim line.2.0 (line.2.1 a aim) in
          absurd (none alone.0 (e, among e has, alone.1))

module _ (rest : RestShown) (made : MadeSafe) (counting : RuleCounting) (D : Parts) (Rs : List Rule) (i : ℕ) (own lines : List CheckFault)
    (valid : IsProfile D) (clean : D.ignore ≡ []) (among : (e : CheckFault) → Contains own e → Contains lines e) (none : HasNoOwnLine lines i) where
  -- Where roots are nested.
  each-kept : AreLinesOfRules D Rs i own → (k : ℕ) (R : Rule) → slice_get Rs k ≡ Some R → ¬ (WideBreach D (forbidden R))
  each-kept n k R at b =
      let w = n.of_rule k (slice_get_within Rs k R at) in
      let same : w.1.rule ≡ R = same_Some w.1.rule R (sym w.1.at ∙ at) in
      let side = side-of D b.0 valid b.3 in
      go w.0 w.2 w.1.lines.at w.1.lines.all side.0 side.1
      (rule_meeting D side.0 R) refl (subst (λ X. AreLinesUnder (rule_meeting D side.0 X) i k (w.1.lines.at side.0)) same (w.1.lines.are side.0))
    where
      go : (mine : List CheckFault) → ((e : CheckFault) → Contains mine e → Contains own e) → (parts : Side → List CheckFault)
          → mine ≡ parts Left ++ parts Right → (a : Side) → at_side D.roots a ≡ Some b.0 → (m : RuleMeeting) → rule_meeting D a R ≡ m
          → AreLinesUnder m i k (parts a) → ⊥
      go mine within parts all a at_a m e are = meet m e are
        where
          in-lines : (f : CheckFault) → Contains (parts a) f → Contains lines f
          in-lines f has = among f (within f (subst (λ es. Contains es f) (sym all) (side a has)))
            where
              side : (a : Side) → Contains (parts a) f → Contains (parts Left ++ parts Right) f
              side Left h = Contains-append_left (parts Left) (parts Right) f h
              side Right h = Contains-append_right (parts Left) (parts Right) f h

          meet : (m : RuleMeeting) → rule_meeting D a R ≡ m → AreLinesUnder m i k (parts a) → ⊥
          meet meets_rule.Apart e are = counting.apart D a b.0 b.1 b.2 R at_a e b.4 b.5 b.7
          meet meets_rule.Unsaid e are =
              none (why.TooLarge k)
              (large_breach i k, in-lines (large_breach i k) (subst (λ es. Contains es (large_breach i k)) (sym are) (cons-here (large_breach i k) (large_breach i k) [] refl)), refl)
          meet (meets_rule.Counted u) e are =
              let safe : IsSafeSet (under u) = made (under u) are.1.valid are.1.apart (ruled-out u i k rest (parts a) lines are in-lines none) in
              safe.no_breach 0 0 u.profile (forbidden u.rule) refl refl (counting.breach D a b.0 b.1 b.2 R u valid clean at_a e b.4 b.5 b.6 b.7)

  -- Where none are.
  flat-kept : nests_rules D Rs ≡ false → AreLinesOfOne D Rs i own → (k : ℕ) (R : Rule) → slice_get Rs k ≡ Some R → ¬ (WideBreach D (forbidden R))
  flat-kept flat are k R at b =
      let side = side-of D b.0 valid b.3 in
      keeps rest made D Rs i own lines valid are among none k R at (subst (λ r. has_root D r ≡ true) (sym root) b.3)
      (b.1, subst (λ r. has_root D r ≡ true) (sym root) b.3, b.5, subst (λ r. may_at D r b.1 R.verb ≡ true) (sym root) b.6, subst (λ q. matches R.spec q ≡ true) (sym rest-is) b.7)
    where
      own-root : nests_any R.root D.roots ≡ false
      own-root =
          let own = none-at (λ X. nests_rule (D ∷ []) Rs X) Rs k R flat at in
          not-true (nests_any R.root D.roots)
          (λ h. false≢true (sym own ∙ or_left (list_any (λ P. nests_any R.root P.roots) (D ∷ [])) (list_any (λ Q. is_nested R.root Q.root) Rs) (or_left (nests_any R.root D.roots) false h)))

      over-root : is_over R.root (b.0 ++ b.1) ≡ true
      over-root = subst (λ t. is_over R.root t ≡ true) (sym b.4) (is_over-append R.root b.2)

      root : R.root ≡ b.0
      root =
          let side = side-of D b.0 valid b.3 in
          not-nested R.root b.0 (nested-at side.0 side.1)
          (⊎_elim (λ o. or_left (is_over R.root b.0) (is_over b.0 R.root) o) (λ o. or_right (is_over R.root b.0) (is_over b.0 R.root) o)
          (is_over-comparable R.root b.0 (b.0 ++ b.1) over-root (is_over-append b.0 b.1)))
        where
          nested-at : (a : Side) → at_side D.roots a ≡ Some b.0 → is_nested R.root b.0 ≡ false
          nested-at Left at_a = none-at (λ s. is_nested R.root s) D.roots 0 b.0 own-root at_a
          nested-at Right at_a = none-at (λ s. is_nested R.root s) D.roots 1 b.0 own-root at_a

      rest-is : b.1 ≡ b.2
      rest-is = same-rest b.0 b.1 b.2 (b.4 ∙ ap (λ r. r ++ b.2) root)

  pub keeps-wide : AreLinesBeside D Rs i own → (k : ℕ) (R : Rule) → slice_get Rs k ≡ Some R → ¬ (WideBreach D (forbidden R))
  keeps-wide (inl nested) k R at = each-kept nested.1 k R at
  keeps-wide (inr flat) k R at = flat-kept flat.0 flat.1 k R at

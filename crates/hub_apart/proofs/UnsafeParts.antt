-- A line in Unison that shows a path is one of an unsafe set.
use Rattle.std.proofs.Common.{◌≡◌, ◌∙◌, ◌⊎◌, inl, inr, ⊎_elim, ℕ, true, false, List, [], ◌∷◌, ◌++◌, map, Some, refl, sym, ap, subst, arith}
use Rattle.std.specs.Prelude.{Contains, slice_get}
use Rattle.std.proofs.lemmas.Bool.{false≢true}
use Rattle.std.proofs.lemmas.List.Elements.{Contains-append_cases}
use Rattle.hub_text.specs.laws.List.{cons-cases, cons-here, cons-there}
use Rattle.hub_profile.specs.Parts.{Parts}
use Rattle.hub_profile.specs.declared.rule.Rule.{Rule}
use Rattle.hub_cert.specs.Set.{IsSafeSet, Members}
use Rattle.hub_cert.specs.declared.fault.CheckFault.{CheckFault}
use Rattle.hub_cert.specs.declared.fault.CheckFault.TheVariants as fault
use Rattle.hub_search.specs.Faults.{AreFaults}
use Rattle.hub_search.specs.Search.{Disproves}
use Rattle.hub_path.specs.declared.side.Side.{Side}
use Rattle.hub_path.specs.declared.side.Side.TheVariants.{Left, Right}
use Rattle.hub_nested.specs.Meeting.{meeting, rule_meeting}
use Rattle.hub_nested.specs.declared.meeting.Meeting.{Meeting}
use Rattle.hub_nested.specs.declared.meeting.Meeting.TheVariants as meets
use Rattle.hub_nested.specs.declared.meeting.Together.{Together}
use Rattle.hub_nested.specs.declared.rule_meeting.RuleMeeting.{RuleMeeting}
use Rattle.hub_nested.specs.declared.rule_meeting.RuleMeeting.TheVariants as meets_rule
use Rattle.hub_nested.specs.declared.rule_meeting.Under.{Under}
use Rattle.hub_apart.specs.ApartLines.{AreLinesOf, line_among, nested_line, set_of_one, set_of_two}
use Rattle.hub_apart.specs.NestedLines.{AreLinesAt, AreLinesBeside, AreLinesOfNear, AreLinesOfNested, AreLinesOfRules, AreLinesUnder, HasLinesBeside, HasLinesOfNear, breach_from, large_breach, line_from, together, under}
use Rattle.hub_apart.specs.UnisonLines.{AreLinesInUnison, beside, cautious}
use Rattle.hub_apart.specs.UnsafeParts.{HasUnsafePart, shows_path}

-- What the faults of a set show.
abbrev pub Disproved : Type 0
Disproved = (S : Members) (es : List CheckFault) (e : CheckFault) → AreFaults S es → Contains es e → Disproves S e

-- What a function makes of the items of a list.
from-map : {X Y : Type 0} (f : X → Y) (xs : List X) (y : Y) → Contains (map f xs) y → (x : X) × Contains xs x × (f x ≡ y)
from-map f [] y m = let l = m.1 in absurd (omega (arith, l))
from-map f (x ∷ xs) y m = ⊎_elim
    (λ here. (x, cons-here x x xs refl, here))
    (λ there. let w = from-map f xs y there in (w.0, cons-there x w.0 xs w.1, w.2))
    (cons-cases (f x) y (map f xs) m)

-- A line with other numbers shows what the line shows.
not-safe : (S : Members) (i j : ℕ) (e : CheckFault) → shows_path (line_among i j e) ≡ true → Disproves S e → IsSafeSet S → ⊥
not-safe S i j (fault.Overlap w o place held path) shows disproves = disproves
not-safe S i j (fault.Breach p r path) shows disproves = disproves
not-safe S i j _ shows disproves = absurd (false≢true shows)

module _ (disproved : Disproved) where
  of-set : (S : Members) (i j : ℕ) (own : List CheckFault) (e : CheckFault) → AreLinesOf S i j own → Contains own e → shows_path e ≡ true
      → IsSafeSet S → ⊥
  of-set S i j own e are has shows =
      let w = from-map (line_among i j) are.0 e (subst (λ es. Contains es e) are.2 has) in
      not-safe S i j w.0 (ap shows_path w.2 ∙ shows) (disproved S are.0 w.0 are.1 w.1)

  -- The line of nested roots, and that of a set that is too large, show no path.
  only : (f : CheckFault) → shows_path f ≡ false → (e : CheckFault) → Contains (f ∷ []) e → shows_path e ≡ true → ⊥
  only f none e has shows = ⊎_elim
      (λ here. false≢true (sym none ∙ (ap shows_path here ∙ shows)))
      (λ there. let l = there.1 in absurd (omega (arith, l)))
      (cons-cases f e [] has)

  -- A line counted from another root shows what the line shows.
  not-safe-from : (t : Together) (i j : ℕ) (e : CheckFault) → shows_path (line_from t i j e) ≡ true → Disproves (together t) e → IsSafeSet (together t) → ⊥
  not-safe-from t i j (fault.Overlap w o place held path) shows disproves = disproves
  not-safe-from t i j (fault.Breach p r path) shows disproves = disproves
  not-safe-from t i j _ shows disproves = absurd (false≢true shows)

  not-safe-under : (u : Under) (i k : ℕ) (e : CheckFault) → shows_path (breach_from u i k e) ≡ true → Disproves (under u) e → IsSafeSet (under u) → ⊥
  not-safe-under u i k (fault.Overlap w o place held path) shows disproves = disproves
  not-safe-under u i k (fault.Breach p r path) shows disproves = disproves
  not-safe-under u i k _ shows disproves = absurd (false≢true shows)

  at-roots : (P Q : Parts) (i j : ℕ) (a b : Side) (own : List CheckFault) (e : CheckFault) → AreLinesAt (meeting P a Q b) i j own → Contains own e
      → shows_path e ≡ true → (t : Together) × (meeting P a Q b ≡ meets.Counted t) × (IsSafeSet (together t) → ⊥)
  at-roots P Q i j a b own e are has shows = go (meeting P a Q b) refl are
    where
      go : (m : Meeting) → meeting P a Q b ≡ m → AreLinesAt m i j own → (t : Together) × (meeting P a Q b ≡ meets.Counted t) × (IsSafeSet (together t) → ⊥)
      go meets.Apart is lines = let m = subst (λ es. Contains es e) lines has in let l = m.1 in absurd (omega (arith, l))
      go meets.Unsaid is lines = absurd (only (nested_line i j) refl e (subst (λ es. Contains es e) lines has) shows)
      go (meets.Counted t) is lines =
          let w = from-map (line_from t i j) lines.0 e (subst (λ es. Contains es e) lines.2 has) in
          (t, is, not-safe-from t i j w.0 (ap shows_path w.2 ∙ shows) (disproved (together t) lines.0 w.0 lines.1.faults w.1))

  at-rule : (P : Parts) (R : Rule) (i k : ℕ) (a : Side) (own : List CheckFault) (e : CheckFault) → AreLinesUnder (rule_meeting P a R) i k own → Contains own e
      → shows_path e ≡ true → (u : Under) × (rule_meeting P a R ≡ meets_rule.Counted u) × (IsSafeSet (under u) → ⊥)
  at-rule P R i k a own e are has shows = go (rule_meeting P a R) refl are
    where
      go : (m : RuleMeeting) → rule_meeting P a R ≡ m → AreLinesUnder m i k own
          → (u : Under) × (rule_meeting P a R ≡ meets_rule.Counted u) × (IsSafeSet (under u) → ⊥)
      go meets_rule.Apart is lines = let m = subst (λ es. Contains es e) lines has in let l = m.1 in absurd (omega (arith, l))
      go meets_rule.Unsaid is lines = absurd (only (large_breach i k) refl e (subst (λ es. Contains es e) lines has) shows)
      go (meets_rule.Counted u) is lines =
          let w = from-map (breach_from u i k) lines.0 e (subst (λ es. Contains es e) lines.2 has) in
          (u, is, not-safe-under u i k w.0 (ap shows_path w.2 ∙ shows) (disproved (under u) lines.0 w.0 lines.1.faults w.1))

  -- A line of nested roots is one of two of them.
  of-side : (P Q : Parts) (i j : ℕ) (own : List CheckFault) (e : CheckFault) → (n : AreLinesOfNested P Q i j own) → Contains own e
      → (a : Side) × (b : Side) × Contains (n.at a b) e
  of-side P Q i j own e n has = ⊎_elim
      (λ three. ⊎_elim
      (λ two. ⊎_elim (λ x. (Left, Left, x)) (λ x. (Left, Right, x)) (Contains-append_cases (n.at Left Left) (n.at Left Right) e two))
      (λ x. (Right, Left, x))
      (Contains-append_cases (n.at Left Left ++ n.at Left Right) (n.at Right Left) e three))
      (λ x. (Right, Right, x))
      (Contains-append_cases ((n.at Left Left ++ n.at Left Right) ++ n.at Right Left) (n.at Right Right) e (subst (λ es. Contains es e) n.all has))

  of-two : (Ps : List Parts) (Rs : List Rule) (i j : ℕ) (own : List CheckFault) (e : CheckFault) → HasLinesOfNear (cautious Ps) i j own
      → Contains own e → shows_path e ≡ true → HasUnsafePart Ps Rs
  of-two Ps Rs i j own e h has shows = go h.lines
    where
      go : AreLinesOfNear h.first h.second i j own → HasUnsafePart Ps Rs
      go (inl nested) =
          let s = of-side h.first h.second i j own e nested.1 has in
          let w = at-roots h.first h.second i j s.0 s.1 (nested.1.at s.0 s.1) e (nested.1.are s.0 s.1) s.2 shows in (
            together w.0,
            inl (inr (record {
              i = i;
              j = j;
              first = h.first;
              second = h.second;
              before = h.before;
              at_first = h.at_first;
              at_second = h.at_second;
              a = s.0;
              b = s.1;
              both = w.0;
              meets = w.1;
              is = refl;
            })),
            w.2,
          )
      go (inr apart) = (
        set_of_two h.first h.second,
        inl (inl (i, j, h.first, h.second, h.before, h.at_first, h.at_second, apart.0, refl)),
        of-set (set_of_two h.first h.second) i j own e apart.1 has shows,
      )

  of-one : (Ps : List Parts) (Rs : List Rule) (i : ℕ) (own : List CheckFault) (e : CheckFault) → HasLinesBeside (beside Rs Ps) Rs i own
      → Contains own e → shows_path e ≡ true → HasUnsafePart Ps Rs
  of-one Ps Rs i own e h has shows = go h.lines
    where
      side : (k : ℕ) (R : Rule) (at : Side → List CheckFault) → slice_get Rs k ≡ Some R
          → ((a : Side) → AreLinesUnder (rule_meeting h.profile a R) i k (at a)) → (a : Side) → Contains (at a) e → HasUnsafePart Ps Rs
      side k R at at_rule are a inside =
          let w = at-rule h.profile R i k a (at a) e (are a) inside shows in (
            under w.0,
            inr (inr (record {
              i = i;
              k = k;
              profile = h.profile;
              rule = R;
              at = h.at;
              at_rule = at_rule;
              a = a;
              both = w.0;
              meets = w.1;
              is = refl;
            })),
            w.2,
          )

      go : AreLinesBeside h.profile Rs i own → HasUnsafePart Ps Rs
      go (inl nested) =
          let w = nested.1.each e has in
          ⊎_elim
          (λ left. side w.2.0 w.2.1.rule w.2.1.lines.at w.2.1.at w.2.1.lines.are Left left)
          (λ right. side w.2.0 w.2.1.rule w.2.1.lines.at w.2.1.at w.2.1.lines.are Right right)
          (Contains-append_cases (w.2.1.lines.at Left) (w.2.1.lines.at Right) e (subst (λ es. Contains es e) w.2.1.lines.all w.1))
      go (inr flat) = (
        set_of_one h.profile Rs,
        inr (inl (i, h.profile, h.at, refl)),
        of-set (set_of_one h.profile Rs) i i own e flat.1 has shows,
      )

  pub shown : (Ps : List Parts) (Rs : List Rule) (es : List CheckFault) (e : CheckFault) → AreLinesInUnison Ps Rs es → Contains es e
      → shows_path e ≡ true → HasUnsafePart Ps Rs
  shown Ps Rs es e are has shows = ⊎_elim
      (λ two. let w = are.two.each e two in of-two Ps Rs w.2.0 w.2.1 w.0 e w.2.3 w.1 shows)
      (λ one. let w = are.one.each e one in of-one Ps Rs w.2.0 w.0 e w.2.1 w.1 shows)
      (Contains-append_cases are.of_pairs are.of_each e (subst (λ xs. Contains xs e) are.all has))

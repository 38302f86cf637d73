-- Breaches of a rule, counted from the upper root.
use Rattle.std.proofs.Common.{◌≡◌, ◌==◌, ⊎_elim, cond, Bool, true, false, not, ◌&&◌, ◌||◌, List, [], ◌∷◌, ◌++◌, length, drop, Some, refl, sym, ap, ◌∙◌, subst, append-nil, append_assoc}
use Rattle.std.specs.Prelude.{IsTrue, if◌then◌else◌}
use Rattle.std.specs.List.{filter, list_any}
use Rattle.std.proofs.lemmas.Bool.{and_parts, or_parts}
use Rattle.hub_text.specs.laws.Test.{or-then}
use Rattle.hub_path.specs.Path.{Path, is_over}
use Rattle.hub_path.specs.declared.side.Side.{Side}
use Rattle.hub_path.specs.laws.General.{is_over-append, is_over-comparable, is_over-reflexive, is_over-rest}
use Rattle.hub_glob.specs.Glob.{by_kind, matches}
use Rattle.hub_glob.specs.Specification.{Specification}
use Rattle.hub_glob.specs.laws.OneStep.{nonzero}
use Rattle.hub_profile.specs.Parts.{IsProfile, Parts, at_side}
use Rattle.hub_profile.specs.declared.rule.Rule.{Rule}
use Rattle.hub_reach.specs.Reach.{may_at, reach}
use Rattle.hub_reach.specs.Safe.{Breach}
use Rattle.hub_reach.specs.laws.General.{reach-below, reach-is_path, reach-open}
use Rattle.hub_unison.specs.ReadingOf.{is_read_back}
use Rattle.hub_unison.specs.Rules.{forbidden}
use Rattle.hub_nested.specs.Lifted.{can_be_below, can_be_said, lifted_rule, lifted_spec, only_below, paths_below, said_from}
use Rattle.hub_nested.specs.Meeting as said
use Rattle.hub_nested.specs.Meeting.{names_down, over_rule, rule_meeting_at, rule_meeting_of, under_rule}
use Rattle.hub_nested.specs.Placed.{asides, placed}
use Rattle.hub_nested.specs.declared.rule_meeting.RuleMeeting.{RuleMeeting}
use Rattle.hub_nested.specs.declared.rule_meeting.RuleMeeting.TheVariants as meets_rule
use Rattle.hub_nested.specs.declared.rule_meeting.Under.{Under}
use Rattle.hub_nested.proofs.Asides.{first-other}
use Rattle.hub_nested.proofs.Clashing.{down-place, roots-meet}
use Rattle.hub_nested.proofs.Fronts.{lifted-matches}
use Rattle.hub_nested.proofs.Reaching.{reach-placed, reach-said, some-name}
use Rattle.hub_nested.proofs.Writing.{has-placed, may-below, may-said, root-place}

drop-own : (u q : Path) → drop (length u) (u ++ q) ≡ q
drop-own [] q = refl
drop-own (n ∷ u) q = drop-own u q

-- What comes after one path is the same.
same-rest : (u p q : Path) → u ++ p ≡ u ++ q → p ≡ q
same-rest u p q e = sym (drop-own u p) ∙ (ap (drop (length u)) e ∙ drop-own u q)

-- Of values of which none is over x, those below x are over what the others are over, below x.
filter-some : (x q : Path) (vs : List Path) → list_any (λ v. is_over v x) vs ≡ false
    → list_any (λ v. is_over v (x ++ q)) vs ≡ true → list_any (λ v. is_over v (x ++ q)) (filter (λ v. is_over x v) vs) ≡ true
filter-some x q [] none h = cc
filter-some x q (v ∷ vs) none h =
    let two = or_parts (is_over v x) (list_any (λ w. is_over w x) vs) none in
    go (is_over x v) refl two.0 (filter-some x q vs two.1)
  where
    rest : (b : Bool) → is_over v (x ++ q) ≡ b → is_over x v ≡ false → is_over v x ≡ false
        → list_any (λ w. is_over w (x ++ q)) vs ≡ true
    rest true e away other =
        ⊎_elim (λ (over : is_over v x ≡ true). let no : false ≡ true = sym other ∙ over in cc)
        (λ (over : is_over x v ≡ true). let no : false ≡ true = sym away ∙ over in cc)
        (is_over-comparable v x (x ++ q) e (is_over-append x q))
    rest false e away other = sym (ap (λ b. b || list_any (λ w. is_over w (x ++ q)) vs) e) ∙ h

    go : (c : Bool) → is_over x v ≡ c → is_over v x ≡ false
        → (list_any (λ w. is_over w (x ++ q)) vs ≡ true
        → list_any (λ w. is_over w (x ++ q)) (filter (λ w. is_over x w) vs) ≡ true)
        → list_any (λ w. is_over w (x ++ q)) (cond c (v ∷ filter (λ w. is_over x w) vs) (filter (λ w. is_over x w) vs)) ≡ true
    go true e other later =
        or-then (is_over v (x ++ q)) (list_any (λ w. is_over w (x ++ q)) vs)
        (list_any (λ w. is_over w (x ++ q)) (filter (λ w. is_over x w) vs)) h later
    go false e other later = later (rest (is_over v (x ++ q)) refl e other)

below-some : (x q : Path) (vs : List Path) → list_any (λ v. is_over v (x ++ q)) vs ≡ true
    → list_any (λ v. is_over v (x ++ q)) (paths_below x vs) ≡ true
below-some x q vs h = go (list_any (λ v. is_over v x) vs) refl
  where
    go : (b : Bool) → list_any (λ v. is_over v x) vs ≡ b
        → list_any (λ v. is_over v (x ++ q)) (if b then x ∷ [] else filter (λ v. is_over x v) vs) ≡ true
    go true e = ap (λ b. b || false) (is_over-append x q)
    go false e = filter-some x q vs e h

has-some : (f : Path → Bool) (vs : List Path) → list_any f vs ≡ true → (length vs == 0) ≡ false
has-some f [] h = cc
has-some f (v ∷ vs) h = nonzero (length vs)

-- A profile that reaches a path below x keeps something there.
kept-below : (P : Parts) (x q : Path) → IsTrue (reach P (x ++ q)) → (length (paths_below x P.paths) == 0) ≡ false
kept-below P x q h =
    has-some (λ v. is_over v (x ++ q)) (paths_below x P.paths) (below-some x q P.paths (reach-below P (x ++ q) h))

reach-kept : (P : Parts) (x q : Path) → P.ignore ≡ [] → IsTrue (reach P (x ++ q)) → IsTrue (reach (only_below x P) (x ++ q))
reach-kept P x q none h =
    reach-open (only_below x P) (x ++ q) none
    ∙ (λ i. reach-is_path P (x ++ q) h i && below-some x q P.paths (reach-below P (x ++ q) h) i)

-- Nothing without names is matched.
matched-some : (s : Specification) (q : Path) → IsTrue (matches s q) → not (length q == 0) ≡ true
unfolding matches
matched-some s q h = (and_parts (not (length q == 0)) (by_kind s.kind s.pattern q) h).0

module _ (P : Parts) (a : Side) (r p q : Path) (R : Rule) (at_a : at_side P.roots a ≡ Some r) where
  rule-at : said.rule_meeting P a R ≡ rule_meeting_at P a r R
  rule-at = (λ i. rule_meeting_of P a (at_a i) R)

  abbrev down : Path
  down = names_down R.root r

  abbrev up : Path
  up = names_down r R.root

  abbrev under : Under
  under = record { profile = placed a R.root (asides R.root).0 (said_from down P); rule = R; names = 0 }

  abbrev over : Under
  over = record {
    profile = placed a r (asides r).0 (only_below up P);
    rule = lifted_rule r up R;
    names = length up;
  }

  abbrev by : Bool → Bool → RuleMeeting
  by c d =
      if c then under_rule P a down R else (if d then over_rule P a r up R else meets_rule.Apart)

  not-apart : (c : Bool) (u : Under) → (if c then meets_rule.Counted u else meets_rule.Unsaid) ≡ meets_rule.Apart → false ≡ true
  not-apart true u e = cc
  not-apart false u e = cc

  counted : (c : Bool) (own u : Under) → (if c then meets_rule.Counted own else meets_rule.Unsaid) ≡ meets_rule.Counted u → own ≡ u
  counted true own u e = cc
  counted false own u e = cc

  over-counted : (b c : Bool) (own u : Under)
      → (if b then meets_rule.Apart else (if c then meets_rule.Counted own else meets_rule.Unsaid)) ≡ meets_rule.Counted u → own ≡ u
  over-counted true c own u e = cc
  over-counted false c own u e = counted c own u e

  module _ (so : r ++ p ≡ R.root ++ q) (reached : IsTrue (reach P p)) where
    below-own : is_over R.root r ≡ true → down ++ p ≡ q
    below-own h =
        same-rest R.root (down ++ p) q
        (sym (append_assoc R.root down p) ∙ (sym (ap (λ t. t ++ p) (is_over-rest R.root r h)) ∙ so))

    below-up : is_over r R.root ≡ true → p ≡ up ++ q
    below-up h =
        same-rest r p (up ++ q) (so ∙ (ap (λ t. t ++ q) (is_over-rest r R.root h) ∙ append_assoc r up q))

    apart-at : (c d : Bool) → is_over R.root r ≡ c → is_over r R.root ≡ d → by c d ≡ meets_rule.Apart → false ≡ true
    apart-at true d h k e =
        not-apart (can_be_said down P && is_read_back R.spec && not (length R.root == 0)) under e
    apart-at false true h k e =
        let some = kept-below P up q (subst (λ t. IsTrue (reach P t)) (below-up k) reached) in
        not-apart (can_be_below up P && is_read_back (lifted_spec up R.spec)) over
        (sym (ap (λ b. if b then meets_rule.Apart
        else (if can_be_below up P && is_read_back (lifted_spec up R.spec) then meets_rule.Counted over else meets_rule.Unsaid)) some) ∙ e)
    apart-at false false h k e =
        ⊎_elim (λ (one : is_over r R.root ≡ true). sym k ∙ one) (λ (two : is_over R.root r ≡ true). sym h ∙ two)
        (roots-meet r R.root p q (subst (λ t. IsTrue (is_over (r ++ p) t)) so (is_over-reflexive (r ++ p))))

    pub no-breach : said.rule_meeting P a R ≡ meets_rule.Apart → ⊥
    no-breach e =
        let no : false ≡ true = apart-at (is_over R.root r) (is_over r R.root) refl refl (sym rule-at ∙ e) in cc

    module _ (own : IsProfile P) (none : P.ignore ≡ []) (may : IsTrue (may_at P r p R.verb)) (hit : IsTrue (matches R.spec q)) where
      under-breach : is_over R.root r ≡ true → Breach under.profile (forbidden R)
      under-breach h =
          let place = down-place R.root r down (is_over-rest R.root r h) (root-place a P.roots r own.roots at_a) in (
            down ++ p,
            has-placed a R.root (asides R.root).0 (said_from down P),
            reach-placed a R.root (asides R.root).0 (said_from down P) (down ++ p) ∙ reach-said down P p place reached,
            may-said P a r R.root (asides R.root).0 own.roots at_a (first-other R.root) down p R.verb (some-name P p reached) ∙ may,
            ap (matches R.spec) (below-own h) ∙ hit,
          )

      -- Below x, where x has names.
      may-at : (x t : Path) → not (length x == 0) ≡ true → not (length t == 0) ≡ true → p ≡ x ++ t
          → IsTrue (may_at (placed a r (asides r).0 (only_below x P)) r (x ++ t) R.verb)
      may-at [] t some more e = let no : false ≡ true = some in cc
      may-at (n ∷ x) [] some more e = let no : false ≡ true = more in cc
      may-at (n ∷ x) (m ∷ t) some more e =
          may-below P a r r (asides r).0 own.roots at_a (first-other r) n x m t R.verb
          ∙ subst (λ z. IsTrue (may_at P r z R.verb)) e may

      hit-at : (x t : Path) → not (length x == 0) ≡ true → not (length t == 0) ≡ true → IsTrue (matches R.spec t)
          → IsTrue (matches (lifted_spec x R.spec) (x ++ t))
      hit-at [] t some more e = let no : false ≡ true = some in cc
      hit-at (n ∷ x) [] some more e = let no : false ≡ true = more in cc
      hit-at (n ∷ x) (m ∷ t) some more e = lifted-matches n x R.spec m t ∙ e

      up-some : (x : Path) → R.root ≡ r ++ x → is_over R.root r ≡ false → not (length x == 0) ≡ true
      up-some [] e away =
          let same : R.root ≡ r = e ∙ append-nil r in
          let yes : is_over R.root r ≡ true = subst (λ t. is_over R.root t ≡ true) same (is_over-reflexive R.root) in
          let no : true ≡ false = sym yes ∙ away in cc
      up-some (n ∷ x) e away = ap not (nonzero (length x))

      over-breach : is_over R.root r ≡ false → is_over r R.root ≡ true → Breach over.profile (forbidden over.rule)
      over-breach away h =
          let some = up-some up (is_over-rest r R.root h) away in
          let more = matched-some R.spec q hit in (
            up ++ q,
            has-placed a r (asides r).0 (only_below up P),
            reach-placed a r (asides r).0 (only_below up P) (up ++ q)
                ∙ reach-kept P up q none (subst (λ t. IsTrue (reach P t)) (below-up h) reached),
            may-at up q some more (below-up h),
            hit-at up q some more hit,
          )

      breach-at : (u : Under) (c d : Bool) → is_over R.root r ≡ c → is_over r R.root ≡ d → by c d ≡ meets_rule.Counted u
          → Breach u.profile (forbidden u.rule)
      breach-at u true d h k e =
          subst (λ (z : Under). Breach z.profile (forbidden z.rule))
          (counted (can_be_said down P && is_read_back R.spec && not (length R.root == 0)) under u e) (under-breach h)
      breach-at u false true h k e =
          subst (λ (z : Under). Breach z.profile (forbidden z.rule))
          (over-counted (length (paths_below up P.paths) == 0) (can_be_below up P && is_read_back (lifted_spec up R.spec)) over u e)
          (over-breach h k)
      breach-at u false false h k e = cc

      pub breach-said : (u : Under) → said.rule_meeting P a R ≡ meets_rule.Counted u → Breach u.profile (forbidden u.rule)
      breach-said u e = breach-at u (is_over R.root r) (is_over r R.root) refl refl (sym rule-at ∙ e)

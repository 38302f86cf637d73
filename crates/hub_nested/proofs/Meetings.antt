-- What the code says of a meeting.
use Rattle.std.proofs.Common.{◌≡◌, ◌≢◌, ◌==◌, ℕ, Bool, true, false, not, ◌&&◌, List, [], ◌∷◌, length, Option, Some, None, refl, sym, ap, ◌∙◌, subst, ne_eqb}
use Rattle.std.specs.Prelude.{if◌then◌else◌}
use Rattle.std.proofs.Math.Bool.{and-false}
use Rattle.std.proofs.lemmas.Option.{same_Some}
use Rattle.hub_path.specs.Path.{Path, is_over, is_path, is_place}
use Rattle.hub_path.specs.declared.side.Side.{Side}
use Rattle.hub_glob.specs.Specification.{Specification}
use Rattle.hub_profile.specs.Facts.{are_roots}
use Rattle.hub_profile.specs.Parts.{Parts, at_side}
use Rattle.hub_profile.specs.declared.rule.Rule.{Rule}
use Rattle.hub_unison.specs.ReadingOf.{is_read_back, read_back}
use Rattle.hub_nested.specs.Lifted.{can_be_below, can_be_said, lifted_rule, lifted_spec, only_below, paths_below, said_from}
use Rattle.hub_nested.specs.Meeting as said
use Rattle.hub_nested.specs.Meeting.{both_at, meeting_at, meeting_of, names_down, over_rule, rule_meeting_at, rule_meeting_of, under_rule}
use Rattle.hub_nested.specs.Placed.{asides, placed, two_roots}
use Rattle.hub_nested.specs.Said.{upper_of}
use Rattle.hub_nested.specs.declared.meeting.Meeting.TheVariants as meets
use Rattle.hub_nested.specs.declared.rule_meeting.RuleMeeting.TheVariants as meets_rule
use Rattle.hub_nested.specs.declared.rule_meeting.Under.{Under}
use Rattle.hub_nested.proofs.Asides.{first-roots, second-roots}
use Rattle.hub_nested.proofs.SaidParts.{none-if, some-if}

no : {u : Path} → None ≡ Some u → ⊥
no e = cc

-- The upper root of two is a path.
pub upper-path : (r s u : Path) (o : Option Path) → o ≡ Some u → o ≡ upper_of r s → is_path r ≡ true → is_path s ≡ true → is_path u ≡ true
upper-path r s u o is e one two = go (is_over r s) (is_over s r) (sym e ∙ is)
  where
    go : (c d : Bool) → (if c then Some r else (if d then Some s else None)) ≡ Some u → is_path u ≡ true
    go true d at = sym (ap is_path (same_Some r u at)) ∙ one
    go false true at = sym (ap is_path (same_Some s u at)) ∙ two
    go false false at = absurd (no at)

-- The roots of both.
pub one-roots : (a : Side) (u one two : Path) → is_path u ≡ true → (one, two) ≡ asides u → are_roots (two_roots a u one) ≡ true
one-roots a u one two path e =
    subst (λ t. are_roots (two_roots a u t) ≡ true) (sym (ap (λ (w : Path × Path). w.0) e)) (first-roots a u path)

pub two-roots : (a : Side) (u one two : Path) → is_path u ≡ true → (one, two) ≡ asides u → are_roots (two_roots a u two) ≡ true
two-roots a u one two path e =
    subst (λ t. are_roots (two_roots a u t) ≡ true) (sym (ap (λ (w : Path × Path). w.1) e)) (second-roots a u path)

own-down : (r : Path) → names_down r r ≡ []
own-down [] = refl
own-down (n ∷ r) = own-down r

-- Profiles meet at the upper root.
pub meets-upper : (P Q : Parts) (a b : Side) (r s u x y : Path) (o : Option Path) → at_side P.roots a ≡ Some r → at_side Q.roots b ≡ Some s
    → o ≡ Some u → o ≡ upper_of r s → x ≡ names_down u r → y ≡ names_down u s → said.meeting P a Q b ≡ both_at u P a x Q b y
meets-upper P Q a b r s u x y o at_a at_b is e x_is y_is =
    (λ i. meeting_of P a (at_a i) Q b (at_b i)) ∙ go (is_over r s) (is_over s r) (sym e ∙ is)
  where
    at : (t : Path) → t ≡ u → (v w : Path) → v ≡ names_down t r → w ≡ names_down t s
        → both_at t P a v Q b w ≡ both_at u P a x Q b y
    at t same v w v_is w_is =
        (λ i. both_at (same i) P a ((v_is ∙ (ap (λ z. names_down z r) same ∙ sym x_is)) i) Q b
        ((w_is ∙ (ap (λ z. names_down z s) same ∙ sym y_is)) i))

    go : (c d : Bool) → (if c then Some r else (if d then Some s else None)) ≡ Some u
        → (if c then both_at r P a [] Q b (names_down r s)
        else (if d then both_at s P a (names_down s r) Q b [] else meets.Apart)) ≡ both_at u P a x Q b y
    go true d at_u = at r (same_Some r u at_u) [] (names_down r s) (sym (own-down r)) refl
    go false true at_u = at s (same_Some s u at_u) (names_down s r) [] refl (sym (own-down s))
    go false false at_u = absurd (no at_u)

module _ (u : Path) (P Q : Parts) (a b : Side) (x y : Path) where
  pub unsaid-first : can_be_said x P ≡ false → meets.Unsaid ≡ both_at u P a x Q b y
  unsaid-first h =
      (λ i. if (sym h i && can_be_said y Q)
      then meets.Counted (record {
        first = placed a u (asides u).0 (said_from x P);
        second = placed b u (asides u).1 (said_from y Q);
        first_names = length x;
        second_names = length y;
      })
      else meets.Unsaid)

  pub unsaid-second : can_be_said y Q ≡ false → meets.Unsaid ≡ both_at u P a x Q b y
  unsaid-second h =
      (λ i. if (sym (ap (λ c. can_be_said x P && c) h ∙ and-false (can_be_said x P)) i)
      then meets.Counted (record {
        first = placed a u (asides u).0 (said_from x P);
        second = placed b u (asides u).1 (said_from y Q);
        first_names = length x;
        second_names = length y;
      })
      else meets.Unsaid)

  pub counted-both : (one two : Path) (first second : Parts) (o n : Option Parts) (k l : ℕ) → (one, two) ≡ asides u
      → o ≡ Some first → o ≡ (if can_be_said x P then Some (placed a u one (said_from x P)) else None)
      → n ≡ Some second → n ≡ (if can_be_said y Q then Some (placed b u two (said_from y Q)) else None)
      → k ≡ length x → l ≡ length y
      → meets.Counted (record { first = first; second = second; first_names = k; second_names = l }) ≡ both_at u P a x Q b y
  counted-both one two first second o n k l beside o_is o_e n_is n_e k_is l_is =
      let w = some-if (can_be_said x P) (placed a u one (said_from x P)) first o o_is o_e in
      let z = some-if (can_be_said y Q) (placed b u two (said_from y Q)) second n n_is n_e in
      (λ i. if (sym w.0 i && sym z.0 i)
      then meets.Counted (record {
        first = (w.1 ∙ ap (λ (t : Path × Path). placed a u t.0 (said_from x P)) beside) i;
        second = (z.1 ∙ ap (λ (t : Path × Path). placed b u t.1 (said_from y Q)) beside) i;
        first_names = k_is i;
        second_names = l_is i;
      })
      else meets.Unsaid)

-- A profile that is placed.
pub placed-some : (a : Side) (u root aside x : Path) (P said_p all : Parts) (o : Option Parts) → root ≡ u → o ≡ Some said_p
    → o ≡ (if can_be_said x P then Some (said_from x P) else None) → all ≡ placed a root aside said_p
    → Some all ≡ (if can_be_said x P then Some (placed a u aside (said_from x P)) else None)
placed-some a u root aside x P said_p all o same is e made =
    let w = some-if (can_be_said x P) (said_from x P) said_p o is e in
    (λ i. if (sym w.0 i) then Some ((made ∙ (λ j. placed a (same j) aside (w.1 j))) i) else None)

-- A root that isn't the top of the file system.
pub some-path : (r t : Path) (n : ℕ) → t ≡ r → n ≡ length t → n ≢ 0 → is_place t ≡ true → is_path r ≡ true
some-path r t n same long some place =
    subst (λ z. is_path z ≡ true) same (λ i. not ((ap (λ k. k == 0) (sym long) ∙ ne_eqb n 0 some) i) && place i)

-- A profile below a rule's root.
module _ (P : Parts) (a : Side) (x : Path) (R : Rule) where
  under-none : (can_be_said x P && is_read_back R.spec && not (length R.root == 0)) ≡ false → meets_rule.Unsaid ≡ under_rule P a x R
  under-none none =
      (λ i. if (sym none i)
      then meets_rule.Counted (record {
        profile = placed a R.root (asides R.root).0 (said_from x P);
        rule = R;
        names = 0;
      })
      else meets_rule.Unsaid)

  pub top-unsaid : (t : Path) (n : ℕ) → t ≡ R.root → n ≡ length t → n ≡ 0 → meets_rule.Unsaid ≡ under_rule P a x R
  top-unsaid t n same long none =
      let top : (length R.root == 0) ≡ true = (λ i. (ap length (sym same) ∙ (sym long ∙ none)) i == 0) in
      under-none
      ((λ i. (can_be_said x P && is_read_back R.spec) && not (top i)) ∙ and-false (can_be_said x P && is_read_back R.spec))

  pub said-unsaid : (o : Option Parts) → o ≡ None → o ≡ (if can_be_said x P then Some (said_from x P) else None)
      → meets_rule.Unsaid ≡ under_rule P a x R
  said-unsaid o is e =
      let unsaid = none-if (can_be_said x P) (said_from x P) o is e in
      under-none (λ i. (unsaid i && is_read_back R.spec) && not (length R.root == 0))

  pub under-unsaid : (o : Option Specification) → o ≡ None → o ≡ read_back R.spec → meets_rule.Unsaid ≡ under_rule P a x R
  under-unsaid o is e =
      let unread = none-if (is_read_back R.spec) R.spec o is e in
      under-none
      ((λ i. (can_be_said x P && unread i) && not (length R.root == 0))
      ∙ (λ i. and-false (can_be_said x P) i && not (length R.root == 0)))

  pub under-counted : (root t : Path) (n : ℕ) (made : Parts) (spec : Specification) (u : Under) (o : Option Parts) (s : Option Specification)
      → o ≡ Some made → o ≡ (if can_be_said x P then Some (said_from x P) else None)
      → s ≡ Some spec → s ≡ read_back R.spec → root ≡ R.root → t ≡ R.root → n ≡ length t → n ≢ 0
      → u ≡ record {
        profile = placed a R.root (asides R.root).0 made;
        rule = record { root = root; verb = R.verb; spec = spec };
        names = 0;
      }
      → meets_rule.Counted u ≡ under_rule P a x R
  under-counted root t n made spec u o s o_is o_e s_is s_e root_is t_is long some u_is =
      let w = some-if (can_be_said x P) (said_from x P) made o o_is o_e in
      let z = some-if (is_read_back R.spec) R.spec spec s s_is s_e in
      let named : not (length R.root == 0) ≡ true =
      ap not (ap (λ k. length k == 0) (sym t_is) ∙ (ap (λ k. k == 0) (sym long) ∙ ne_eqb n 0 some)) in
      ap (λ v. meets_rule.Counted v) u_is
      ∙ (λ i. if ((sym w.0 i && sym z.0 i) && sym named i)
      then meets_rule.Counted (record {
        profile = placed a R.root (asides R.root).0 (w.1 i);
        rule = record { root = root_is i; verb = R.verb; spec = z.1 i };
        names = 0;
      })
      else meets_rule.Unsaid)

  -- And above it.
  pub over-unsaid : (r : Path) (paths values : List Path) (o : Option Parts) → values ≡ P.paths → paths ≡ paths_below x values
      → (length paths == 0) ≡ false
      → o ≡ None → o ≡ (if can_be_below x P then Some (record (only_below x P) { paths = paths }) else None)
      → meets_rule.Unsaid ≡ over_rule P a r x R
  over-unsaid r paths values o values_are paths_are some is e =
      let unsaid = none-if (can_be_below x P) (record (only_below x P) { paths = paths }) o is e in
      let has : (length (paths_below x P.paths) == 0) ≡ false =
      sym (ap (λ vs. length vs == 0) (paths_are ∙ ap (paths_below x) values_are)) ∙ some in
      (λ i. if (sym has i) then meets_rule.Apart
      else (if (sym unsaid i && is_read_back (lifted_spec x R.spec))
      then meets_rule.Counted (record {
        profile = placed a r (asides r).0 (only_below x P);
        rule = lifted_rule r x R;
        names = length x;
      })
      else meets_rule.Unsaid))

  pub over-counted : (r own root : Path) (n : ℕ) (kept : Parts) (spec : Specification) (u : Under) (paths values : List Path)
      (o : Option Parts) (s : Option Specification)
      → at_side P.roots a ≡ Some own → at_side P.roots a ≡ Some r → root ≡ own
      → values ≡ P.paths → paths ≡ paths_below x values → (length paths == 0) ≡ false
      → o ≡ Some kept → o ≡ (if can_be_below x P then Some (record (only_below x P) { paths = paths }) else None)
      → s ≡ Some spec → s ≡ read_back (lifted_spec x R.spec) → n ≡ length x
      → u ≡ record {
        profile = placed a own (asides own).0 kept;
        rule = record { root = root; verb = R.verb; spec = spec };
        names = n;
      }
      → meets_rule.Counted u ≡ over_rule P a r x R
  over-counted r own root n kept spec u paths values o s at_own at_r root_is values_are paths_are some
      o_is o_e s_is s_e long u_is =
      let same : own ≡ r = same_Some own r (sym at_own ∙ at_r) in
      let all : paths ≡ paths_below x P.paths = paths_are ∙ ap (paths_below x) values_are in
      let w = some-if (can_be_below x P) (record (only_below x P) { paths = paths }) kept o o_is o_e in
      let z = some-if (is_read_back (lifted_spec x R.spec)) (lifted_spec x R.spec) spec s s_is s_e in
      let has : (length (paths_below x P.paths) == 0) ≡ false = sym (ap (λ vs. length vs == 0) all) ∙ some in
      let profile : kept ≡ only_below x P = w.1 ∙ (λ i. record (only_below x P) { paths = all i }) in
      ap (λ v. meets_rule.Counted v) u_is
      ∙ (λ i. if (sym has i) then meets_rule.Apart
      else (if (sym w.0 i && sym z.0 i)
      then meets_rule.Counted (record {
        profile = placed a (same i) (asides (same i)).0 (profile i);
        rule = record { root = (root_is ∙ same) i; verb = R.verb; spec = z.1 i };
        names = long i;
      })
      else meets_rule.Unsaid))

module _ (P : Parts) (a : Side) (R : Rule) where
  pub rule-over : (r y : Path) → at_side P.roots a ≡ Some r → is_over R.root r ≡ false → is_over r R.root ≡ true
      → y ≡ names_down r R.root → over_rule P a r y R ≡ said.rule_meeting P a R
  rule-over r y at away over down =
      (λ i. if (sym away i) then under_rule P a (names_down R.root r) R
      else (if (sym over i) then over_rule P a r (down i) R else meets_rule.Apart))
      ∙ (λ i. rule_meeting_of P a (sym at i) R)

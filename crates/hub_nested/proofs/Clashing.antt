-- Clashes of two profiles, counted from the upper of their roots.
use Rattle.std.proofs.Common.{◌≡◌, ◌⊎◌, inl, inr, ⊎_elim, Bool, true, false, ◌&&◌, [], ◌++◌, length, Some, refl, sym, ap, ◌∙◌, subst, append-nil, append_assoc}
use Rattle.std.specs.Prelude.{IsTrue, if◌then◌else◌}
use Rattle.std.proofs.lemmas.Bool.{and_parts}
use Rattle.hub_path.specs.Path.{Path, is_over, is_place, path_eq}
use Rattle.hub_path.specs.declared.side.Side.{Side}
use Rattle.hub_path.specs.laws.General.{is_over-append, is_over-comparable, is_over-rest, is_over-transitive}
use Rattle.hub_profile.specs.Parts.{IsProfile, Parts, at_side}
use Rattle.hub_reach.specs.Safe.{Clash}
use Rattle.hub_parts.specs.Nested.{ClashAt}
use Rattle.hub_nested.specs.Lifted.{can_be_said, said_from}
use Rattle.hub_nested.specs.Meeting as said
use Rattle.hub_nested.specs.Meeting.{both_at, meeting_at, meeting_of, names_down}
use Rattle.hub_nested.specs.Placed.{asides, placed}
use Rattle.hub_nested.specs.declared.meeting.Meeting.TheVariants as meets
use Rattle.hub_nested.specs.declared.meeting.Together.{Together}
use Rattle.hub_nested.proofs.Asides.{first-other, second-other}
use Rattle.hub_nested.proofs.Reaching.{over-below, places-both, reach-placed, reach-said}
use Rattle.hub_nested.proofs.Writing.{has-placed, root-place, write-said}

-- Roots that have a path below both are over each other.
pub roots-meet : (r s p q : Path) → IsTrue (is_over (r ++ p) (s ++ q)) → IsTrue (is_over r s) ⊎ IsTrue (is_over s r)
roots-meet r s p q over =
    is_over-comparable r s (s ++ q) (is_over-transitive r (r ++ p) (s ++ q) (is_over-append r p) over) (is_over-append s q)

-- The names from a root down to one below it.
pub down-place : (u r x : Path) → r ≡ u ++ x → is_place r ≡ true → is_place x ≡ true
down-place u r x e place =
    (and_parts (is_place u) (is_place x) (sym (places-both u x) ∙ (sym (ap is_place e) ∙ place))).1

pub no-names : (u : Path) → u ≡ u ++ []
no-names u = sym (append-nil u)

-- From above the paths lie over each other as they do.
pub over-said : (u r s x y p q : Path) → r ≡ u ++ x → s ≡ u ++ y → is_over (r ++ p) (s ++ q) ≡ is_over (x ++ p) (y ++ q)
over-said u r s x y p q e f =
    (λ i. is_over (e i ++ p) (f i ++ q))
    ∙ ((λ i. is_over (append_assoc u x p i) (append_assoc u y q i)) ∙ over-below u (x ++ p) (y ++ q))

-- P writes over what Q reaches, at roots that are x and y below u: also if both are said from u.
pub clash-said : (P Q : Parts) (a b : Side) (r s u x y one two : Path) → IsProfile P → IsProfile Q
    → at_side P.roots a ≡ Some r → at_side Q.roots b ≡ Some s → r ≡ u ++ x → s ≡ u ++ y → path_eq u one ≡ false
    → ClashAt P Q r s → Clash (placed a u one (said_from x P)) (placed b u two (said_from y Q))
clash-said P Q a b r s u x y one two own_p own_q at_a at_b e f other c =
    let place_x = down-place u r x e (root-place a P.roots r own_p.roots at_a) in
    let place_y = down-place u s y f (root-place b Q.roots s own_q.roots at_b) in
    inl (
      u,
      has-placed a u one (said_from x P),
      has-placed b u two (said_from y Q),
      (
        x ++ c.0,
        y ++ c.1,
        sym (over-said u r s x y c.0 c.1 e f) ∙ c.2,
        write-said P a r u one own_p.roots at_a other x c.0 place_x c.3,
        reach-placed b u two (said_from y Q) (y ++ c.1) ∙ reach-said y Q c.1 place_y c.4,
      ),
    )

module _ (P Q : Parts) (a b : Side) (r s : Path) (at_a : at_side P.roots a ≡ Some r) (at_b : at_side Q.roots b ≡ Some s) where
  meets-at : said.meeting P a Q b ≡ meeting_at P a r Q b s
  meets-at = (λ i. meeting_of P a (at_a i) Q b (at_b i))

  abbrev pub together : Path → Path → Path → Together
  together u x y = record {
    first = placed a u (asides u).0 (said_from x P);
    second = placed b u (asides u).1 (said_from y Q);
    first_names = length x;
    second_names = length y;
  }

  counted : (c : Bool) (t own : Together) → (if c then meets.Counted own else meets.Unsaid) ≡ meets.Counted t → own ≡ t
  counted true t own e = cc
  counted false t own e = cc

  not-apart : (c : Bool) (own : Together) → (if c then meets.Counted own else meets.Unsaid) ≡ meets.Apart → false ≡ true
  not-apart true own e = cc
  not-apart false own e = cc

  -- From which root both are said, where they meet.
  pub record IsSaid (t : Together) : Type 0 where
    pub root : Path
    pub first : Path
    pub second : Path
    pub are : together root first second ≡ t
    pub upper : r ≡ root ++ first
    pub lower : s ≡ root ++ second

  said-at : (t : Together) (c d : Bool) → is_over r s ≡ c → is_over s r ≡ d
      → (if c then both_at r P a [] Q b (names_down r s)
      else (if d then both_at s P a (names_down s r) Q b [] else meets.Apart)) ≡ meets.Counted t → IsSaid t
  said-at t true d h k e = record {
    root = r;
    first = [];
    second = names_down r s;
    are = counted (can_be_said [] P && can_be_said (names_down r s) Q) t (together r [] (names_down r s)) e;
    upper = no-names r;
    lower = is_over-rest r s h;
  }
  said-at t false true h k e = record {
    root = s;
    first = names_down s r;
    second = [];
    are = counted (can_be_said (names_down s r) P && can_be_said [] Q) t (together s (names_down s r) []) e;
    upper = is_over-rest s r k;
    lower = no-names s;
  }
  said-at t false false h k e = cc

  pub is-said : (t : Together) → said.meeting P a Q b ≡ meets.Counted t → IsSaid t
  is-said t e = said-at t (is_over r s) (is_over s r) refl refl (sym meets-at ∙ e)

  pub first-clash : (t : Together) → IsProfile P → IsProfile Q → said.meeting P a Q b ≡ meets.Counted t
      → ClashAt P Q r s → Clash t.first t.second
  first-clash t own_p own_q e c =
      let w = is-said t e in
      subst (λ (z : Together). Clash z.first z.second) w.are
      (clash-said P Q a b r s w.root w.first w.second (asides w.root).0 (asides w.root).1 own_p own_q at_a at_b w.upper w.lower
      (first-other w.root) c)

  pub second-clash : (t : Together) → IsProfile P → IsProfile Q → said.meeting P a Q b ≡ meets.Counted t
      → ClashAt Q P s r → Clash t.second t.first
  second-clash t own_p own_q e c =
      let w = is-said t e in
      subst (λ (z : Together). Clash z.second z.first) w.are
      (clash-said Q P b a s r w.root w.second w.first (asides w.root).1 (asides w.root).0 own_q own_p at_b at_a w.lower w.upper
      (second-other w.root) c)

  -- Where they don't meet, neither root is over the other.
  apart-at : (c d : Bool)
      → (if c then both_at r P a [] Q b (names_down r s)
      else (if d then both_at s P a (names_down s r) Q b [] else meets.Apart)) ≡ meets.Apart
      → (c ≡ true) ⊎ (d ≡ true) → false ≡ true
  apart-at true d e h =
      not-apart (can_be_said [] P && can_be_said (names_down r s) Q) (together r [] (names_down r s)) e
  apart-at false true e h =
      not-apart (can_be_said (names_down s r) P && can_be_said [] Q) (together s (names_down s r) []) e
  apart-at false false e (inl h) = h
  apart-at false false e (inr h) = h

  pub none-below : said.meeting P a Q b ≡ meets.Apart → (p q : Path)
      → IsTrue (is_over (r ++ p) (s ++ q)) ⊎ IsTrue (is_over (s ++ q) (r ++ p)) → ⊥
  none-below e p q over =
      let either : IsTrue (is_over r s) ⊎ IsTrue (is_over s r) =
      ⊎_elim (λ h. roots-meet r s p q h) (λ h. ⊎_elim (λ k. inr k) (λ k. inl k) (roots-meet s r q p h)) over in
      let no : false ≡ true = apart-at (is_over r s) (is_over s r) (sym meets-at ∙ e) either in cc

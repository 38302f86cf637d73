-- Profiles of which no line says that they clash, don't.
use Rattle.std.proofs.Common.{◌≡◌, ◌≢◌, ◌⊎◌, inl, inr, Bool, true, false, cond, ◌&&◌, ◌||◌, List, [], ◌∷◌, ◌++◌, map, Option, Some, None, refl, ap, sym, ◌∙◌, subst}
use Rattle.std.specs.Prelude.{◌==◌, ℕ, zero, suc, Contains, IsTrue, slice_get}
use Rattle.std.specs.List.{flat_map, list_any}
use Rattle.std.proofs.lemmas.Bool.{false≢true, and_from, or_left}
use Rattle.std.proofs.lemmas.Option.{same_Some}
use Rattle.hub_text.specs.laws.List.{at-place}
use Rattle.hub_path.specs.Path.{Path}
use Rattle.hub_profile.specs.Parts.{IsProfile, Parts, some_passes}
use Rattle.hub_profile.specs.declared.rule.Rule.{Rule}
use Rattle.hub_reach.specs.Safe as safe
use Rattle.hub_cert.specs.Aim.{Aim, Breaching, Clashing, is_open_aim}
use Rattle.hub_cert.specs.Goals.{AllInductive, aim_of, breaching, clashing, is_goal}
use Rattle.hub_cert.specs.Inductive.{IsInductive}
use Rattle.hub_cert.specs.Set.{AreApart, HasValidProfiles, IsSafeSet, Members, forbidden_by, roots_in}
use Rattle.hub_cert.specs.declared.fault.CheckFault.{CheckFault}
use Rattle.hub_cert.specs.declared.fault.CheckFault.TheVariants as fault
use Rattle.hub_cert.specs.declared.goal.Goal.{Goal}
use Rattle.hub_cert.specs.declared.goal.Goal.TheVariants.{Breach, Clash}
use Rattle.hub_cert.specs.declared.goal.Place.{Place}
use Rattle.hub_search.specs.Search.{Tells}
use Rattle.hub_rounds.specs.Lines.{DecideEachGoal, HasOwnLine, names_pair, subject_of}
use Rattle.hub_rounds.specs.declared.placing.Obstacle.{Obstacle}
use Rattle.hub_rounds.specs.declared.placing.Obstacle.TheVariants as obstacle
use Rattle.hub_rounds.specs.declared.subject.Subject.{Subject}
use Rattle.hub_rounds.specs.declared.subject.Subject.TheVariants.{Alone, Nothing, Pair}
use Rattle.hub_schedule.specs.laws.Lists.{any-at}
use Rattle.hub_serial.specs.Clash.{JobsClash}
use Rattle.hub_starter.specs.Waves.{NoneBreaks, NoOwnLines, may_clash}
use Rattle.hub_starter.proofs.Numbers.{itself, unlike}

-- What hub_cert says of sets.
abbrev pub CertificatesMakeSafe : Type 0
CertificatesMakeSafe =
    (S : Members) → HasValidProfiles S → AreApart S → AllInductive S → IsSafeSet S

-- Elements of lists.
abbrev IsItem : {X : Type 0} → List X → X → Type 0
IsItem xs x = (i : ℕ) × (slice_get xs i ≡ Some x)

either_item : {X : Type 0} (xs ys : List X) (i : ℕ) (x : X) → slice_get (xs ++ ys) i ≡ Some x
    → IsItem xs x ⊎ IsItem ys x
either_item [] ys i x e = inr (i, e)
either_item (y ∷ xs) ys zero x e = inl (0, e)
either_item (y ∷ xs) ys (suc i) x e =
    elim (either_item xs ys i x e) [
      | inl w ↦ inl (suc w.0, w.1)
      | inr w ↦ inr w
    ]

first_item : {X : Type 0} (xs ys : List X) (i : ℕ) (x : X) → slice_get xs i ≡ Some x
    → IsItem (xs ++ ys) x
first_item [] ys i x e = cc
first_item (y ∷ xs) ys zero x e = (0, e)
first_item (y ∷ xs) ys (suc i) x e = let w = first_item xs ys i x e in (suc w.0, w.1)

second_item : {X : Type 0} (xs ys : List X) (i : ℕ) (x : X) → slice_get ys i ≡ Some x
    → IsItem (xs ++ ys) x
second_item [] ys i x e = (i, e)
second_item (y ∷ xs) ys i x e = let w = second_item xs ys i x e in (suc w.0, w.1)

flat_item : {A X : Type 0} (f : A → List X) (ls : List A) (k i : ℕ) (a : A) (x : X)
    → slice_get ls k ≡ Some a → slice_get (f a) i ≡ Some x → IsItem (flat_map f ls) x
flat_item f [] k i a x at e = cc
flat_item f (b ∷ ls) zero i a x at e =
    first_item (f b) (flat_map f ls) i x (ap (λ c. slice_get (f c) i) (same_Some b a at) ∙ e)
flat_item f (b ∷ ls) (suc k) i a x at e =
    let w = flat_item f ls k i a x at e in second_item (f b) (flat_map f ls) w.0 x w.1

map_item : {A X : Type 0} (f : A → X) (ls : List A) (k : ℕ) (a : A) → slice_get ls k ≡ Some a
    → slice_get (map f ls) k ≡ Some (f a)
map_item f [] k a at = cc
map_item f (b ∷ ls) zero a at = ap (λ c. Some (f c)) (same_Some b a at)
map_item f (b ∷ ls) (suc k) a at = map_item f ls k a at

none_item : {X : Type 0} (x : X) → IsItem [] x → ⊥
none_item x w = cc

module _ (S : Members) (P : Parts) (i : ℕ) (is : slice_get S.profiles i ≡ Some P) where
  own_root : (r : Path) → IsItem P.roots r → IsItem (roots_in S) r
  own_root r w =
      let flat = flat_item (λ (Q : Parts). Q.roots) S.profiles i w.0 P r is w.1 in
      first_item (flat_map (λ (Q : Parts). Q.roots) S.profiles)
      (map (λ (R : safe.Rule). R.root) (map forbidden_by S.rules)) flat.0 r flat.1

rule_root : (S : Members) (k : ℕ) (R : Rule) → slice_get S.rules k ≡ Some R
    → IsItem (roots_in S) R.root
rule_root S k R at =
    second_item (flat_map (λ (Q : Parts). Q.roots) S.profiles)
    (map (λ (R : safe.Rule). R.root) (map forbidden_by S.rules)) k R.root
    (map_item (λ (R : safe.Rule). R.root) (map forbidden_by S.rules) k (forbidden_by R)
    (map_item forbidden_by S.rules k R at))

apart_by : (S T : Members) → AreApart S → ((r : Path) → IsItem (roots_in T) r → IsItem (roots_in S) r)
    → AreApart T
apart_by S T apart into = λ i j r s e f over.
    let a = into r (i, e) in
    let b = into s (j, f) in
    apart a.0 b.0 r s a.1 b.1 over

-- A line of a goal.
abbrev writer_of : Goal → ℕ
writer_of (Clash w o place) = w
writer_of (Breach p r) = p

abbrev other_of : Goal → ℕ
other_of (Clash w o place) = o
other_of (Breach p r) = r

abbrev is_clash : Goal → Bool
is_clash (Clash w o place) = true
is_clash (Breach p r) = false

pair_named : (w o i j : ℕ) → i ≡ w → j ≡ o → ((w == i && o == j) || (w == j && o == i)) ≡ true
pair_named w o i j e f =
    or_left (w == i && o == j) (w == j && o == i)
    (and_from (w == i) (o == j) (ap (λ x. w == x) e ∙ itself w) (ap (λ x. o == x) f ∙ itself o))

names_clash : (i j : ℕ) (place : Place) (a : Aim) (e : CheckFault) → e ≢ fault.OutOfMemory
    → Tells (Clash i j place) a e → names_pair (subject_of e) i j ≡ true
names_clash i j place a (fault.Overlap w o at held path) off tells =
    pair_named w o i j (ap writer_of tells.0) (ap other_of tells.0)
names_clash i j place a (fault.Breach p r path) off tells =
    absurd (false≢true (sym (ap is_clash tells.0)))
names_clash i j place a (fault.TooLarge g) off tells =
    subst (λ x. names_pair (subject_of (fault.TooLarge x)) i j ≡ true) (sym tells.0)
    (pair_named i j i j refl refl)
names_clash i j place a fault.OutOfMemory off tells = absurd (off refl)
names_clash i j place a e off tells = absurd tells

names_breach : (i k : ℕ) (a : Aim) (e : CheckFault) → e ≢ fault.OutOfMemory
    → Tells (Breach i k) a e → (why : Obstacle) × (subject_of e ≡ Alone i why)
names_breach i k a (fault.Overlap w o at held path) off tells =
    absurd (false≢true (ap is_clash tells.0))
names_breach i k a (fault.Breach p r path) off tells =
    (obstacle.Breach r, ap (λ x. Alone x (obstacle.Breach r)) (sym (ap writer_of tells.0)))
names_breach i k a (fault.TooLarge g) off tells =
    (obstacle.TooLarge k, ap (λ x. subject_of (fault.TooLarge x)) tells.0)
names_breach i k a fault.OutOfMemory off tells = absurd (off refl)
names_breach i k a e off tells = absurd tells

-- It is about both, whichever comes first.
turned_test : (a b : Bool) → (a || b) ≡ (b || a)
turned_test true true = refl
turned_test true false = refl
turned_test false true = refl
turned_test false false = refl

names_turned : (s : Subject) (i j : ℕ) → names_pair s i j ≡ names_pair s j i
names_turned (Pair w o) i j = turned_test (w == i && o == j) (w == j && o == i)
names_turned (Alone p why) i j = refl
names_turned Nothing i j = refl

any_alike : (t u : CheckFault → Bool) (es : List CheckFault) → ((e : CheckFault) → t e ≡ u e)
    → list_any t es ≡ list_any u es
any_alike t u [] same = refl
any_alike t u (e ∷ es) same = λ i. same e i || any_alike t u es same i

pub may_clash_turned : (es : List CheckFault) (i j : ℕ) → may_clash es i j ≡ may_clash es j i
may_clash_turned es i j =
    any_alike (λ e. names_pair (subject_of e) i j) (λ e. names_pair (subject_of e) j i) es
    (λ e. names_turned (subject_of e) i j)

line_named : (es : List CheckFault) (i j : ℕ) (e : CheckFault) → Contains es e
    → names_pair (subject_of e) i j ≡ true → may_clash es i j ≡ true
line_named es i j e has_it names =
    let w = at-place es e has_it in any-at (λ x. names_pair (subject_of x) i j) es w.0 e w.2 names

module _ (safe_sets : CertificatesMakeSafe) (S : Members) (es : List CheckFault)
    (valid : HasValidProfiles S) (apart : AreApart S) (decided : DecideEachGoal S es) where
  goal_aim : (g : Goal) (a : Aim) → aim_of S g ≡ Some a → is_open_aim a ≡ true
      → IsTrue (is_goal S g)
  goal_aim g a e is_open = ap (some_passes is_open_aim) e ∙ is_open

  clash_aim : (i j : ℕ) (P Q : Parts) (place : Place) → i ≢ j → slice_get S.profiles i ≡ Some P
      → slice_get S.profiles j ≡ Some Q → aim_of S (Clash i j place) ≡ Some (Clashing P Q place)
  clash_aim i j P Q place off one two =
      ap (λ b. cond b None (clashing place (slice_get S.profiles i) (slice_get S.profiles j)))
      (unlike i j off)
      ∙ (λ z. clashing place (one z) (two z))

  ruled_out : (i j : ℕ) (P Q : Parts) (place : Place) (a : Aim) → i ≢ j
      → slice_get S.profiles i ≡ Some P → slice_get S.profiles j ≡ Some Q
      → may_clash es i j ≡ false → Some (Clashing P Q place) ≡ Some a → is_open_aim a ≡ true
      → (ts : List (List ℕ)) × IsInductive a ts
  ruled_out i j P Q place a off one two none e is_open =
      let g = Clash i j place in
      let aim = clash_aim i j P Q place off one two ∙ e in
      elim (decided g (goal_aim g a aim is_open)) [
        | inl texts ↦ texts a aim
        | inr line ↦ absurd (false≢true (sym none
            ∙ line_named es i j line.0 line.1
            (names_clash i j place a line.0 line.2.0 (line.2.1 a aim))))
      ]

  -- Two profiles.
  module _ (i j : ℕ) (P Q : Parts) (off : i ≢ j) (one : slice_get S.profiles i ≡ Some P)
      (two : slice_get S.profiles j ≡ Some Q) (none : may_clash es i j ≡ false)
      (none_back : may_clash es j i ≡ false) where
    abbrev both : Members
    both = record { profiles = P ∷ Q ∷ []; rules = [] }

    valid_both : HasValidProfiles both
    valid_both zero X e = subst IsProfile (same_Some P X e) (valid i P one)
    valid_both (suc zero) X e = subst IsProfile (same_Some Q X e) (valid j Q two)
    valid_both (suc (suc n)) X e = cc

    roots_both : (r : Path) → IsItem (roots_in both) r → IsItem (roots_in S) r
    roots_both r (n, e) =
        elim (either_item (P.roots ++ (Q.roots ++ [])) [] n r e) [
          | inl w ↦ elim (either_item P.roots (Q.roots ++ []) w.0 r w.1) [
            | inl p ↦ own_root S P i one r p
            | inr q ↦ elim (either_item Q.roots [] q.0 r q.1) [
              | inl x ↦ own_root S Q j two r x
              | inr x ↦ absurd (none_item r x)
            ]
          ]
          | inr w ↦ absurd (none_item r w)
        ]

    no_breach_aim : (p k : ℕ) (a : Aim) (x : Option Parts) → breaching x None ≡ Some a → ⊥
    no_breach_aim p k a None e = cc
    no_breach_aim p k a (Some X) e = cc

    no_clash_aim : (place : Place) (a : Aim) (x : Option Parts) → clashing place x None ≡ Some a → ⊥
    no_clash_aim place a None e = cc
    no_clash_aim place a (Some X) e = cc

    no_aim : (b : Bool) (place : Place) (a : Aim) (x : Option Parts)
        → cond b None (clashing place x None) ≡ Some a → ⊥
    no_aim true place a x e = cc
    no_aim false place a x e = no_clash_aim place a x e

    no_first : (b : Bool) (place : Place) (a : Aim) (x : Option Parts)
        → cond b None (clashing place None x) ≡ Some a → ⊥
    no_first true place a x e = cc
    no_first false place a x e = cc

    inductive : AllInductive both
    inductive (Breach p k) a e is_open =
        absurd (no_breach_aim p k a (slice_get (P ∷ Q ∷ []) p) e)
    inductive (Clash zero zero place) a e is_open = cc
    inductive (Clash zero (suc zero) place) a e is_open =
        ruled_out i j P Q place a off one two none e is_open
    inductive (Clash (suc zero) zero place) a e is_open =
        ruled_out j i Q P place a (λ same. off (sym same)) two one none_back e is_open
    inductive (Clash (suc zero) (suc zero) place) a e is_open = cc
    inductive (Clash (suc (suc m)) o place) a e is_open =
        absurd (no_first (suc (suc m) == o) place a (slice_get (P ∷ Q ∷ []) o) e)
    inductive (Clash zero (suc (suc n)) place) a e is_open =
        absurd (no_aim (zero == suc (suc n)) place a (Some P) e)
    inductive (Clash (suc zero) (suc (suc n)) place) a e is_open =
        absurd (no_aim (suc zero == suc (suc n)) place a (Some Q) e)

    both_safe : IsSafeSet both
    both_safe = safe_sets both valid_both (apart_by S both apart roots_both) inductive

    pub no_clash : (safe.Clash P Q ⊎ safe.Clash Q P) → ⊥
    no_clash (inl c) = both_safe.no_clash 0 1 P Q refl refl (λ e. cc) c
    no_clash (inr c) = both_safe.no_clash 1 0 Q P refl refl (λ e. cc) c

  pub jobs_apart : (i j : ℕ) → i ≢ j → may_clash es i j ≡ false → JobsClash S.profiles i j → ⊥
  jobs_apart i j off none (P, Q, one, two, c) =
      no_clash i j P Q off one two none (may_clash_turned es j i ∙ none) c

  -- A profile and a rule.
  module _ (i k : ℕ) (P : Parts) (R : Rule) (one : slice_get S.profiles i ≡ Some P)
      (two : slice_get S.rules k ≡ Some R)
      (none : (why : Obstacle) → HasOwnLine es i why → ⊥) where
    abbrev alone : Members
    alone = record { profiles = P ∷ []; rules = R ∷ [] }

    valid_alone : HasValidProfiles alone
    valid_alone zero X e = subst IsProfile (same_Some P X e) (valid i P one)
    valid_alone (suc n) X e = cc

    roots_alone : (r : Path) → IsItem (roots_in alone) r → IsItem (roots_in S) r
    roots_alone r (n, e) =
        elim (either_item (P.roots ++ []) (R.root ∷ []) n r e) [
          | inl w ↦ elim (either_item P.roots [] w.0 r w.1) [
            | inl x ↦ own_root S P i one r x
            | inr x ↦ absurd (none_item r x)
          ]
          | inr w ↦ its_root w.0 w.1
        ]
      where
        its_root : (n : ℕ) → slice_get (R.root ∷ []) n ≡ Some r → IsItem (roots_in S) r
        its_root zero f = subst (IsItem (roots_in S)) (same_Some R.root r f) (rule_root S k R two)
        its_root (suc n) f = cc

    breach_ruled_out : (a : Aim) → Some (Breaching P R) ≡ Some a → is_open_aim a ≡ true
        → (ts : List (List ℕ)) × IsInductive a ts
    breach_ruled_out a e is_open =
        let g = Breach i k in
        let aim : aim_of S g ≡ Some a = (λ z. breaching (one z) (two z)) ∙ e in
        elim (decided g (goal_aim g a aim is_open)) [
          | inl texts ↦ texts a aim
          | inr line ↦
              let why = names_breach i k a line.0 line.2.0 (line.2.1 a aim) in
              absurd (none why.0 (line.0, line.1, why.1))
        ]

    no_other : (b : Bool) (place : Place) (a : Aim) (x y : Option Parts)
        → (b ≡ false → (x ≡ None) ⊎ (y ≡ None)) → cond b None (clashing place x y) ≡ Some a → ⊥
    no_other true place a x y h e = cc
    no_other false place a x y h e =
        elim (h refl) [
          | inl f ↦ no_left place a x y f e
          | inr f ↦ no_right place a x y f e
        ]
      where
        no_left : (place : Place) (a : Aim) (x y : Option Parts) → x ≡ None
            → clashing place x y ≡ Some a → ⊥
        no_left place a None y f e = cc
        no_left place a (Some X) y f e = cc

        no_right : (place : Place) (a : Aim) (x y : Option Parts) → y ≡ None
            → clashing place x y ≡ Some a → ⊥
        no_right place a None y f e = cc
        no_right place a (Some X) None f e = cc
        no_right place a (Some X) (Some Y) f e = cc

    inductive_alone : AllInductive alone
    inductive_alone (Breach zero zero) a e is_open = breach_ruled_out a e is_open
    inductive_alone (Breach zero (suc n)) a e is_open = cc
    inductive_alone (Breach (suc m) n) a e is_open = cc
    inductive_alone (Clash zero zero place) a e is_open = cc
    inductive_alone (Clash zero (suc n) place) a e is_open =
        absurd (no_other (zero == suc n) place a (Some P) None (λ h. inr refl) e)
    inductive_alone (Clash (suc m) o place) a e is_open =
        absurd (no_other (suc m == o) place a None (slice_get (P ∷ []) o) (λ h. inl refl) e)

    alone_safe : IsSafeSet alone
    alone_safe = safe_sets alone valid_alone (apart_by S alone apart roots_alone) inductive_alone

    pub breaks_nothing : safe.Breach P (forbidden_by R) → ⊥
    breaks_nothing = alone_safe.no_breach 0 0 P (forbidden_by R) refl refl

  mapped_rule : (rules : List Rule) (k : ℕ) (F : safe.Rule)
      → slice_get (map forbidden_by rules) k ≡ Some F
      → (R : Rule) × (slice_get rules k ≡ Some R) × (F ≡ forbidden_by R)
  mapped_rule [] k F at = cc
  mapped_rule (R ∷ rules) zero F at = (R, refl, sym (same_Some (forbidden_by R) F at))
  mapped_rule (R ∷ rules) (suc k) F at = mapped_rule rules k F at

  pub none_breaks : NoOwnLines es → NoneBreaks S
  none_breaks none i k P F one at breach =
      let w = mapped_rule S.rules k F at in
      breaks_nothing i k P w.0 one w.1 (λ why line. none line.0 line.1 i why line.2)
      (subst (safe.Breach P) w.2 breach)

-- Why a profile is in no round.
use Rattle.std.proofs.Common.{◌≡◌, ◌∙◌, ◌⊎◌, ◌==◌, ⊎_elim, ℕ, Bool, true, false, cond, List, [], ◌∷◌, Option, None, Some, refl, sym, ap, subst, arith}
use Rattle.std.specs.Prelude.{Contains, IfSome, if◌then◌else◌}
use Rattle.std.specs.List.{find, position_or_len}
use Rattle.std.proofs.lemmas.Bool.{true≢false}
use Rattle.std.proofs.lemmas.Bool.Decides.{nat_tests}
use Rattle.std.proofs.lemmas.List.Folds.{find_at}
use Rattle.std.proofs.lemmas.Option.{IfSome_then, none-some, same_Some}
use Rattle.hub_text.specs.laws.List.{cons-cases, in-place}
use Rattle.hub_cert.specs.declared.fault.CheckFault.{CheckFault}
use Rattle.hub_rounds.specs.Lines.{HasNoOwnLine, HasOwnLine, IsFirstReason, first_breach, names_alone, reason_in, subject_of, tells_breach}
use Rattle.hub_rounds.specs.declared.placing.Obstacle.{Obstacle}
use Rattle.hub_rounds.specs.declared.placing.Obstacle.TheVariants.{Breach, TooLarge}
use Rattle.hub_rounds.specs.declared.subject.Subject.{Subject}
use Rattle.hub_rounds.specs.declared.subject.Subject.TheVariants.{Alone, Nothing, Pair}

-- What is found passes the test.
found-passes : {X : Type 0} (p : X → Bool) (xs : List X) (x : X) → find p xs ≡ Some x → p x ≡ true
found-passes p [] x f = absurd (none-some x f)
found-passes {X} p (y ∷ ys) x f = go (p y) refl f (λ g. found-passes p ys x g)
  where
    go : (b : Bool) → p y ≡ b → cond b (Some y) (find p ys) ≡ Some x → (find p ys ≡ Some x → p x ≡ true) → p x ≡ true
    go true is g rest = ap p (sym (same_Some y x g)) ∙ is
    go false is g rest = rest g

-- What passes the test is not missed.
not-missed : {X : Type 0} (p : X → Bool) (xs : List X) (x : X) → Contains xs x → p x ≡ true → find p xs ≡ None → ⊥
not-missed p [] x has is f = omega (arith, has.1)
not-missed {X} p (y ∷ ys) x has is f = go (p y) refl (cons-cases y x ys has) f (λ there g. not-missed p ys x there is g)
  where
    go : (b : Bool) → p y ≡ b → (y ≡ x) ⊎ Contains ys x → cond b (Some y) (find p ys) ≡ None → (Contains ys x → find p ys ≡ None → ⊥) → ⊥
    go true e h g rest = none-some y (sym g)
    go false e h g rest = ⊎_elim (λ here. true≢false (sym is ∙ (ap p (sym here) ∙ e))) (λ there. rest there g) h

pub itself : (i : ℕ) → (i == i) ≡ true
itself i = go (i == i) refl
  where
    go : (b : Bool) → (i == i) ≡ b → b ≡ true
    go true e = refl
    go false e = absurd (grind (arith, nat_tests, e))

-- A reason is that of a line about the profile alone, and such a line has one.
is-alone : (i : ℕ) (s : Subject) → IfSome (reason_in i s) (λ why. s ≡ Alone i why)
is-alone i (Pair w o) = tt
is-alone i Nothing = tt
is-alone i (Alone p why) = go (p == i) refl
  where
    go : (b : Bool) → (p == i) ≡ b → IfSome (if b then Some why else None) (λ (x : Obstacle). Alone p why ≡ Alone i x)
    go true e = let same : p ≡ i = grind (arith, nat_tests, e) in ap (λ (k : ℕ). Alone k why) same
    go false e = tt

has-reason : (i : ℕ) (s : Subject) → names_alone i s ≡ true → reason_in i s ≡ None → ⊥
has-reason i (Pair w o) t f = true≢false (sym t)
has-reason i Nothing t f = true≢false (sym t)
has-reason i (Alone p why) t f = none-some why (sym (subst (λ (b : Bool). (if b then Some why else None) ≡ None) t f))

breach-alone : (i : ℕ) (s : Subject) → tells_breach i s ≡ true → names_alone i s ≡ true
breach-alone i (Pair w o) t = t
breach-alone i Nothing t = t
breach-alone i (Alone p (Breach r)) t = t
breach-alone i (Alone p (TooLarge r)) t = absurd (true≢false (sym t))

-- No line is about the profile alone, if none is found.
pub none-alone : (es : List CheckFault) (i : ℕ) → find (λ e. names_alone i (subject_of e)) es ≡ None → HasNoOwnLine es i
none-alone es i f why has =
    not-missed (λ (e : CheckFault). names_alone i (subject_of e)) es has.0 has.1 (ap (names_alone i) has.2 ∙ itself i) f

-- A line that is found is one of them.
is-line : (p : CheckFault → Bool) (es : List CheckFault) (e : CheckFault) → find p es ≡ Some e → Contains es e
is-line p es e f = in-place es (position_or_len p es) e (sym (find_at p es) ∙ f)

-- The reason of a line that is found, which is one about the profile alone;
pub own-line : (p : CheckFault → Bool) (es : List CheckFault) (i : ℕ) (e : CheckFault) (r : Option Obstacle) → find p es ≡ Some e → r ≡ reason_in i (subject_of e) → IfSome r (HasOwnLine es i)
own-line p es i e r f is =
    subst (λ (x : Option Obstacle). IfSome x (HasOwnLine es i)) (sym is)
    (IfSome_then (reason_in i (subject_of e)) (is-alone i (subject_of e)) (λ why h. (e, is-line p es e f, h)))

pub some-reason : (es : List CheckFault) (i : ℕ) (e : CheckFault) (r : Option Obstacle) → find (λ x. names_alone i (subject_of x)) es ≡ Some e → r ≡ reason_in i (subject_of e) → r ≡ None → ⊥
some-reason es i e r f is none =
    has-reason i (subject_of e) (found-passes (λ (x : CheckFault). names_alone i (subject_of x)) es e f) (sym is ∙ none)

-- and of the first that says that it breaks a rule.
pub some-breach : (es : List CheckFault) (i : ℕ) (e : CheckFault) (r : Option Obstacle) → first_breach es i ≡ Some e → r ≡ reason_in i (subject_of e) → r ≡ None → ⊥
some-breach es i e r f is none =
    has-reason i (subject_of e) (breach-alone i (subject_of e) (found-passes (λ (x : CheckFault). tells_breach i (subject_of x)) es e f)) (sym is ∙ none)

first-by-breach : (es : List CheckFault) (i : ℕ) (e : CheckFault) (why : Obstacle) → first_breach es i ≡ Some e → subject_of e ≡ Alone i why → IsFirstReason es i why
first-by-breach es i e (Breach r) f is = (e, f, is)
first-by-breach es i e (TooLarge r) f is =
    absurd (true≢false (sym (found-passes (λ x. tells_breach i (subject_of x)) es e f) ∙ ap (tells_breach i) is))

pub first-breach-tells : (es : List CheckFault) (i : ℕ) (e : CheckFault) (r : Option Obstacle) → first_breach es i ≡ Some e → r ≡ reason_in i (subject_of e) → IfSome r (IsFirstReason es i)
first-breach-tells es i e r f is =
    subst (λ (x : Option Obstacle). IfSome x (IsFirstReason es i)) (sym is)
    (IfSome_then (reason_in i (subject_of e)) (is-alone i (subject_of e)) (λ why h. first-by-breach es i e why f h))

-- If none says that, each line about it alone says that a goal is too large.
first-without-breach : (es : List CheckFault) (i : ℕ) (e : CheckFault) (why : Obstacle) → Contains es e → first_breach es i ≡ None → subject_of e ≡ Alone i why → IsFirstReason es i why
first-without-breach es i e (TooLarge r) has none is = none
first-without-breach es i e (Breach r) has none is =
    absurd (not-missed (λ (x : CheckFault). tells_breach i (subject_of x)) es e has (ap (tells_breach i) is ∙ itself i) none)

pub no-breach-tells : (p : CheckFault → Bool) (es : List CheckFault) (i : ℕ) (e : CheckFault) (r : Option Obstacle) → find p es ≡ Some e → first_breach es i ≡ None → r ≡ reason_in i (subject_of e) → IfSome r (IsFirstReason es i)
no-breach-tells p es i e r f none is =
    subst (λ (x : Option Obstacle). IfSome x (IsFirstReason es i)) (sym is)
    (IfSome_then (reason_in i (subject_of e)) (is-alone i (subject_of e)) (λ why h. first-without-breach es i e why (is-line p es e f) none h))

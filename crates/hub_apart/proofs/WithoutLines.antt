-- Two profiles that no line is about are a safe set.
use Rattle.std.proofs.Common.{◌≡◌, ◌≢◌, ◌∙◌, ◌⊎◌, inl, inr, ◌==◌, ◌&&◌, ◌||◌, not, ℕ, zero, suc, Bool, true, false, cond, List, [], ◌∷◌, ◌++◌, length, map, Option, Some, None, refl, sym, ap, subst, arith}
use Rattle.std.specs.Prelude.{Contains, slice_get}
use Rattle.std.specs.List.{list_all}
use Rattle.std.proofs.lemmas.Bool.{and_parts, false≢true, or_left, or_right}
use Rattle.std.proofs.lemmas.Bool.Decides.{nat_tests}
use Rattle.std.proofs.lemmas.Option.{none-some, same_Some}
use Rattle.hub_text.specs.laws.List.{cons-here, to-map}
use Rattle.hub_path.specs.laws.General.{path_eq-decides}
use Rattle.hub_path.specs.Path.{Path, is_over, is_place, none_over, path_eq}
use Rattle.hub_profile.specs.Parts.{IsProfile, Parts, some_passes}
use Rattle.hub_cert.specs.Aim.{Aim, is_open_aim}
use Rattle.hub_cert.specs.Goals.{AllInductive, aim_of, breaching, is_goal}
use Rattle.hub_cert.specs.Inductive.{IsInductive}
use Rattle.hub_cert.specs.Refused.{is_nested}
use Rattle.hub_cert.specs.Set.{AreApart, HasValidProfiles, IsSafeSet, Members, roots_in}
use Rattle.hub_cert.specs.declared.fault.CheckFault.{CheckFault}
use Rattle.hub_cert.specs.declared.fault.CheckFault.TheVariants as fault
use Rattle.hub_cert.specs.declared.goal.Goal.{Goal}
use Rattle.hub_cert.specs.declared.goal.Goal.TheVariants as goal
use Rattle.hub_cert.specs.declared.goal.Place.{Place}
use Rattle.hub_search.specs.Faults.{AreFaults, HasInductiveTexts, HasLine}
use Rattle.hub_search.specs.Search.{Tells}
use Rattle.hub_apart.specs.Apart.{have_nested, nests_any}
use Rattle.hub_apart.specs.ApartLines.{AreLinesOfTwo, line_among, nested_line, number_of, set_of_two}
use Rattle.hub_rounds.specs.Lines.{HasPair, names_pair, subject_of}
use Rattle.hub_rounds.specs.declared.subject.Subject.TheVariants.{Pair}
use Rattle.hub_apart.proofs.Items.{at-each, none-at}

-- What the searches of a set show, and what makes a set safe.
abbrev pub RestShown : Type 0
RestShown = (S : Members) (es : List CheckFault) (g : Goal) → AreFaults S es → is_goal S g ≡ true → HasInductiveTexts S g ⊎ HasLine S es g

abbrev pub MadeSafe : Type 0
MadeSafe = (S : Members) → HasValidProfiles S → AreApart S → AllInductive S → IsSafeSet S

-- An item of two lists, one behind the other, is one of either.
abbrev pub At : {X : Type 0} → List X → X → Type 0
At xs x = (k : ℕ) × (slice_get xs k ≡ Some x)

later-at : {X : Type 0} (y : X) (xs ys : List X) (x : X) → At xs x ⊎ At ys x → At (y ∷ xs) x ⊎ At ys x
later-at y xs ys x (inl a) = inl (suc a.0, a.1)
later-at y xs ys x (inr a) = inr a

pub append-at : {X : Type 0} (xs ys : List X) (i : ℕ) (x : X) → slice_get (xs ++ ys) i ≡ Some x → At xs x ⊎ At ys x
append-at [] ys i x at = inr (i, at)
append-at (y ∷ xs) ys zero x at = inl (0, at)
append-at (y ∷ xs) ys (suc i) x at = later-at y xs ys x (append-at xs ys i x at)

-- Roots of which none is over another are over themselves alone.
not-over : (a b : Bool) → not (a || b) ≡ true → (a ≡ true) ⊎ (b ≡ true) → ⊥
not-over true b h o = false≢true h
not-over false true h o = false≢true h
not-over false false h (inl e) = false≢true e
not-over false false h (inr e) = false≢true e

own-over : (ps : List Path) (i j : ℕ) (r s : Path) → none_over ps ≡ true → slice_get ps i ≡ Some r → slice_get ps j ≡ Some s → is_over r s ≡ true → r ≡ s
own-over [] i j r s h at_r at_s over = absurd (none-some r at_r)
own-over (p ∷ ps) zero zero r s h at_r at_s over = same_Some r s (sym at_r ∙ at_s)
own-over (p ∷ ps) zero (suc j) r s h at_r at_s over =
    let own : p ≡ r = same_Some p r at_r in
    let none = at-each (λ q. not (is_over p q || is_over q p)) ps j s (and_parts (list_all (λ q. not (is_over p q || is_over q p)) ps) (none_over ps) h).0 at_s in
    absurd (not-over (is_over p s) (is_over s p) none (inl (ap (λ q. is_over q s) own ∙ over)))
own-over (p ∷ ps) (suc i) zero r s h at_r at_s over =
    let own : p ≡ s = same_Some p s at_s in
    let none = at-each (λ q. not (is_over p q || is_over q p)) ps i r (and_parts (list_all (λ q. not (is_over p q || is_over q p)) ps) (none_over ps) h).0 at_r in
    absurd (not-over (is_over p r) (is_over r p) none (inr (ap (is_over r) own ∙ over)))
own-over (p ∷ ps) (suc i) (suc j) r s h at_r at_s over =
    own-over ps i j r s (and_parts (list_all (λ q. not (is_over p q || is_over q p)) ps) (none_over ps) h).1 at_r at_s over

pub roots-over : (P : Parts) (r s : Path) → IsProfile P → At P.roots r → At P.roots s → is_over r s ≡ true → r ≡ s
roots-over P r s valid a b over =
    let two = and_parts (length P.roots == 2 && list_all is_place P.roots) (none_over P.roots) valid.roots in
    own-over P.roots a.0 b.0 r s two.1 a.1 b.1 over

-- Roots that aren't nested are over themselves alone.
apart-bits : (e a b : Bool) → (not e && (a || b)) ≡ false → (a || b) ≡ true → e ≡ true
apart-bits true a b h k = refl
apart-bits false a b h k = absurd (false≢true (sym h ∙ k))

pub not-nested : (r s : Path) → is_nested r s ≡ false → (is_over r s || is_over s r) ≡ true → r ≡ s
not-nested r s h o = (path_eq-decides r s).0 (apart-bits (path_eq r s) (is_over r s) (is_over s r) h o)

cross : (P Q : Parts) (r s : Path) → have_nested P Q ≡ false → At P.roots r → At Q.roots s → is_nested r s ≡ false
cross P Q r s h a b = none-at (λ q. is_nested r q) Q.roots b.0 s (none-at (λ p. nests_any p Q.roots) P.roots a.0 r h a.1) b.1

module _ (P Q : Parts) where
  -- The roots of two profiles are those of either.
  one-of : (i : ℕ) (r : Path) → slice_get (roots_in (set_of_two P Q)) i ≡ Some r → At P.roots r ⊎ At Q.roots r
  one-of i r at = outer (append-at (P.roots ++ (Q.roots ++ [])) [] i r at)
    where
      last : At P.roots r ⊎ At (Q.roots ++ []) r → At P.roots r ⊎ At Q.roots r
      last (inl a) = inl a
      last (inr a) = inner (append-at Q.roots [] a.0 r a.1)
        where
          inner : At Q.roots r ⊎ At [] r → At P.roots r ⊎ At Q.roots r
          inner (inl b) = inr b
          inner (inr b) = absurd (none-some r b.1)

      outer : At (P.roots ++ (Q.roots ++ [])) r ⊎ At [] r → At P.roots r ⊎ At Q.roots r
      outer (inl a) = last (append-at P.roots (Q.roots ++ []) a.0 r a.1)
      outer (inr a) = absurd (none-some r a.1)

  pub two-apart : IsProfile P → IsProfile Q → have_nested P Q ≡ false → AreApart (set_of_two P Q)
  two-apart valid other h i j r s at_r at_s over = go (one-of i r at_r) (one-of j s at_s)
    where
      go : At P.roots r ⊎ At Q.roots r → At P.roots s ⊎ At Q.roots s → r ≡ s
      go (inl a) (inl b) = roots-over P r s valid a b over
      go (inr a) (inr b) = roots-over Q r s other a b over
      go (inl a) (inr b) = not-nested r s (cross P Q r s h a b) (or_left (is_over r s) (is_over s r) over)
      go (inr a) (inl b) = sym (not-nested s r (cross P Q s r h b a) (or_right (is_over s r) (is_over r s) over))

  two-valid : IsProfile P → IsProfile Q → HasValidProfiles (set_of_two P Q)
  two-valid valid other zero R at = subst IsProfile (same_Some P R at) valid
  two-valid valid other (suc zero) R at = subst IsProfile (same_Some Q R at) other
  two-valid valid other (suc (suc i)) R at = absurd (none-some R at)

  -- A goal of two profiles is about both.
  unless : (b : Bool) (a : Aim) → cond b None None ≡ Some a → ⊥
  unless true a e = none-some a e
  unless false a e = none-some a e

  module _ (i j : ℕ) where
    names : (w o : ℕ) (place : Place) (a : Aim) → aim_of (set_of_two P Q) (goal.Clash w o place) ≡ Some a → names_pair (Pair (number_of i j w) (number_of i j o)) i j ≡ true
    names zero zero place a is = absurd (none-some a is)
    names zero (suc zero) place a is = grind (arith, nat_tests)
    names (suc zero) zero place a is = grind (arith, nat_tests)
    names (suc zero) (suc zero) place a is = absurd (none-some a is)
    names zero (suc (suc o)) place a is = absurd (unless (0 == suc (suc o)) a is)
    names (suc zero) (suc (suc o)) place a is = absurd (unless (1 == suc (suc o)) a is)
    names (suc (suc w)) o place a is = absurd (unless (suc (suc w) == o) a is)

    no-breach : (p k : ℕ) (a : Aim) → aim_of (set_of_two P Q) (goal.Breach p k) ≡ Some a → ⊥
    no-breach p k a is = go (slice_get (P ∷ Q ∷ []) p) is
      where
        go : (W : Option Parts) → breaching W None ≡ Some a → ⊥
        go None e = none-some a e
        go (Some W) e = none-some a e

    goal-names : (g : Goal) (a : Aim) → aim_of (set_of_two P Q) g ≡ Some a → names_pair (subject_of (line_among i j (fault.TooLarge g))) i j ≡ true
    goal-names (goal.Clash w o place) a is = names w o place a is
    goal-names (goal.Breach p k) a is = absurd (no-breach p k a is)

    line-names : (g : Goal) (a : Aim) (e : CheckFault) → aim_of (set_of_two P Q) g ≡ Some a → e ≢ fault.OutOfMemory → Tells g a e → names_pair (subject_of (line_among i j e)) i j ≡ true
    line-names g a (fault.Overlap w o place held path) is not_memory t =
        names w o place a (subst (λ h. aim_of (set_of_two P Q) h ≡ Some a) t.0 is)
    line-names g a (fault.Breach p k path) is not_memory t = absurd (no-breach p k a (subst (λ h. aim_of (set_of_two P Q) h ≡ Some a) t.0 is))
    line-names g a (fault.TooLarge h) is not_memory t = goal-names h a (subst (λ k. aim_of (set_of_two P Q) k ≡ Some a) (sym t.0) is)
    line-names g a fault.OutOfMemory is not_memory t = absurd (not_memory refl)
    line-names g a _ is not_memory t = absurd t

    -- Without a line that names both, each of their goals is ruled out.
    pub inductive : RestShown → (f : CheckFault → CheckFault) → ((e : CheckFault) → subject_of (f e) ≡ subject_of (line_among i j e))
        → (found own lines : List CheckFault) → AreFaults (set_of_two P Q) found → own ≡ map f found
        → ((e : CheckFault) → Contains own e → Contains lines e) → (HasPair lines i j → ⊥) → AllInductive (set_of_two P Q)
    inductive rest f same found own lines faults is among none g a aim opens =
        go (rest (set_of_two P Q) found g faults (ap (some_passes is_open_aim) aim ∙ opens))
      where
        go : HasInductiveTexts (set_of_two P Q) g ⊎ HasLine (set_of_two P Q) found g → (ts : List (List ℕ)) × IsInductive a ts
        go (inl h) = h a aim
        go (inr line) =
            let e = f line.0 in
            let has : Contains own e = subst (λ es. Contains es e) (sym is) (to-map f found line.0 line.1) in
            let names = ap (λ s. names_pair s i j) (same line.0) ∙ line-names g a line.0 aim line.2.0 (line.2.1 a aim) in
            absurd (none (e, among e has, names))

pub itself : (i j : ℕ) → names_pair (subject_of (nested_line i j)) i j ≡ true
itself i j = grind (arith, nat_tests)

pub two-safe : RestShown → MadeSafe → (P Q : Parts) (i j : ℕ) (own lines : List CheckFault) → IsProfile P → IsProfile Q → AreLinesOfTwo P Q i j own
    → ((e : CheckFault) → Contains own e → Contains lines e) → (HasPair lines i j → ⊥) → IsSafeSet (set_of_two P Q)
two-safe rest made P Q i j own lines valid other (inl nested) among none =
    absurd (none (nested_line i j, among (nested_line i j) (subst (λ es. Contains es (nested_line i j)) (sym nested.1) (cons-here (nested_line i j) (nested_line i j) [] refl)), itself i j))
two-safe rest made P Q i j own lines valid other (inr apart) among none =
    made (set_of_two P Q) (two-valid P Q valid other) (two-apart P Q valid other apart.0)
    (inductive P Q i j rest (line_among i j) (λ e. refl) apart.1.0 own lines apart.1.1 apart.1.2 among none)

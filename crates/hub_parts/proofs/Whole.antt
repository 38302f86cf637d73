-- A set by its parts.
use Rattle.std.proofs.Common.{◌≡◌, subst, ◌≢◌, ⊎_elim, ◌<◌, ℕ, zero, suc, List, [], ◌∷◌, map, refl, sym, arith}
use Rattle.std.specs.Prelude.{Contains, slice_get, Some}
use Rattle.std.specs.List.{flat_map}
use Rattle.std.proofs.lemmas.Option.{none-some, same_Some}
use Rattle.std.proofs.lemmas.List.Elements.{Contains-append_left, Contains-append_right, Contains-append_cases}
use Rattle.hub_path.specs.Path.{Path}
use Rattle.hub_text.specs.laws.List.{at-place, in-place, cons-cases, to-map}
use Rattle.hub_profile.specs.Parts.{Parts}
use Rattle.hub_reach.specs.Safe.{Breach, Clash, IsSafe, Rule, all_roots}
use Rattle.hub_parts.specs.Whole.{AreRootsApart, AreSafeParts, AreSafePartsByRule, IsEachOneSafe, IsEachOneSafeByRule, IsEachTwoSafe}
use Rattle.hub_parts.proofs.Items.{in-flat, none-in, out-flat, out-map, places}

-- Fewer profiles and rules have fewer roots.
fewer-roots : (Ps Qs : List Parts) (Rs Ss : List Rule) → ((P : Parts) → Contains Qs P → Contains Ps P) → ((R : Rule) → Contains Ss R → Contains Rs R)
    → (r : Path) → Contains (all_roots Qs Ss) r → Contains (all_roots Ps Rs) r
fewer-roots Ps Qs Rs Ss profiles rules r m = ⊎_elim
    (λ own. let w = out-flat (λ (P : Parts). P.roots) Qs r own in
    Contains-append_left (flat_map (λ (P : Parts). P.roots) Ps) (map (λ (R : Rule). R.root) Rs) r
    (in-flat (λ (P : Parts). P.roots) Ps w.0 r (profiles w.0 w.1) w.2))
    (λ ruled. let w = out-map (λ (R : Rule). R.root) Ss r ruled in
    Contains-append_right (flat_map (λ (P : Parts). P.roots) Ps) (map (λ (R : Rule). R.root) Rs) r
    (subst (λ x. Contains (map (λ (R : Rule). R.root) Rs) x) w.2 (to-map (λ (R : Rule). R.root) Rs w.0 (rules w.0 w.1))))
    (Contains-append_cases (flat_map (λ (P : Parts). P.roots) Qs) (map (λ (R : Rule). R.root) Ss) r m)

pub fewer-apart : (Ps Qs : List Parts) (Rs Ss : List Rule) → ((P : Parts) → Contains Qs P → Contains Ps P) → ((R : Rule) → Contains Ss R → Contains Rs R)
    → AreRootsApart Ps Rs → AreRootsApart Qs Ss
fewer-apart Ps Qs Rs Ss profiles rules apart i j r s at_i at_j over =
    let m = at-place (all_roots Ps Rs) r (fewer-roots Ps Qs Rs Ss profiles rules r (in-place (all_roots Qs Ss) i r at_i)) in
    let n = at-place (all_roots Ps Rs) s (fewer-roots Ps Qs Rs Ss profiles rules s (in-place (all_roots Qs Ss) j s at_j)) in
    apart m.0 n.0 r s m.2 n.2 over

pub one-of : {X : Type 0} (xs : List X) (i : ℕ) (x : X) → slice_get xs i ≡ Some x → (y : X) → Contains (x ∷ []) y → Contains xs y
one-of xs i x at y m = ⊎_elim
    (λ same. subst (λ z. Contains xs z) same (in-place xs i x at))
    (λ none. absurd (none-in y none))
    (cons-cases x y [] m)

pub two-of : {X : Type 0} (xs : List X) (i j : ℕ) (x z : X) → slice_get xs i ≡ Some x → slice_get xs j ≡ Some z → (y : X) → Contains (x ∷ z ∷ []) y → Contains xs y
two-of xs i j x z at_i at_j y m = ⊎_elim
    (λ same. subst (λ w. Contains xs w) same (in-place xs i x at_i))
    (λ rest. one-of xs j z at_j y rest)
    (cons-cases x y (z ∷ []) m)

pub none-of : {X : Type 0} (xs : List X) (y : X) → Contains [] y → Contains xs y
none-of xs y m = absurd (none-in y m)

pub all-of : {X : Type 0} (xs : List X) (y : X) → Contains xs y → Contains xs y
all-of xs y m = m

-- No two of two clash, if neither of the two clashes with the other.
two-clash : (P Q A B : Parts) (i j : ℕ) → ¬ (Clash P Q) → ¬ (Clash Q P) → slice_get (P ∷ Q ∷ []) i ≡ Some A → slice_get (P ∷ Q ∷ []) j ≡ Some B → i ≢ j → ¬ (Clash A B)
two-clash P Q A B zero zero one other a b off c = off refl
two-clash P Q A B zero (suc zero) one other a b off c =
    one (subst (λ X. Clash P X) (sym (same_Some Q B b)) (subst (λ X. Clash X B) (sym (same_Some P A a)) c))
two-clash P Q A B zero (suc (suc j)) one other a b off c = none-some B b
two-clash P Q A B (suc zero) zero one other a b off c =
    other (subst (λ X. Clash Q X) (sym (same_Some P B b)) (subst (λ X. Clash X B) (sym (same_Some Q A a)) c))
two-clash P Q A B (suc zero) (suc zero) one other a b off c = off refl
two-clash P Q A B (suc zero) (suc (suc j)) one other a b off c = none-some B b
two-clash P Q A B (suc (suc i)) j one other a b off c = none-some A a

one-clash : (P A B : Parts) (i j : ℕ) → slice_get (P ∷ []) i ≡ Some A → slice_get (P ∷ []) j ≡ Some B → i ≢ j → ¬ (Clash A B)
one-clash P A B zero zero a b off c = off refl
one-clash P A B zero (suc j) a b off c = none-some B b
one-clash P A B (suc i) j a b off c = none-some A a

one-breach : (P A : Parts) (R : Rule) (i : ℕ) → slice_get (P ∷ []) i ≡ Some A → ¬ (Breach P R) → ¬ (Breach A R)
one-breach P A R zero a free b = free (subst (λ X. Breach X R) (sym (same_Some P A a)) b)
one-breach P A R (suc i) a free b = none-some A a

unlike : (i j : ℕ) → i < j → i ≢ j
unlike i j l e = omega (arith, l, e)

-- From the whole to the parts.
pub pair-safe : (Ps : List Parts) (Rs : List Rule) → IsSafe Ps Rs → (i j : ℕ) (P Q : Parts) → i ≢ j → slice_get Ps i ≡ Some P
    → slice_get Ps j ≡ Some Q → IsSafe (P ∷ Q ∷ []) []
pair-safe Ps Rs safe i j P Q off at_i at_j = record {
  apart = fewer-apart Ps (P ∷ Q ∷ []) Rs [] (two-of Ps i j P Q at_i at_j) (none-of Rs) safe.apart;
  no_clash = λ a b A B at_a at_b other. two-clash P Q A B a b (safe.no_clash i j P Q at_i at_j off)
      (safe.no_clash j i Q P at_j at_i (λ e. off (sym e))) at_a at_b other;
  no_breach = λ a k A R at_a at_k. absurd (none-some R at_k);
}

pub two-safe : (Ps : List Parts) (Rs : List Rule) → IsSafe Ps Rs → IsEachTwoSafe Ps
two-safe Ps Rs safe i j P Q less at_i at_j = pair-safe Ps Rs safe i j P Q (unlike i j less) at_i at_j

pub one-safe : (Ps : List Parts) (Rs : List Rule) → IsSafe Ps Rs → IsEachOneSafe Ps Rs
one-safe Ps Rs safe i P at = record {
  apart = fewer-apart Ps (P ∷ []) Rs Rs (one-of Ps i P at) (all-of Rs) safe.apart;
  no_clash = λ a b A B at_a at_b off. one-clash P A B a b at_a at_b off;
  no_breach = λ a k A R at_a at_k. one-breach P A R a at_a (safe.no_breach i k P R at at_k);
}

rule-breach : (P A : Parts) (R S : Rule) (i k : ℕ) → slice_get (P ∷ []) i ≡ Some A → slice_get (R ∷ []) k ≡ Some S → ¬ (Breach P R) → ¬ (Breach A S)
rule-breach P A R S i zero a b free = subst (λ T. ¬ (Breach A T)) (same_Some R S b) (one-breach P A R i a free)
rule-breach P A R S i (suc k) a b free = absurd (none-some S b)

pub rule-safe : (Ps : List Parts) (Rs : List Rule) → IsSafe Ps Rs → IsEachOneSafeByRule Ps Rs
rule-safe Ps Rs safe i k P R at at_k = record {
  apart = fewer-apart Ps (P ∷ []) Rs (R ∷ []) (one-of Ps i P at) (one-of Rs k R at_k) safe.apart;
  no_clash = λ a b A B at_a at_b off. one-clash P A B a b at_a at_b off;
  no_breach = λ a l A S at_a at_l. rule-breach P A R S a l at_a at_l (safe.no_breach i k P R at at_k);
}

-- From the parts to the whole.
each-apart : (Ps : List Parts) → IsEachTwoSafe Ps → (i j : ℕ) (P Q : Parts) → slice_get Ps i ≡ Some P → slice_get Ps j ≡ Some Q → i ≢ j → ¬ (Clash P Q)
each-apart Ps two i j P Q at_i at_j off = ⊎_elim
    (λ less. (two i j P Q less at_i at_j).no_clash 0 1 P Q refl refl (λ e. cc))
    (λ other. ⊎_elim
    (λ same. absurd (off same))
    (λ more. (two j i Q P more at_j at_i).no_clash 1 0 P Q refl refl (λ e. cc))
    other)
    (places i j)

pub by-parts : (Ps : List Parts) (Rs : List Rule) → AreSafeParts Ps Rs → IsSafe Ps Rs
by-parts Ps Rs parts = record {
  apart = parts.roots;
  no_clash = each-apart Ps parts.two;
  no_breach = λ i k P R at at_k. (parts.one i P at).no_breach 0 k P R refl at_k;
}

pub to-parts : (Ps : List Parts) (Rs : List Rule) → IsSafe Ps Rs → AreSafeParts Ps Rs
to-parts Ps Rs safe = record { roots = safe.apart; two = two-safe Ps Rs safe; one = one-safe Ps Rs safe }

pub by-rules : (Ps : List Parts) (Rs : List Rule) → AreSafePartsByRule Ps Rs → IsSafe Ps Rs
by-rules Ps Rs parts = record {
  apart = parts.roots;
  no_clash = each-apart Ps parts.two;
  no_breach = λ i k P R at at_k. (parts.one i k P R at at_k).no_breach 0 0 P R refl refl;
}

pub to-rules : (Ps : List Parts) (Rs : List Rule) → IsSafe Ps Rs → AreSafePartsByRule Ps Rs
to-rules Ps Rs safe = record { roots = safe.apart; two = two-safe Ps Rs safe; one = rule-safe Ps Rs safe }

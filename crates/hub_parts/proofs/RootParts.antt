-- Roots are apart if they are in each part.
use Rattle.std.proofs.Common.{◌≡◌, ◌⊎◌, inl, inr, ⊎_elim, subst, ℕ, List, [], ◌∷◌, map, refl, sym, ap, ◌∙◌}
use Rattle.std.specs.Prelude.{Contains, slice_get, Some, IsTrue}
use Rattle.std.specs.List.{flat_map}
use Rattle.std.proofs.lemmas.Option.{same_Some}
use Rattle.std.proofs.lemmas.List.Elements.{Contains-append_left, Contains-append_right, Contains-append_cases}
use Rattle.hub_path.specs.Path.{Path, is_over}
use Rattle.hub_text.specs.laws.List.{at-place, cons-here, in-place}
use Rattle.hub_profile.specs.Parts.{Parts}
use Rattle.hub_reach.specs.Safe.{Rule, all_roots}
use Rattle.hub_parts.specs.Whole.{ArePartsApart, AreRootsApart}
use Rattle.hub_parts.proofs.Items.{in-flat, out-flat, places}
use Rattle.hub_parts.proofs.Clashes.{apart-same}
use Rattle.hub_parts.proofs.Whole.{all-of, fewer-apart, none-of, one-of, two-of}

abbrev roots_of : Parts → List Path
roots_of P = P.roots

abbrev rule_roots : List Rule → List Path
rule_roots Rs = map (λ (R : Rule). R.root) Rs

-- A root of a profile, or of a rule.
abbrev Source : List Parts → List Rule → Path → Type 0
Source Ps Rs r = ((i : ℕ) × (P : Parts) × (slice_get Ps i ≡ Some P) × Contains P.roots r) ⊎ Contains (rule_roots Rs) r

source : (Ps : List Parts) (Rs : List Rule) (r : Path) → Contains (all_roots Ps Rs) r → Source Ps Rs r
source Ps Rs r m = ⊎_elim
    (λ own. let w = out-flat roots_of Ps r own in let p = at-place Ps w.0 w.1 in inl (p.0, w.0, p.2, w.2))
    (λ ruled. inr ruled)
    (Contains-append_cases (flat_map roots_of Ps) (rule_roots Rs) r m)

in-one : (P : Parts) (Rs : List Rule) (r : Path) → Contains P.roots r ⊎ Contains (rule_roots Rs) r → Contains (all_roots (P ∷ []) Rs) r
in-one P Rs r (inl m) =
    Contains-append_left (flat_map roots_of (P ∷ [])) (rule_roots Rs) r (in-flat roots_of (P ∷ []) P r (cons-here P P [] refl) m)
in-one P Rs r (inr m) = Contains-append_right (flat_map roots_of (P ∷ [])) (rule_roots Rs) r m

apart-at : (Ps : List Parts) (Rs : List Rule) (r s : Path) → AreRootsApart Ps Rs → Contains (all_roots Ps Rs) r → Contains (all_roots Ps Rs) s → IsTrue (is_over r s) → r ≡ s
apart-at Ps Rs r s apart h k over =
    let m = at-place (all_roots Ps Rs) r h in
    let n = at-place (all_roots Ps Rs) s k in
    apart m.0 n.0 r s m.2 n.2 over

pub one-apart : (P : Parts) (Rs : List Rule) (r s : Path) → AreRootsApart (P ∷ []) Rs → Contains P.roots r ⊎ Contains (rule_roots Rs) r
    → Contains P.roots s ⊎ Contains (rule_roots Rs) s → IsTrue (is_over r s) → r ≡ s
one-apart P Rs r s apart h k over = apart-at (P ∷ []) Rs r s apart (in-one P Rs r h) (in-one P Rs s k) over

both-apart : (Ps : List Parts) (Rs : List Rule) → ArePartsApart Ps Rs → (r s : Path) → Source Ps Rs r → Source Ps Rs s → IsTrue (is_over r s) → r ≡ s
both-apart Ps Rs parts r s (inl p) (inl q) over = ⊎_elim
    (λ less. apart-same p.1 q.1 r s (parts.two p.0 q.0 p.1 q.1 less p.2 q.2) (inl p.3) (inr q.3) over)
    (λ other. ⊎_elim
    (λ same.
    let alike = same_Some q.1 p.1 (sym q.2 ∙ (sym (ap (slice_get Ps) same) ∙ p.2)) in
    one-apart p.1 Rs r s (parts.one p.0 p.1 p.2) (inl p.3) (inl (subst (λ (X : Parts). Contains X.roots s) alike q.3)) over)
    (λ more. apart-same q.1 p.1 r s (parts.two q.0 p.0 q.1 p.1 more q.2 p.2) (inr p.3) (inl q.3) over)
    other)
    (places p.0 q.0)
both-apart Ps Rs parts r s (inl p) (inr q) over = one-apart p.1 Rs r s (parts.one p.0 p.1 p.2) (inl p.3) (inr q) over
both-apart Ps Rs parts r s (inr p) (inl q) over = one-apart q.1 Rs r s (parts.one q.0 q.1 q.2) (inr p) (inl q.3) over
both-apart Ps Rs parts r s (inr p) (inr q) over = apart-at [] Rs r s parts.none p q over

pub roots-by-parts : (Ps : List Parts) (Rs : List Rule) → ArePartsApart Ps Rs → AreRootsApart Ps Rs
roots-by-parts Ps Rs parts i j r s at_i at_j over =
    both-apart Ps Rs parts r s (source Ps Rs r (in-place (all_roots Ps Rs) i r at_i)) (source Ps Rs s (in-place (all_roots Ps Rs) j s at_j)) over

pub roots-to-parts : (Ps : List Parts) (Rs : List Rule) → AreRootsApart Ps Rs → ArePartsApart Ps Rs
roots-to-parts Ps Rs apart = record {
  two = λ i j P Q less at_i at_j. fewer-apart Ps (P ∷ Q ∷ []) Rs [] (two-of Ps i j P Q at_i at_j) (none-of Rs) apart;
  one = λ i P at. fewer-apart Ps (P ∷ []) Rs Rs (one-of Ps i P at) (all-of Rs) apart;
  none = fewer-apart Ps [] Rs Rs (λ P m. none-of Ps P m) (all-of Rs) apart;
}

-- Where no different roots are nested, what is safe anywhere is safe, and the other way round.
use Rattle.std.proofs.Common.{◌≡◌, inl, inr, ⊎_elim, subst, ◌∙◌, ℕ, List, [], ◌∷◌, ◌++◌, length, drop, refl, sym, ap}
use Rattle.std.specs.Prelude.{Contains, slice_get, Some, IsTrue}
use Rattle.hub_path.specs.Path.{Path, is_over}
use Rattle.hub_path.specs.laws.General.{is_over-reflexive}
use Rattle.hub_text.specs.laws.List.{in-place, to-map}
use Rattle.hub_profile.specs.Parts.{Parts, has_root}
use Rattle.hub_reach.specs.Reach.{may_at}
use Rattle.hub_reach.specs.Safe.{Breach, IsSafe, Rule}
use Rattle.hub_parts.specs.Nested.{IsSafeAnywhere, WideBreach}
use Rattle.hub_parts.specs.Whole.{AreRootsApart}
use Rattle.hub_parts.proofs.Clashes.{own-root, plain-wide, roots-meet, wide-plain}
use Rattle.hub_parts.proofs.Coordinates.{drop-own}
use Rattle.hub_parts.proofs.RootParts.{one-apart}
use Rattle.hub_parts.proofs.Whole.{all-of, fewer-apart, none-of, one-of, two-of}

pub from-anywhere : (Ps : List Parts) (Rs : List Rule) → AreRootsApart Ps Rs × IsSafeAnywhere Ps Rs → IsSafe Ps Rs
from-anywhere Ps Rs safe = record {
  apart = safe.0;
  no_clash = λ i j P Q at_i at_j off clash. safe.1.no_clash i j P Q at_i at_j off (plain-wide P Q clash);
  no_breach = λ i k P R at at_k b. safe.1.no_breach i k P R at at_k (R.root, b.0, b.0, b.1, refl, b.2, b.3, b.4);
}

rest-is : (r p q : Path) → r ++ p ≡ r ++ q → p ≡ q
rest-is r p q e = sym (drop-own r p) ∙ (ap (drop (length r)) e ∙ drop-own r q)

-- A breach at roots that aren't nested is one at the rule's root.
plain-breach : (Ps : List Parts) (Rs : List Rule) → AreRootsApart Ps Rs → (i k : ℕ) (P : Parts) (R : Rule) → slice_get Ps i ≡ Some P
    → slice_get Rs k ≡ Some R → WideBreach P R → Breach P R
plain-breach Ps Rs apart i k P R at at_k b =
    let own : Contains P.roots b.0 = own-root P b.0 b.3 in
    let ruled = to-map (λ (S : Rule). S.root) Rs R (in-place Rs k R at_k) in
    let all : AreRootsApart (P ∷ []) Rs = fewer-apart Ps (P ∷ []) Rs Rs (one-of Ps i P at) (all-of Rs) apart in
    let over : IsTrue (is_over (b.0 ++ b.1) (R.root ++ b.2)) =
    subst (λ t. IsTrue (is_over (b.0 ++ b.1) t)) b.4 (is_over-reflexive (b.0 ++ b.1)) in
    let same : b.0 ≡ R.root = ⊎_elim
    (λ h. one-apart P Rs b.0 R.root all (inl own) (inr ruled) h)
    (λ h. sym (one-apart P Rs R.root b.0 all (inr ruled) (inl own) h))
    (roots-meet b.0 R.root b.1 b.2 over) in
    let rest : b.1 ≡ b.2 = rest-is R.root b.1 b.2 (sym (ap (λ s. s ++ b.1) same) ∙ b.4) in (
      b.1,
      subst (λ s. IsTrue (has_root P s)) same b.3,
      b.5,
      subst (λ s. IsTrue (may_at P s b.1 R.verb)) same b.6,
      subst (λ t. IsTrue (R.matches t)) (sym rest) b.7,
    )

pub to-anywhere : (Ps : List Parts) (Rs : List Rule) → IsSafe Ps Rs → AreRootsApart Ps Rs × IsSafeAnywhere Ps Rs
to-anywhere Ps Rs safe = (
  safe.apart,
  record {
    no_clash = λ i j P Q at_i at_j off clash.
        safe.no_clash i j P Q at_i at_j off
        (wide-plain P Q (fewer-apart Ps (P ∷ Q ∷ []) Rs [] (two-of Ps i j P Q at_i at_j) (none-of Rs) safe.apart) clash);
    no_breach = λ i k P R at at_k b.
        safe.no_breach i k P R at at_k (plain-breach Ps Rs safe.apart i k P R at at_k b);
  },
)

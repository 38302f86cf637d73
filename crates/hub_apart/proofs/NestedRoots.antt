-- Where no two profiles have nested roots, no two different roots are nested.
use Rattle.std.proofs.Common.{◌≡◌, ⊎_elim, ◌<◌, ℕ, zero, suc, Bool, false, List, [], ◌∷◌, ◌++◌, Some, sym, subst, arith, ◌∙◌}
use Rattle.std.specs.Prelude.{slice_get, ◌↔◌}
use Rattle.std.specs.List.{list_any}
use Rattle.std.proofs.lemmas.Bool.{false≢true, or_left, or_right}
use Rattle.std.proofs.lemmas.Option.{none-some, same_Some}
use Rattle.hub_path.specs.Path.{Path}
use Rattle.hub_profile.specs.Parts.{IsProfile, Parts}
use Rattle.hub_reach.specs.Safe as safe
use Rattle.hub_reach.specs.Safe.{all_roots}
use Rattle.hub_parts.specs.Whole.{ArePartsApart, AreRootsApart}
use Rattle.hub_apart.specs.Apart.{any_two, have_nested}
use Rattle.hub_apart.specs.UnisonLines.{AreValid}
use Rattle.hub_apart.proofs.Items.{none-at, not-true}
use Rattle.hub_apart.proofs.WithoutLines.{At, append-at, roots-over, two-apart}

abbrev pub ByParts : Type 0
ByParts = (Ps : List Parts) (Rs : List safe.Rule) → AreRootsApart Ps Rs ↔ ArePartsApart Ps Rs

-- Of no two profiles the test holds.
no-two : (test : Parts → Parts → Bool) (Ps : List Parts) (i j : ℕ) (P Q : Parts) → any_two test Ps ≡ false → i < j
    → slice_get Ps i ≡ Some P → slice_get Ps j ≡ Some Q → test P Q ≡ false
no-two test [] i j P Q none l at_i at_j = absurd (none-some P at_i)
no-two test (X ∷ Ps) i zero P Q none l at_i at_j = absurd (omega (arith, l))
no-two test (X ∷ Ps) zero (suc j) P Q none l at_i at_j =
    none-at (test P) Ps j Q
    (subst (λ Y. list_any (λ R. test Y R) Ps ≡ false) (same_Some X P at_i)
    (not-true (list_any (λ R. test X R) Ps)
    (λ some. false≢true (sym none ∙ or_left (list_any (λ R. test X R) Ps) (any_two test Ps) some))))
    at_j
no-two test (X ∷ Ps) (suc i) (suc j) P Q none l at_i at_j =
    no-two test Ps i j P Q
    (not-true (any_two test Ps) (λ some. false≢true (sym none ∙ or_right (list_any (λ R. test X R) Ps) (any_two test Ps) some)))
    (omega (arith, l)) at_i at_j

-- The roots of one profile.
one-apart : (P : Parts) → IsProfile P → AreRootsApart (P ∷ []) []
one-apart P valid i j r s at_r at_s over = roots-over P r s valid (own i r at_r) (own j s at_s) over
  where
    own : (k : ℕ) (t : Path) → slice_get (all_roots (P ∷ []) []) k ≡ Some t → At P.roots t
    own k t at = ⊎_elim
        (λ a. ⊎_elim (λ b. b) (λ b. absurd (none-some t b.1)) (append-at P.roots [] a.0 t a.1))
        (λ a. absurd (none-some t a.1))
        (append-at (P.roots ++ []) [] k t at)

pub not-nested-apart : ByParts → (Ps : List Parts) → AreValid Ps → any_two have_nested Ps ≡ false → AreRootsApart Ps []
not-nested-apart by Ps valid none = (by Ps []).1 (record {
  two = λ i j P Q l at_i at_j.
      two-apart P Q (valid i P at_i) (valid j Q at_j) (no-two have_nested Ps i j P Q none l at_i at_j);
  one = λ i P at. one-apart P (valid i P at);
  none = λ i j r s at_r at_s over. absurd (none-some r at_r);
})

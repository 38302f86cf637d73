-- Lines of pairs to which those of one pair more are added.
use Rattle.std.proofs.Common.{◌≡◌, ◌∙◌, ◌<◌, ⊎_elim, inr, ℕ, List, [], ◌∷◌, ◌++◌, refl, ap, subst, arith, append_assoc}
use Rattle.std.specs.Prelude.{slice_get, Some}
use Rattle.std.proofs.lemmas.List.Elements.{Contains-append_left, Contains-append_right, Contains-append_cases}
use Rattle.hub_text.specs.laws.List.{cons-cases, cons-here}
use Rattle.hub_profile.specs.Parts.{Parts}
use Rattle.hub_cert.specs.declared.fault.CheckFault.{CheckFault}
use Rattle.hub_apart.specs.ApartLines.{Adds}
use Rattle.hub_apart.specs.NestedLines.{AreLinesOfNear, HasLinesOfNear, IsRefusedNear}
use Rattle.hub_apart.specs.UnisonLines.{AreLinesOfPairs, IsRefusedPair}

pub no-pairs : (Ps : List Parts) → AreLinesOfPairs Ps [] []
no-pairs Ps = record { of_two = λ i j m. let l = m.1 in absurd (omega (arith, l)); each = λ e has. let l = has.1 in absurd (omega (arith, l)) }

pairs-more : (Ps : List Parts) (pairs : List (ℕ × ℕ)) (i j : ℕ) (es own : List CheckFault) → AreLinesOfPairs Ps pairs es → HasLinesOfNear Ps i j own
    → AreLinesOfPairs Ps (pairs ++ (i, j) ∷ []) (es ++ own)
pairs-more Ps pairs i j es own old new = record {
  of_two = λ a b m. ⊎_elim
      (λ before. let w = old.of_two a b before in (w.0, w.1, λ e has. Contains-append_left es own e (w.2 e has)))
      (λ here. ⊎_elim
      (λ same. (own, subst (λ (p : ℕ × ℕ). HasLinesOfNear Ps p.0 p.1 own) same new, λ e has. Contains-append_right es own e has))
      (λ none. let l = none.1 in absurd (omega (arith, l)))
      (cons-cases (i, j) (a, b) [] here))
      (Contains-append_cases pairs ((i, j) ∷ []) (a, b) m);
  each = λ e has. ⊎_elim
      (λ before.
      let w = old.each e before in
      (w.0, w.1, (w.2.0, w.2.1, Contains-append_left pairs ((i, j) ∷ []) (w.2.0, w.2.1) w.2.2, w.2.3)))
      (λ here. (own, here, (i, j, Contains-append_right pairs ((i, j) ∷ []) (i, j) (cons-here (i, j) (i, j) [] refl), new)))
      (Contains-append_cases es own e has);
}

pub one-pair-more : (Ps : List Parts) (pairs : List (ℕ × ℕ)) (i j : ℕ) (old mid new : List CheckFault) → Adds (AreLinesOfPairs Ps pairs) old mid
    → Adds (HasLinesOfNear Ps i j) mid new → Adds (AreLinesOfPairs Ps (pairs ++ (i, j) ∷ [])) old new
one-pair-more Ps pairs i j old mid new a b = (
  a.0 ++ b.0,
  pairs-more Ps pairs i j a.0 b.0 a.1 b.1,
  b.2 ∙ (ap (λ (xs : List CheckFault). xs ++ b.0) a.2 ∙ append_assoc old a.0 b.0),
)

-- What is refused of two of the profiles.
pub refused-pair : (Ps : List Parts) (i j : ℕ) (P Q : Parts) (e : CheckFault) → i < j → slice_get Ps i ≡ Some P → slice_get Ps j ≡ Some Q
    → IsRefusedNear P Q e → IsRefusedPair Ps e
refused-pair Ps i j P Q e less at_i at_j h = inr (i, j, P, Q, less, at_i, at_j, h)

-- The lines of two of the profiles.
pub added-pair : (Ps : List Parts) (i j : ℕ) (P Q : Parts) (old new : List CheckFault) → i < j → slice_get Ps i ≡ Some P → slice_get Ps j ≡ Some Q
    → Adds (AreLinesOfNear P Q i j) old new → Adds (HasLinesOfNear Ps i j) old new
added-pair Ps i j P Q old new less at_i at_j a =
    (a.0, record { first = P; second = Q; before = less; at_first = at_i; at_second = at_j; lines = a.1 }, a.2)

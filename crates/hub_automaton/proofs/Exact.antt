-- Spots that compare as equal are equal, and the other way round.
use Rattle.std.proofs.Common.{◌≡◌, ◌∙◌, true, refl, sym, ap, subst}
use Rattle.std.specs.Prelude.{nat_eq, ◌↔◌}
use Rattle.std.specs.Bool.{beq}
use Rattle.std.specs.Cmp.Lexicographic.{pointwise}
use Rattle.std.specs.declared.cmp.Ordering.TheVariants.{Equal}
use Rattle.std.specs.Ordering.{is_eq}
use Rattle.std.proofs.lemmas.Slice.Eq.{bytes_eq-Decides}
use Rattle.std.proofs.lemmas.Bool.{and_from, and_parts}
use Rattle.hub_text.specs.laws.Exact.{bool_exact}
use Rattle.hub_text.specs.laws.Test.{is_eq-equal}
use Rattle.hub_automaton.specs.Spots.{PackedState}
use Rattle.hub_automaton.specs.contracts.spec_set.SpotsPartialEq.TheImpl as tested
use Rattle.hub_automaton.specs.contracts.spec_set.SpotsOrd.TheImpl as ordered
use Rattle.hub_automaton.specs.contracts.spec_set.SpotsOrd.TheImpl.Laws as ordered_laws

spots_exact : (a b : PackedState) → tested.eq-value.it a b ≡ true → a ≡ b
spots_exact a b h =
    let w = and_parts (pointwise nat_eq a.row b.row) (beq a.start b.start) h in
    let row = (bytes_eq-Decides a.row b.row).0 w.0 in
    let start = (bool_exact a.start b.start).0 w.1 in
    (λ i. let s : PackedState = record { row = row i; start = start i } in s)

itself : (a : PackedState) → tested.eq-value.it a a ≡ true
itself a = and_from (pointwise nat_eq a.row a.row) (beq a.start a.start) ((bytes_eq-Decides a.row a.row).1 refl) ((bool_exact a.start a.start).1 refl)

pub spots_equal : (a b : PackedState) → (tested.eq-value.it a b ≡ true) ↔ (a ≡ b)
spots_equal a b = (spots_exact a b, λ e. subst (λ c. tested.eq-value.it a c ≡ true) e (itself a))

pub spots_tied : (a b : PackedState) → (ordered.cmp-value.it a b ≡ Equal) ↔ (a ≡ b)
spots_tied a b = (
  λ h. spots_exact a b (ordered_laws.matches_eq-law a b ∙ ap is_eq h),
  λ e. is_eq-equal (ordered.cmp-value.it a b) (sym (ordered_laws.matches_eq-law a b) ∙ (spots_equal a b).1 e),
)

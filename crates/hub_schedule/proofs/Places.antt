-- Where the replicas of a profile's roots stand.
use Rattle.std.proofs.Common.{◌≡◌, ◌⊎◌, ◌-◌, inl, inr, ℕ, List, [], ◌∷◌, ◌++◌, length, Some, slice_get, slice_index_or, refl, ap, sym, ◌∙◌, length-append, arith}
use Rattle.hub_text.specs.laws.List.{snoc-new}
use Rattle.hub_path.specs.Path.{Path}
use Rattle.hub_path.specs.declared.side.Side.TheVariants.{Left, Right}
use Rattle.hub_profile.specs.Parts.{Parts, IsProfile, at_side}
use Rattle.hub_reconcile.specs.Sync.{root_or_top}
use Rattle.hub_job.specs.Run.{root_at}
use Rattle.hub_job.specs.laws.Roots.{two_roots, has_own}
use Rattle.hub_schedule.specs.declared.slot.WorkingTree.{WorkingTree}
use Rattle.hub_schedule.specs.Table.{IsTreeNumber, AddsTrees}

-- The replica that was put last.
pub placed_last : (old new : List WorkingTree) (t : WorkingTree) (n : ℕ) → new ≡ old ++ t ∷ [] → n ≡ length new → IsTreeNumber new t.root.now (n - 1)
placed_last old new t n e count =
    let last : n - 1 ≡ length old = omega (arith, count, ap length e, length-append old (t ∷ [])) in
    (t, ap (slice_get new) last ∙ (ap (λ ts. slice_get ts (length old)) e ∙ snoc-new old t), refl)

module _ (P : Parts) (facts : IsProfile P) (rs : List Path) (is : rs ≡ P.roots) (d : Path) where
  pub left_is : slice_index_or rs 0 d ≡ root_at P Left
  left_is =
      let two = two_roots P.roots facts.roots in
      ap (λ qs. slice_index_or qs 0 d) (is ∙ two.are) ∙ sym (ap (λ qs. root_or_top (at_side qs Left)) two.are)

  pub right_is : slice_index_or rs 1 d ≡ root_at P Right
  right_is =
      let two = two_roots P.roots facts.roots in
      ap (λ qs. slice_index_or qs 1 d) (is ∙ two.are) ∙ sym (ap (λ qs. root_or_top (at_side qs Right)) two.are)

-- Replicas were put for the left root, and then for the right one.
pub both_put : (P : Parts) → IsProfile P → (old mid new : List WorkingTree) (l r : Path) → l ≡ root_at P Left → r ≡ root_at P Right
    → ((k : ℕ) (t : WorkingTree) → slice_get old k ≡ Some t → slice_get mid k ≡ Some t)
    → ((k : ℕ) (t : WorkingTree) → slice_get mid k ≡ Some t → (slice_get old k ≡ Some t) ⊎ (t.root.now ≡ l))
    → ((k : ℕ) (t : WorkingTree) → slice_get mid k ≡ Some t → slice_get new k ≡ Some t)
    → ((k : ℕ) (t : WorkingTree) → slice_get new k ≡ Some t → (slice_get mid k ≡ Some t) ⊎ (t.root.now ≡ r)) → AddsTrees P old new
both_put P facts old mid new l r l_is r_is more rest more2 rest2 = record {
  kept = λ k t e. more2 k t (more k t e);
  rest = λ k t e. elim (rest2 k t e) [
    | inl h ↦ elim (rest k t h) [
      | inl g ↦ inl g
      | inr g ↦ inr (has_own P facts Left t.root.now (g ∙ l_is))
    ]
    | inr h ↦ inr (has_own P facts Right t.root.now (h ∙ r_is))
  ];
}

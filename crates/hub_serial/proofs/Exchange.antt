-- Turns of jobs that don't clash commute.
use Rattle.std.proofs.Common.{◌≡◌, ◌≢◌, inl, inr, Bool, true, false, cond, List, Option, Some, None, refl, ap, sym, ◌∙◌}
use Rattle.std.specs.Prelude.{◌⊎◌, ℕ, slice_get}
use Rattle.std.specs.List.{list_all}
use Rattle.std.specs.Ordering.{is_lt}
use Rattle.std.proofs.lemmas.Bool.{and_from}
use Rattle.hub_path.specs.Path.{Path, path_cmp}
use Rattle.hub_path.specs.laws.General.{is_over-reflexive}
use Rattle.hub_path.specs.declared.side.Side.TheVariants.{Left, Right}
use Rattle.hub_profile.specs.Parts.{Parts, IsProfile, at_side}
use Rattle.hub_reach.specs.Reach.{has_root}
use Rattle.hub_reach.specs.Safe.{Clash, share_archive}
use Rattle.hub_reconcile.specs.Sync.{root_or_top}
use Rattle.hub_job.specs.Same.{AsksMay}
use Rattle.hub_job.specs.Run.{root_at}
use Rattle.hub_job.specs.laws.Roots.{two_roots, has_own}
use Rattle.hub_serial.specs.World.{RootPair, World, pair_of, turn_of, turn}
use Rattle.hub_serial.specs.Clash.{AreProfiles, JobsClash}
use Rattle.hub_serial.proofs.Commute.{AnswersAlike, AreApart, OthersAlike, acts_commute}

-- Profiles of one pair share an archive.
abbrev two : Path → Path → RootPair
two a b = (a, b)

same_roots_by : (a b c d : Path) (x y : Bool) → cond x (two b a) (two a b) ≡ cond y (two d c) (two c d) → ((a ≡ c) × (b ≡ d)) ⊎ ((a ≡ d) × (b ≡ c))
same_roots_by a b c d true true e = inl (λ i. (e i).1, λ i. (e i).0)
same_roots_by a b c d true false e = inr (λ i. (e i).1, λ i. (e i).0)
same_roots_by a b c d false true e = inr (λ i. (e i).0, λ i. (e i).1)
same_roots_by a b c d false false e = inl (λ i. (e i).0, λ i. (e i).1)

both_roots : (P Q : Parts) → IsProfile P → has_root Q (root_at P Left) ≡ true → has_root Q (root_at P Right) ≡ true → share_archive P Q ≡ true
both_roots P Q facts a b =
    let two = two_roots P.roots facts.roots in
    let first : root_at P Left ≡ two.first = ap (λ rs. root_or_top (at_side rs Left)) two.are in
    let second : root_at P Right ≡ two.second = ap (λ rs. root_or_top (at_side rs Right)) two.are in
    ap (list_all (has_root Q)) two.are
    ∙ and_from (has_root Q two.first) _ (ap (has_root Q) (sym first) ∙ a)
    (and_from (has_root Q two.second) true (ap (has_root Q) (sym second) ∙ b) refl)

sharing_by : (P Q : Parts) → IsProfile P → IsProfile Q
    → ((root_at P Left ≡ root_at Q Left) × (root_at P Right ≡ root_at Q Right)) ⊎ ((root_at P Left ≡ root_at Q Right) × (root_at P Right ≡ root_at Q Left)) → share_archive P Q ≡ true
sharing_by P Q facts more (inl e) = both_roots P Q facts (has_own Q more Left (root_at P Left) e.0) (has_own Q more Right (root_at P Right) e.1)
sharing_by P Q facts more (inr e) = both_roots P Q facts (has_own Q more Right (root_at P Left) e.0) (has_own Q more Left (root_at P Right) e.1)

sharing : (P Q : Parts) → IsProfile P → IsProfile Q → pair_of P ≡ pair_of Q → share_archive P Q ≡ true
sharing P Q facts more e =
    sharing_by P Q facts more (same_roots_by (root_at P Left) (root_at P Right) (root_at Q Left) (root_at Q Right)
    (is_lt (path_cmp (root_at P Right) (root_at P Left))) (is_lt (path_cmp (root_at Q Right) (root_at Q Left))) e)

pub are_apart : (P Q : Parts) → IsProfile P → IsProfile Q → (Clash P Q ⊎ Clash Q P → ⊥) → AreApart P Q
are_apart P Q facts more free = record {
  writes = λ r p q. (λ o. free (inl (inl (r, p, q, o))), λ o. free (inr (inl (r, q, p, o))));
  marks = λ e p a b. free (inl (inr (sharing P Q facts more e, (p, p, is_over-reflexive p, a, b))));
}

pub clashing_turned : (Ps : List Parts) (i k : ℕ) → JobsClash Ps i k → JobsClash Ps k i
clashing_turned Ps i k (P, Q, p, q, inl h) = (Q, P, q, p, inr h)
clashing_turned Ps i k (P, Q, p, q, inr h) = (Q, P, q, p, inl h)

module _ (asks : AsksMay) (answers : AnswersAlike) (others : OthersAlike) (Ps : List Parts) (facts : AreProfiles Ps) where
  turns_by : (i k : ℕ) (w : World) (o u : Option Parts) → slice_get Ps i ≡ o → slice_get Ps k ≡ u → i ≢ k → (JobsClash Ps i k → ⊥)
      → turn_of i (turn_of k w u) o ≡ turn_of k (turn_of i w o) u
  turns_by i k w None u e f off free = refl
  turns_by i k w (Some P) None e f off free = refl
  turns_by i k w (Some P) (Some Q) e f off free =
      acts_commute asks answers others P Q (are_apart P Q (facts i P e) (facts k Q f) (λ clash. free (P, Q, e, f, clash))) i k off w

  pub turns_commute : (i k : ℕ) (w : World) → i ≢ k → (JobsClash Ps i k → ⊥) → turn Ps i (turn Ps k w) ≡ turn Ps k (turn Ps i w)
  unfolding turn
  turns_commute i k w off free = turns_by i k w (slice_get Ps i) (slice_get Ps k) refl refl off free

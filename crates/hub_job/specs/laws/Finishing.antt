-- A job alone finishes, and leaves the defined synchronization.
use Rattle.std.proofs.Common.{◌≡◌, ◌≤◌, ◌+◌, ◌-◌, ◌*◌, List, [], ◌∷◌, length, Some, refl, ap, sym, ◌∙◌, subst, arith, length-append}
use Rattle.std.specs.Prelude.{ℕ, zero, suc}
use Rattle.std.specs.FinMap as fin
use Rattle.std.proofs.lemmas.Option.{same_Some}
use Rattle.hub_path.specs.Path.{Path}
use Rattle.hub_path.specs.declared.side.Side.{Side}
use Rattle.hub_profile.specs.Parts.{Parts, IsProfile}
use Rattle.hub_tree.specs.Sets.{sets, each}
use Rattle.hub_tree.specs.Tree.{Replica, Archive, IsTree, contents_at}
use Rattle.hub_tree.specs.declared.contents.Mark.{Mark}
use Rattle.hub_tree.specs.declared.contents.Mark.TheVariants as mark
use Rattle.hub_reconcile.specs.Picture.{view_by}
use Rattle.hub_reconcile.specs.View.{View}
use Rattle.hub_reconcile.specs.Items.{other, plan}
use Rattle.hub_reconcile.specs.Sides.{paths_on}
use Rattle.hub_reconcile.specs.Sync.{of_side, view_of}
use Rattle.hub_reconcile.specs.declared.change.Change.{Change}
use Rattle.hub_reconcile.specs.laws.Synced.{synced}
use Rattle.hub_reconcile.specs.laws.Counts.{plan_within}
use Rattle.hub_reconcile.specs.laws.Needed.{known, known_length, unseen_all}
use Rattle.hub_job.specs.declared.op.Next.{Next}
use Rattle.hub_job.specs.declared.op.Next.TheVariants.{Ask, Finished, Stopped}
use Rattle.hub_job.specs.declared.job_end.End.TheVariants as end
use Rattle.hub_job.specs.Ends.{end_by}
use Rattle.hub_job.specs.Job.{steps_of, next}
use Rattle.hub_job.specs.Run.{Pair, on_side, pair_run, pair_opening, IsSynced}
use Rattle.hub_job.specs.laws.Making.{flat_steps, turn_is, makes, next_end, sum_more}
use Rattle.hub_job.specs.laws.Looking.{at, log_by, all_looks, looked_view, looked_ready}

-- A job whose end is that it is finished asks nothing next.
pub finished_by : (n : Next) → end_by n ≡ end.Finished → n ≡ Finished
finished_by (Ask side op) e = cc
finished_by Finished e = refl
finished_by Stopped e = cc

two_steps : (side : Side) (p : Path) (m : Mark) → length (steps_of side p m) ≤ 2
two_steps side p (mark.File d) = omega arith
two_steps side p mark.Directory = omega arith
two_steps side p mark.Absent = omega arith

steps_within : (cs : List Change) → length (flat_steps cs) ≤ 2 * length cs
steps_within [] = omega arith
steps_within (c ∷ cs) =
    omega (
      arith,
      length-append (steps_of c.side c.path c.mark) (flat_steps cs),
      two_steps c.side c.path c.mark,
      steps_within cs,
    )

pub stays_finished : (P : Parts) (O : Archive) (j n : ℕ) (w : Pair) → next P O w.log ≡ Finished
    → pair_run P O j n w ≡ w
unfolding pair_run
stays_finished P O j zero w e = refl
stays_finished P O j (suc n) w e = turn_is P O j n w Finished e ∙ stays_finished P O j n w e

pub rest_of : (m n : ℕ) → m ≤ n → n ≡ m + (n - m)
rest_of m n h = omega (arith, h)

both_within : (a b c d : ℕ) → a ≤ c → b ≤ d → a + b ≤ c + d
both_within a b c d h g = omega (arith, h, g)

within : (a b n : ℕ) → a ≤ b → b ≤ n → a ≤ n
within a b n h g = omega (arith, h, g)

module _ (P : Parts) (facts : IsProfile P) (A B : Replica) (O : Archive) (left : IsTree A)
    (right : IsTree B) (j : ℕ) where
  abbrev V : View
  V = view_of P A B O

  abbrev Ends : ℕ → Pair → Type 0
  Ends m w = ((n : ℕ) → pair_run P O j (m + n) (pair_opening A B) ≡ w)
      × (m ≤ 4 * length P.paths + 3 * (fin.len A + fin.len B)) × IsSynced P A B O w

  opens : (k : Side)
      → sets (of_side A B k) (each (contents_at (of_side A B (other k))) (paths_on k []))
      ≡ Some (of_side A B k)
  opens k = refl

  ends : (m : ℕ) × (w : Pair) × Ends m w
  ends =
      let fuel = length (known P A) + length (known P B) in
      let start = both_within _ _ _ _ (unseen_all (known P A) []) (unseen_all (known P B) []) in
      let l = all_looks P facts A B O left right j fuel [] start in
      let L = log_by P facts A B O left right j l.1 in
      let view = looked_view P facts A B O left right j l.1 l.4 in
      let m = makes P facts A B O left right j L view l.4 (plan V) []
      (at P facts A B O left right j l.1) refl (
        looked_ready P facts A B O left right j l.1,
        λ k. opens k,
      ) in
      let w = m.1 in
      let done = next_end P facts A B O left right j L view l.4 w.log m.4.0 in (
        l.0 + m.0,
        w,
        (
          λ n. ap (λ i. pair_run P O j i (pair_opening A B)) (sum_more l.0 m.0 n)
              ∙ (l.2 (m.0 + n) ∙ (m.2 n ∙ stays_finished P O j n w done)),
          omega (
            arith,
            l.3,
            m.3,
            known_length P A,
            known_length P B,
            steps_within (plan V),
            plan_within P facts A B O left right,
          ),
          record {
            finished = done;
            ok = m.4.0.ok;
            view = ap (view_by P O) (λ i k. m.4.0.told k i) ∙ view;
            trees = λ k. let s = synced P facts A B O left right k in
                subst (λ m. IsTree m) (same_Some s.0 (on_side w k) (sym s.1 ∙ m.4.1 k)) s.2;
            contents = λ k q. let s = synced P facts A B O left right k in
                ap (λ m. contents_at m q) (sym (same_Some s.0 (on_side w k) (sym s.1 ∙ m.4.1 k)))
                ∙ s.3 q;
          },
        ),
      )

  pub job_ends : (n : ℕ) → 4 * length P.paths + 3 * (fin.len A + fin.len B) ≤ n
      → IsSynced P A B O (pair_run P O j n (pair_opening A B))
  job_ends n h =
      let e = ends in
      subst (λ w. IsSynced P A B O w)
      (sym (ap (λ i. pair_run P O j i (pair_opening A B)) (rest_of e.0 n (within e.0 _ n e.2.1 h))
      ∙ e.2.0 (n - e.0))) e.2.2

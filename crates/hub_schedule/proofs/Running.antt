-- The clauses of what jobs leave, for the world after a schedule.
use Rattle.std.proofs.Common.{◌≡◌, Bool, true, false, cond, List, [], ◌∷◌, Option, Some, None, refl, ap, sym, ◌∙◌, subst}
use Rattle.std.specs.Prelude.{ℕ, zero, suc, IsTrue, slice_get}
use Rattle.std.specs.List.{list_any}
use Rattle.std.proofs.lemmas.Bool.{false≢true, or_left, or_right}
use Rattle.hub_reconcile.specs.laws.Views.{same_paths}
use Rattle.hub_path.specs.Path.{Path, path_eq}
use Rattle.hub_path.specs.declared.side.Side.{Side}
use Rattle.hub_profile.specs.Parts.{Parts, at_side, some_passes}
use Rattle.hub_reach.specs.Reach.{has_root}
use Rattle.hub_tree.specs.Tree.{Replica, contents_at}
use Rattle.hub_job.specs.declared.op.Op.{Op}
use Rattle.hub_job.specs.declared.op.Next.{Next}
use Rattle.hub_job.specs.declared.op.Next.TheVariants.{Ask, Finished, Stopped}
use Rattle.hub_job.specs.Job.{next}
use Rattle.hub_job.specs.Machine.{after}
use Rattle.hub_job.specs.World.{World, Jobs, log_of, event, act, turn_of, turn, run, opening}
use Rattle.hub_schedule.specs.Settled.{IsSettledWorld}
use Rattle.hub_schedule.specs.Together.{left_at, OwnPathsAreAlone, ElsewhereIsAsBefore}
use Rattle.hub_job.specs.laws.Roots.{has_its_root}

pub world_own : (J : Jobs) (replicas : Path → Replica) (w : World) → IsSettledWorld J replicas w → OwnPathsAreAlone J replicas (left_at replicas w.history) (log_of w) → OwnPathsAreAlone J replicas w.replica (log_of w)
world_own J replicas w settled own = λ j P r q is has h. ap (λ m. contents_at m q) (settled.replayed r) ∙ own j P r q is has h

pub world_elsewhere : (J : Jobs) (replicas : Path → Replica) (w : World) (r : Path) → IsSettledWorld J replicas w → ElsewhereIsAsBefore J.profiles r (replicas r) (left_at replicas w.history r)
    → ElsewhereIsAsBefore J.profiles r (replicas r) (w.replica r)
world_elsewhere J replicas w r settled stays = λ q never. ap (λ m. contents_at m q) (settled.replayed r) ∙ stays q never

-- A replica of no profile is never changed.
listed : (t : Parts → Bool) (Ps : List Parts) (j : ℕ) (P : Parts) → slice_get Ps j ≡ Some P → t P ≡ true → list_any t Ps ≡ true
listed t [] j P is h = cc
listed t (Q ∷ Ps) zero P is h = or_left (t Q) (list_any t Ps) (ap (some_passes t) is ∙ h)
listed t (Q ∷ Ps) (suc j) P is h = or_right (t Q) (list_any t Ps) (listed t Ps j P is h)

abbrev IsForeign : Jobs → Path → Type 0
IsForeign J r = list_any (λ P. has_root P r) J.profiles ≡ false

event_foreign : (J : Jobs) (i : ℕ) (Q : Parts) (r : Path) (w : World) (side : Side) (op : Op) (o : Option Path) → slice_get J.profiles i ≡ Some Q → IsForeign J r → at_side Q.roots side ≡ o → (event Q i side op w o).replica r ≡ w.replica r
event_foreign J i Q r w side op None is none at = refl
event_foreign J i Q r w side op (Some s) is none at =
    elim (path_eq s r) as (λ b. path_eq s r ≡ b → cond b (after (w.replica s) op) (w.replica r) ≡ w.replica r) [
      | true ↦ λ e. absurd (false≢true (sym none ∙ listed (λ P. has_root P r) J.profiles i Q is (subst (λ t. IsTrue (has_root Q t)) (same_paths s r e) (has_its_root Q side s at))))
      | false ↦ λ e. refl
    ] refl

act_foreign : (J : Jobs) (i : ℕ) (Q : Parts) (r : Path) (w : World) (n : Next) → slice_get J.profiles i ≡ Some Q → IsForeign J r → (act Q i w n).replica r ≡ w.replica r
act_foreign J i Q r w (Ask side op) is none = event_foreign J i Q r w side op (at_side Q.roots side) is none refl
act_foreign J i Q r w Finished is none = refl
act_foreign J i Q r w Stopped is none = refl

turn_foreign : (J : Jobs) (i : ℕ) (r : Path) (w : World) (o : Option Parts) → slice_get J.profiles i ≡ o → IsForeign J r → (turn_of J i w o).replica r ≡ w.replica r
turn_foreign J i r w None is none = refl
turn_foreign J i r w (Some Q) is none = act_foreign J i Q r w (next Q (J.archive i) (log_of w i)) is none

run_foreign : (J : Jobs) (r : Path) (js : List ℕ) (w : World) → IsForeign J r → (run J js w).replica r ≡ w.replica r
unfolding run turn
run_foreign J r [] w none = refl
run_foreign J r (j ∷ js) w none = run_foreign J r js (turn J j w) none ∙ turn_foreign J j r w (slice_get J.profiles j) refl none

pub foreign_stays : (J : Jobs) (replicas : Path → Replica) (js : List ℕ) (r : Path) → list_any (λ P. has_root P r) J.profiles ≡ false → (run J js (opening J replicas)).replica r ≡ replicas r
foreign_stays J replicas js r none = run_foreign J r js (opening J replicas) none

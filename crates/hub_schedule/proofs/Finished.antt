-- A finished job stays as it is, and what it has left alone is one synchronization.
use Rattle.std.proofs.Common.{◌≡◌, ◌≤◌, ◌+◌, ◌-◌, ◌*◌, length, Some, refl, ap, ◌∙◌, subst, arith}
use Rattle.std.specs.Prelude.{ℕ, zero, suc, slice_get, replicate}
use Rattle.std.specs.FinMap as fin
use Rattle.hub_job.specs.laws.Finishing.{rest_of}
use Rattle.hub_job.specs.laws.Making.{none_more}
use Rattle.hub_path.specs.Path.{Path}
use Rattle.hub_path.specs.declared.side.Side.TheVariants.{Left, Right}
use Rattle.hub_profile.specs.Parts.{Parts, IsProfile}
use Rattle.hub_tree.specs.Tree.{Replica, IsTree}
use Rattle.hub_job.specs.declared.op.Next.{Next}
use Rattle.hub_job.specs.declared.op.Next.TheVariants.{Finished, Stopped}
use Rattle.hub_job.specs.Job.{next}
use Rattle.hub_job.specs.Run.{root_at, world_for, IsSynced}
use Rattle.hub_job.specs.World.{World, Jobs, log_of, act, turn_of, turn, run, opening, alone}
use Rattle.hub_job.specs.laws.LoneJobs.{alone_synchronizes}

one_more : (m n : ℕ) → suc m + n ≡ suc (m + n)
one_more m n = omega arith

first_within : (m n : ℕ) → m ≤ m + n
first_within m n = omega arith

second_within : (m n : ℕ) → n ≤ m + n
second_within m n = omega arith

run-more : (J : Jobs) (j m n : ℕ) (w : World) → run J (replicate (m + n) j) w ≡ run J (replicate n j) (run J (replicate m j) w)
unfolding run
run-more J j zero n w = ap (λ k. run J (replicate k j) w) (none_more n)
run-more J j (suc m) n w = ap (λ k. run J (replicate k j) w) (one_more m n) ∙ run-more J j m n (turn J j w)

rests : (J : Jobs) (P : Parts) (j n : ℕ) (w : World) (x : Next) → slice_get J.profiles j ≡ Some P → next P (J.archive j) (log_of w j) ≡ x → act P j w x ≡ w → run J (replicate n j) w ≡ w
unfolding run turn
rests J P j zero w x is does same = refl
rests J P j (suc n) w x is does same = ap (run J (replicate n j)) (ap (turn_of J j w) is ∙ (ap (act P j w) does ∙ same)) ∙ rests J P j n w x is does same

still : (J : Jobs) (P : Parts) (j n : ℕ) (w : World) → slice_get J.profiles j ≡ Some P → next P (J.archive j) (log_of w j) ≡ Finished → run J (replicate n j) w ≡ w
still J P j n w is done = rests J P j n w Finished is done refl

-- A job that is stopped by its log stays so.
pub alone_stopped : (J : Jobs) (P : Parts) (replicas : Path → Replica) (j m n : ℕ) → slice_get J.profiles j ≡ Some P → next P (J.archive j) (alone J replicas j m) ≡ Stopped
    → alone J replicas j (m + n) ≡ alone J replicas j m
alone_stopped J P replicas j m n is stopped =
    let w : World = opening J replicas in
    ap (λ v. log_of v j) (run-more J j m n w ∙ rests J P j n (run J (replicate m j) w) Stopped is stopped refl)

-- A job that is finished after m turns alone is where it was after any more of them.
pub alone_enough : (J : Jobs) (P : Parts) (replicas : Path → Replica) (j m n : ℕ) → slice_get J.profiles j ≡ Some P → next P (J.archive j) (alone J replicas j m) ≡ Finished → m ≤ n
    → run J (replicate n j) (opening J replicas) ≡ run J (replicate m j) (opening J replicas)
alone_enough J P replicas j m n is done h =
    ap (λ k. run J (replicate k j) (opening J replicas)) (rest_of m n h)
    ∙ (run-more J j m (n - m) (opening J replicas) ∙ still J P j (n - m) (run J (replicate m j) (opening J replicas)) is done)

pub finished_synced : (J : Jobs) (P : Parts) (replicas : Path → Replica) (j n : ℕ) → slice_get J.profiles j ≡ Some P → IsProfile P → IsTree (replicas (root_at P Left)) → IsTree (replicas (root_at P Right))
    → next P (J.archive j) (alone J replicas j n) ≡ Finished
    → IsSynced P (replicas (root_at P Left)) (replicas (root_at P Right)) (J.archive j) (world_for P j (run J (replicate n j) (opening J replicas)))
finished_synced J P replicas j n is facts left right done =
    let turns = 4 * length P.paths + 3 * (fin.len (replicas (root_at P Left)) + fin.len (replicas (root_at P Right))) in
    subst (λ w. IsSynced P (replicas (root_at P Left)) (replicas (root_at P Right)) (J.archive j) (world_for P j w))
    (alone_enough J P replicas j n (n + turns) is done (first_within n turns))
    (alone_synchronizes P facts j J is (n + turns) replicas left right (second_within n turns))

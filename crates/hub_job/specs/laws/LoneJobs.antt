-- Where one job alone takes turns, the world is for it two replicas that nobody else changes.
use Rattle.std.proofs.Common.{◌≡◌, ◌<◌, ◌≤◌, ◌+◌, ◌*◌, [], ◌∷◌, ◌++◌, length, Option, Some, None, refl, ap, sym, ◌∙◌, subst, length-set}
use Rattle.std.specs.Prelude.{ℕ, zero, suc, slice_get, replicate}
use Rattle.std.specs.FinMap as fin
use Rattle.std.proofs.lemmas.List.{get_or-set_same}
use Rattle.hub_path.specs.Path.{Path}
use Rattle.hub_path.specs.declared.side.Side.{Side}
use Rattle.hub_path.specs.declared.side.Side.TheVariants.{Left, Right}
use Rattle.hub_profile.specs.Parts.{Parts, IsProfile, at_side}
use Rattle.hub_tree.specs.Tree.{Replica, IsTree, contents_at}
use Rattle.hub_reconcile.specs.laws.Views.{paths_same}
use Rattle.hub_job.specs.declared.op.Op.{Op}
use Rattle.hub_job.specs.declared.op.Next.{Next}
use Rattle.hub_job.specs.declared.op.Next.TheVariants.{Ask, Finished, Stopped}
use Rattle.hub_job.specs.Job.{next}
use Rattle.hub_job.specs.World.{World, Jobs, log_of, event, act, turn_of, turn, run, opening}
use Rattle.hub_job.specs.Run.{changed_at, on_side, root_at, logged, act_on, world_for, pair_run, pair_opening, IsSynced}
use Rattle.hub_job.specs.laws.Logs.{a_log_each, open_log}
use Rattle.hub_job.specs.laws.Finishing.{job_ends}
use Rattle.hub_job.specs.laws.Roots.{side_root, left_not_right, right_not_left}

replica_on : (P : Parts) (j : ℕ) (k : Side) (w : World)
    → w.replica (root_at P k) ≡ on_side (world_for P j w) k
replica_on P j Left w = refl
replica_on P j Right w = refl

pub by_side : (P : Parts) (j : ℕ) (k : Side) (w : World) (q : Path)
    → contents_at (w.replica (root_at P k)) q ≡ contents_at (on_side (world_for P j w) k) q
by_side P j k w q = ap (λ m. contents_at m q) (replica_on P j k w)

module _ (P : Parts) (facts : IsProfile P) (j : ℕ) where
  -- An operation on a side changes the replica of that side's root.
  changed_root : (side k : Side) (op : Op) (w : World)
      → (event P j side op w (Some (root_at P side))).replica (root_at P k)
      ≡ changed_at side op k (w.replica (root_at P k))
  changed_root Left Left op w = rw (paths_same (root_at P Left))
  changed_root Left Right op w = rw (left_not_right P facts j)
  changed_root Right Left op w = rw (right_not_left P facts j)
  changed_root Right Right op w = rw (paths_same (root_at P Right))

  event_pair : (side : Side) (op : Op) (w : World) → j < length w.logs
      → world_for P j (event P j side op w (Some (root_at P side))) ≡ act_on P j (world_for P j w)
      (Ask side op)
  event_pair side op w h =
      let log = get_or-set_same w.logs j
      (log_of w j ++ logged P j side op (w.replica (root_at P side)) ∷ []) [] h
      ∙ ap (λ m. log_of w j ++ logged P j side op m ∷ []) (replica_on P j side w) in
      λ i. record {
        log = log i;
        left = changed_root side Left op w i;
        right = changed_root side Right op w i;
      }

  event_logs : (side : Side) (op : Op) (w : World) (o : Option Path)
      → length (event P j side op w o).logs ≡ length w.logs
  event_logs side op w None = refl
  event_logs side op w (Some r) = length-set w.logs j _

  act_pair : (w : World) (n : Next) → j < length w.logs
      → world_for P j (act P j w n) ≡ act_on P j (world_for P j w) n
  act_pair w (Ask side op) h =
      ap (λ o. world_for P j (event P j side op w o)) (side_root P facts j side)
      ∙ event_pair side op w h
  act_pair w Finished h = refl
  act_pair w Stopped h = refl

  act_logs : (w : World) (n : Next) → length (act P j w n).logs ≡ length w.logs
  act_logs w (Ask side op) = event_logs side op w (at_side P.roots side)
  act_logs w Finished = refl
  act_logs w Stopped = refl

  module _ (J : Jobs) (is : slice_get J.profiles j ≡ Some P) where
    turn_is_act : (w : World) → turn J j w ≡ act P j w (next P (J.archive j) (log_of w j))
    unfolding turn
    turn_is_act w = ap (turn_of J j w) is

    pub run_pair : (n : ℕ) (w : World) → j < length w.logs
        → world_for P j (run J (replicate n j) w) ≡ pair_run P (J.archive j) j n (world_for P j w)
    unfolding run pair_run
    run_pair zero w h = refl
    run_pair (suc n) w h =
        ap (λ v. world_for P j (run J (replicate n j) v)) (turn_is_act w)
        ∙ (run_pair n (act P j w (next P (J.archive j) (log_of w j)))
        (subst (λ l. j < l) (sym (act_logs w (next P (J.archive j) (log_of w j)))) h)
        ∙ ap (pair_run P (J.archive j) j n) (act_pair w (next P (J.archive j) (log_of w j)) h))

    pub open_pair : (replicas : Path → Replica)
        → world_for P j (opening J replicas) ≡ pair_opening (replicas (root_at P Left))
        (replicas (root_at P Right))
    open_pair replicas = ap (λ l. record {
      log = l;
      left = replicas (root_at P Left);
      right = replicas (root_at P Right);
    }) (open_log J.profiles j)

    pub alone_synchronizes : (n : ℕ) (replicas : Path → Replica)
        → IsTree (replicas (root_at P Left)) → IsTree (replicas (root_at P Right))
        → 4 * length P.paths
        + 3 * (fin.len (replicas (root_at P Left)) + fin.len (replicas (root_at P Right))) ≤ n
        → IsSynced P (replicas (root_at P Left)) (replicas (root_at P Right)) (J.archive j)
        (world_for P j (run J (replicate n j) (opening J replicas)))
    alone_synchronizes n replicas left right h =
        let e = run_pair n (opening J replicas) (a_log_each J.profiles j P is)
        ∙ ap (pair_run P (J.archive j) j n) (open_pair replicas) in
        subst (λ v. IsSynced P (replicas (root_at P Left)) (replicas (root_at P Right))
        (J.archive j) v) (sym e)
        (job_ends P facts (replicas (root_at P Left)) (replicas (root_at P Right))
        (J.archive j) left right j n h)

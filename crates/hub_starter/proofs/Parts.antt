-- The part of each job in a serial run.
use Rattle.std.proofs.Common.{◌≡◌, ◌≢◌, ◌<◌, true, false, cond, not, List, [], ◌∷◌, length, Some, refl, ap, sym, ◌∙◌, subst, arith}
use Rattle.std.specs.Prelude.{◌==◌, ℕ, zero, suc, filter, slice_get, replicate}
use Rattle.std.specs.List.{list_any}
use Rattle.std.proofs.lemmas.Bool.{false≢true}
use borrow.Author.Tests.{eqb-true}
use Rattle.hub_profile.specs.Parts.{Parts, some_passes}
use Rattle.hub_tree.specs.Tree.{contents_at, old_mark_at}
use Rattle.hub_job.specs.declared.job_end.End.{End}
use Rattle.hub_job.specs.declared.job_end.End.TheVariants as end
use Rattle.hub_job.specs.declared.job_end.JobEnd.{JobEnd}
use Rattle.hub_job.specs.declared.log.Logged.{Logged}
use Rattle.hub_job.specs.Ends.{is_finished}
use Rattle.hub_job.specs.Job.{is_refused}
use Rattle.hub_job.specs.Run.{root_at}
use Rattle.hub_job.specs.Same.{own_turns}
use Rattle.hub_state.specs.State.{State}
use Rattle.hub_text.specs.laws.List.{has-item}
use Rattle.hub_schedule.specs.Promise.{log_or_none}
use Rattle.hub_serial.specs.Clash.{AreProfiles, JobsClash}
use Rattle.hub_serial.specs.Schedule.{NoneInterleave, jobs_in_order, serial_turns}
use Rattle.hub_serial.specs.Serial.{IsFresh, IsSyncOf, IsWorkOf, LeaveWorkInTurn, OfTreesAndArchives, WorkInTurn}
use Rattle.hub_serial.specs.World.{World, opening, pair_of, run, turn}
use Rattle.hub_starter.specs.InOrder.{IsPartOf, PartsInOrder}
use Rattle.hub_starter.specs.Opened.{items_of_end, world_of}
use Rattle.hub_starter.proofs.Numbers.{Distinct, all_replicated, has, has_here, has_later, has_not_both, has_replicated, has_serial_turns, itself}
use Rattle.hub_starter.proofs.Frames.{AllTrees, AreAlike, SetsKeepTrees, alike_turns, append_turns, left_by_turns, open_turns, others_turns, trees_turns}

-- What hub_serial says of each schedule.
abbrev pub JobsWorkInTurn : Type 0
JobsWorkInTurn = OfTreesAndArchives (λ Ps js replicas archives. NoneInterleave (JobsClash Ps) js
    → LeaveWorkInTurn Ps js replicas archives)

replicated_at : (j n c i : ℕ) → slice_get (replicate n j) c ≡ Some i → i ≡ j
replicated_at j zero c i e = cc
replicated_at j (suc n) zero i e = cc
replicated_at j (suc n) (suc c) i e = replicated_at j n c i e

one_alone : (Ps : List Parts) (j n : ℕ) → NoneInterleave (JobsClash Ps) (replicate n j)
one_alone Ps j n a b c i k l m e f g off clash =
    off (replicated_at j n b k f ∙ sym (replicated_at j n a i e))

abbrev without : ℕ → List ℕ → List ℕ
without j xs = filter (λ i. not (i == j)) xs

none_over : (j : ℕ) (xs : List ℕ) → without j (without j xs) ≡ without j xs
none_over j [] = refl
none_over j (x ∷ xs) =
    elim (x == j) as (λ b. (x == j) ≡ b
    → without j (cond (not b) (x ∷ without j xs) (without j xs))
    ≡ cond (not b) (x ∷ without j xs) (without j xs)) [
      | true ↦ λ e. none_over j xs
      | false ↦ λ e. ap (λ b. cond (not b) (x ∷ without j (without j xs)) (without j (without j xs))) e
          ∙ ap (λ ys. x ∷ ys) (none_over j xs)
    ] refl

none_left : (j n : ℕ) → without j (jobs_in_order (replicate n j)) ≡ []
none_left j zero = refl
none_left j (suc n) =
    ap (λ b. cond (not b) (j ∷ without j (without j (jobs_in_order (replicate n j))))
    (without j (without j (jobs_in_order (replicate n j))))) (itself j)
    ∙ (none_over j (jobs_in_order (replicate n j)) ∙ none_left j n)

one_in_order : (j n : ℕ) → jobs_in_order (replicate (suc n) j) ≡ j ∷ []
one_in_order j n = ap (λ ys. j ∷ ys) (none_left j n)

-- What a fresh job leaves of trees in turns of its own.
pub record IsWork (P : Parts) (j : ℕ) (w v : World) : Type 0 where
  pub ok : list_any (λ e. is_refused e.step.answer) (v.log j) ≡ false
  pub sync : v.done j ≡ true → IsSyncOf P j w v

module _ (works : JobsWorkInTurn) (Ps : List Parts) (facts : AreProfiles Ps) (P : Parts) (j : ℕ)
    (is : slice_get Ps j ≡ Some P) where
  of_work : (n : ℕ) (w v : World) → (u : World) × IsWorkOf Ps j n w u v × (u ≡ v)
      → IsWork P j w v
  of_work n w v (u, work, same) =
      subst (λ x. IsWork P j w x) same (record { ok = work.ok P is; sync = work.sync P is })

  at_opening : (n : ℕ) (w : World) → AllTrees w
      → IsWork P j (opening w.replica w.archive)
      (run Ps (replicate (suc n) j) (opening w.replica w.archive))
  at_opening n w trees =
      let js = replicate (suc n) j in
      let start = opening w.replica w.archive in
      of_work (length (own_turns j js)) start (run Ps js start)
      (subst (λ L. WorkInTurn Ps (λ i. length (own_turns i js)) (run Ps js start) L start)
      (one_in_order j n) (works Ps js w.replica w.archive facts trees (one_alone Ps j (suc n))))

  own_job : (l : ℕ) → (l == j) ≡ true → l ≡ j
  own_job l e = eqb-true l j e

  alike_start : (w : World) → IsFresh w j → w.items j ≡ []
      → AreAlike (λ l. l == j) (opening w.replica w.archive) w
  alike_start w fresh none = record {
    replica = refl;
    archive = refl;
    log = λ l h. sym (ap w.log (own_job l h) ∙ fresh.log);
    done = λ l h. sym (ap w.done (own_job l h) ∙ fresh.done);
    items = λ l h. sym (ap w.items (own_job l h) ∙ none);
  }

  same_sync : (w u v : World) → AreAlike (λ l. l == j) u v
      → IsSyncOf P j (opening w.replica w.archive) u → IsSyncOf P j w v
  same_sync w u v a s = record {
    contents = λ k q. ap (λ R. contents_at (R (root_at P k)) q) (sym a.replica) ∙ s.contents k q;
    marks = λ q. ap (λ A. old_mark_at (A (pair_of P)) q) (sym a.archive) ∙ s.marks q;
    ok = ap (list_any (λ (e : Logged). is_refused e.step.answer)) (sym (a.log j (itself j))) ∙ s.ok;
    items = sym (a.items j (itself j)) ∙ s.items;
    replicas = λ r h. ap (λ R. R r) (sym a.replica) ∙ s.replicas r h;
    archives = λ k h. ap (λ A. A k) (sym a.archive) ∙ s.archives k h;
  }

  from_opening : (n : ℕ) (w : World) → AllTrees w → IsFresh w j → w.items j ≡ []
      → IsWork P j w (run Ps (replicate (suc n) j) w)
  from_opening n w trees fresh none =
      let js = replicate (suc n) j in
      let start = opening w.replica w.archive in
      let a = alike_turns (λ l. l == j) Ps js start w
      (λ l h. ap (λ x. x == j) (all_replicated j l (suc n) h) ∙ itself j)
      (alike_start w fresh none) in
      let work = at_opening n w trees in
      record {
        ok = ap (list_any (λ (e : Logged). is_refused e.step.answer)) (sym (a.log j (itself j)))
            ∙ work.ok;
        sync = λ d. same_sync w (run Ps js start) (run Ps js w) a
            (work.sync (a.done j (itself j) ∙ d));
      }

  pub does_its_work : (n : ℕ) (w : World) → AllTrees w → IsFresh w j → w.items j ≡ []
      → IsWork P j w (run Ps (replicate n j) w)
  does_its_work zero w trees fresh none = record {
    ok = ap (list_any (λ (e : Logged). is_refused e.step.answer)) fresh.log;
    sync = λ d. absurd (false≢true (sym fresh.done ∙ d));
  }
  does_its_work (suc n) w trees fresh none = from_opening n w trees fresh none

-- How a job ends as the world shows.
not_done : (x : End) → x ≢ end.Finished → is_finished x ≡ false
not_done end.Finished off = absurd (off refl)
not_done end.Stopped off = refl
not_done end.Unfinished off = refl

module _ (works : JobsWorkInTurn) (sets : SetsKeepTrees) (Ps : List Parts)
    (facts : AreProfiles Ps) (S : State) (jobs : List JobEnd) (all : length jobs ≡ length Ps)
    (turns : ℕ → ℕ) where
  -- A job that has made no operation, has no items, and isn't done.
  abbrev pub AreFresh : List ℕ → World → Type 0
  AreFresh L w = (l : ℕ) → has l L ≡ true → IsFresh w l × (w.items l ≡ [])

  its_part : (j : ℕ) (P : Parts) (e : JobEnd) (w v : World) → slice_get Ps j ≡ Some P
      → slice_get jobs j ≡ Some e → AllTrees w → IsFresh w j × (w.items j ≡ [])
      → v ≡ run Ps (replicate (turns j) j) w → (world_of S jobs).log j ≡ v.log j
      → (world_of S jobs).done j ≡ v.done j → (world_of S jobs).items j ≡ v.items j
      → IsPartOf Ps j P e w v
  its_part j P e w v is at trees fresh so log done its =
      let n = turns j in
      let work = does_its_work works Ps facts P j is n w trees fresh.0 fresh.1 in
      let same_log : e.log ≡ v.log j =
      ap (λ o. log_or_none o) (sym at) ∙ log in
      let same_done : is_finished e.end ≡ v.done j =
      ap (λ o. some_passes (λ (x : JobEnd). is_finished x.end) o)
      (sym at) ∙ done in
      record {
        turns = n;
        alone = so;
        log = same_log;
        items = ap (λ o. items_of_end o) (sym at) ∙ its;
        ok = ap (list_any (λ (l : Logged). is_refused l.step.answer))
            (same_log ∙ ap (λ (x : World). x.log j) so) ∙ work.ok;
        finished = λ f. subst (λ x. IsSyncOf P j w x) (sym so)
            (work.sync (ap (λ (x : World). x.done j) (sym so) ∙ (sym same_done ∙ ap is_finished f)));
        stopped = λ off. ap (λ (x : World). x.archive) so
            ∙ (open_turns Ps j n w
            (ap (λ (x : World). x.done j) (sym so) ∙ (sym same_done ∙ not_done e.end off))).archive;
        others = λ r h. ap (λ (x : World). x.replica r) so ∙ others_turns Ps P j n w r is h;
      }

  pub in_parts : (L : List ℕ) (w : World) → Distinct L
      → ((l : ℕ) → has l L ≡ true → l < length Ps) → AllTrees w → AreFresh L w
      → world_of S jobs ≡ run Ps (serial_turns turns L) w
      → PartsInOrder Ps jobs L w (world_of S jobs)
  in_parts [] w d within trees fresh so = sym so
  in_parts (j ∷ L) w d within trees fresh so =
      let n = turns j in
      let v = run Ps (replicate n j) w in
      let last = run Ps (serial_turns turns L) v in
      let cut : world_of S jobs ≡ last =
      so ∙ append_turns (turn Ps) (replicate n j) (serial_turns turns L) w in
      let below = within j (has_here j L) in
      let P = has-item Ps j below in
      let e = has-item jobs j (omega (arith, below, all)) in
      let rest = left_by_turns Ps j (serial_turns turns L) v (has_serial_turns turns j L d.0) in
      let part = its_part j P.0 e.0 w v P.1 e.1 trees (fresh j (has_here j L)) refl
      (ap (λ (x : World). x.log j) cut ∙ rest.log) (ap (λ (x : World). x.done j) cut ∙ rest.done)
      (ap (λ (x : World). x.items j) cut ∙ rest.items) in
      let later : AreFresh L v = λ l h.
      (let own = left_by_turns Ps l (replicate n j) w (has_replicated j l n (has_not_both j l L d.0 h)) in
      let old = fresh l (has_later l j L h) in (
        record { log = own.log ∙ old.0.log; done = own.done ∙ old.0.done },
        own.items ∙ old.1,
      )) in (
        P.0,
        e.0,
        v,
        P.1,
        e.1,
        part,
        in_parts L v d.1 (λ l h. within l (has_later l j L h))
            (trees_turns sets Ps (replicate n j) w trees) later cut,
      )

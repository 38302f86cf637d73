-- A job of a safe set that is stopped lost a turn.
use Rattle.std.proofs.Common.{◌≡◌, ◌≢◌, ◌<◌, ◌≤◌, ◌+◌, List, [], ◌∷◌, ◌++◌, length, Option, Some, None, ap, sym, ◌∙◌, subst, arith, length-append}
use Rattle.std.specs.Prelude.{◌==◌, ℕ, zero, suc, slice_get, slice_set, slice_index_or, replicate}
use Rattle.std.proofs.lemmas.List.Sums.{length-filter}
use Rattle.hub_path.specs.Path.{Path}
use Rattle.hub_path.specs.declared.side.Side.{Side}
use Rattle.hub_profile.specs.Parts.{Parts, at_side}
use Rattle.hub_tree.specs.Tree.{Replica}
use Rattle.hub_state.specs.State.{State}
use Rattle.hub_job.specs.declared.log.Logged.{Logged}
use Rattle.hub_job.specs.declared.op.Next.{Next}
use Rattle.hub_job.specs.declared.op.Next.TheVariants.{Ask, Finished, Stopped}
use Rattle.hub_job.specs.declared.op.Op.{Op}
use Rattle.hub_job.specs.declared.outcome.Outcome.{Outcome}
use Rattle.hub_job.specs.Job.{next}
use Rattle.hub_job.specs.Outcome.{archive_of, jobs_of, replicas_of, IsOutcomeOf, LosesTurns}
use Rattle.hub_job.specs.Same.{NoneClash, own_turns}
use Rattle.hub_job.specs.World.{World, Jobs, log_of, entry, event, act, turn_of, turn, run, opening, alone, first_turns}
use Rattle.hub_schedule.specs.Simulated.{turns_of, turns_enough, StoppedLostTurns, TurnsSuffice}
use Rattle.hub_schedule.proofs.Finished.{alone_stopped}
use Rattle.hub_schedule.proofs.Settling.{empty_log}
use Rattle.hub_schedule.proofs.Simulated.{LogsAlone}
use Rattle.hub_schedule.proofs.Turns.{within_limit}

-- A log is at most as long as the turns of its job.
set_log : (logs : List (List Logged)) (j : ℕ) (log : List Logged) → length (slice_index_or (slice_set logs j log) j []) ≤ length log
set_log [] j log = omega arith
set_log (l ∷ logs) zero log = omega arith
set_log (l ∷ logs) (suc j) log = set_log logs j log

one_more : (a b c : ℕ) → a ≤ b → b ≡ c + 1 → a ≤ c + 1
one_more a b c h e = omega (arith, h, e)

no_more : (a : ℕ) → a ≤ a + 1
no_more a = omega arith

event_log : (P : Parts) (j : ℕ) (side : Side) (op : Op) (w : World) (r : Option Path) → length (log_of (event P j side op w r) j) ≤ length (log_of w j) + 1
event_log P j side op w None = no_more (length (log_of w j))
event_log P j side op w (Some r) =
    let x : Logged = record { side = side; step = entry P j r (w.replica r) op } in
    one_more (length (log_of (event P j side op w (Some r)) j)) (length (log_of w j ++ x ∷ [])) (length (log_of w j)) (set_log w.logs j (log_of w j ++ x ∷ [])) (length-append (log_of w j) (x ∷ []))

act_log : (P : Parts) (j : ℕ) (w : World) (n : Next) → length (log_of (act P j w n) j) ≤ length (log_of w j) + 1
act_log P j w (Ask side op) = event_log P j side op w (at_side P.roots side)
act_log P j w Finished = no_more (length (log_of w j))
act_log P j w Stopped = no_more (length (log_of w j))

turn_log : (J : Jobs) (j : ℕ) (w : World) (o : Option Parts) → length (log_of (turn_of J j w o) j) ≤ length (log_of w j) + 1
turn_log J j w None = no_more (length (log_of w j))
turn_log J j w (Some P) = act_log P j w (next P (J.archive j) (log_of w j))

first_of : (a : ℕ) → a ≤ a + 0
first_of a = omega arith

all_of : (a b c n : ℕ) → a ≤ b + n → b ≤ c + 1 → a ≤ c + suc n
all_of a b c n h g = omega (arith, h, g)

run_log : (J : Jobs) (j n : ℕ) (w : World) → length (log_of (run J (replicate n j) w) j) ≤ length (log_of w j) + n
unfolding run turn
run_log J j zero w = first_of (length (log_of w j))
run_log J j (suc n) w = all_of (length (log_of (run J (replicate n j) (turn J j w)) j)) (length (log_of (turn J j w) j)) (length (log_of w j)) n (run_log J j n (turn J j w)) (turn_log J j w (slice_get J.profiles j))

from_none : (a b n : ℕ) → a ≤ b + n → b ≡ 0 → a ≤ n
from_none a b n h e = omega (arith, h, e)

alone_log : (J : Jobs) (replicas : Path → Replica) (j n : ℕ) → length (alone J replicas j n) ≤ n
alone_log J replicas j n = from_none (length (alone J replicas j n)) (length (log_of (opening J replicas) j)) n (run_log J j n (opening J replicas)) (ap length (empty_log J.profiles j))

-- Its log doesn't stop it.
more_turns : (m n : ℕ) → m ≤ n + m
more_turns m n = omega arith

not_both : Stopped ≡ Finished → ⊥
not_both e = cc

module _ (S : State) (Ps : List Parts) (suffice : TurnsSuffice S Ps) where
  going : (j n : ℕ) (P : Parts) → slice_get Ps j ≡ Some P → next P (archive_of S (Some P)) (alone (jobs_of S Ps) (replicas_of S) j n) ≢ Stopped
  going j n P is stopped =
      let J : Jobs = jobs_of S Ps in
      let R : Path → Replica = replicas_of S in
      let m = turns_enough S P in
      let own : J.archive j ≡ archive_of S (Some P) = ap (archive_of S) is in
      let same : alone J R j (n + m) ≡ alone J R j n = alone_stopped J P R j n m is (ap (λ a. next P a (alone J R j n)) own ∙ stopped) in
      not_both (sym stopped ∙ (ap (next P (archive_of S (Some P))) (sym same) ∙ suffice j (n + m) P is (more_turns m n)))

  less_by : (a n m l c : ℕ) → a ≤ n → n ≡ m → m ≤ l → l < c → a < c
  less_by a n m l c h e g k = omega (arith, h, e, g, k)

  pub stopped_lost : LogsAlone → (limit : ℕ → ℕ) (schedule : List ℕ) (o : Outcome) → NoneClash Ps → IsOutcomeOf S Ps (first_turns limit schedule) o → LosesTurns S Ps limit schedule o
      → StoppedLostTurns S Ps schedule o
  stopped_lost law limit schedule o apart is lose = λ j P e there at ended.
      let J : Jobs = jobs_of S Ps in
      let R : Path → Replica = replicas_of S in
      let turns = first_turns limit schedule in
      let n = length (own_turns j turns) in
      let log : e.log ≡ alone J R j n = is.logs j e at ∙ law J P j turns R apart there in
      let off : next P (archive_of S (Some P)) e.log ≢ Stopped = λ h. going j n P there (ap (next P (archive_of S (Some P))) (sym log) ∙ h) in
      let x = lose j P e there at ended off in (
        less_by (length e.log) n (turns_of j turns) (limit j) (turns_of j schedule) (subst (λ l. length l ≤ n) (sym log) (alone_log J R j n))
            (length-filter (λ (i : ℕ). i == j) turns) (within_limit j schedule limit) x.0,
        x.1,
      )

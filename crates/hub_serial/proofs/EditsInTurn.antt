-- In a serial schedule of jobs and edits each job synchronizes what the ones before it left.
use Rattle.std.proofs.Common.{◌≡◌, true, false, List, [], ◌∷◌, ◌++◌, Option, Some, None, refl, ap, sym, ◌∙◌, subst}
use Rattle.std.specs.Prelude.{◌==◌, ℕ, zero, suc, slice_get, replicate}
use Rattle.std.specs.List.{list_any}
use Rattle.std.proofs.lemmas.Bool.{false≢true, or_left, or_right, or_parts, false_from_ne_true}
use Rattle.std.proofs.lemmas.Option.{same_Some}
use borrow.Author.Tests.{eqb-true}
use Rattle.hub_path.specs.declared.side.Side.TheVariants.{Left, Right}
use Rattle.hub_profile.specs.Parts.{Parts, IsProfile}
use Rattle.hub_job.specs.declared.log.Logged.{Logged}
use Rattle.hub_job.specs.Job.{is_refused}
use Rattle.hub_serial.specs.Schedule.{after_turns, serial_turns}
use Rattle.hub_serial.specs.World.{World, next_for, turn, turn_of}
use Rattle.hub_serial.specs.Clash.{AreProfiles}
use Rattle.hub_serial.specs.Serial.{IsFresh, IsSyncOf}
use Rattle.hub_serial.specs.Edits.{Actor, AreActors, IsPartOf, PartsInTurn, actor_turn, actor_turn_of}
use Rattle.hub_serial.specs.Edits.Actor.{Job, Edit}
use Rattle.hub_serial.proofs.Traces.{itself}
use Rattle.hub_serial.proofs.Lone.{enough, unrefused}
use Rattle.hub_serial.proofs.InTurn.{Distinct, IsLeftAlone, append_turns, has, has_not_both, has_replicated, has_serial_turns, left_by_act, left_more, whole}

-- Turns of an actor that is a job are those of the job in a list of profiles that has its profile at its number.
abbrev copies : ℕ → Parts → List Parts
copies j P = replicate (suc j) P

last_copy : (j : ℕ) (P : Parts) → slice_get (copies j P) j ≡ Some P
last_copy zero P = refl
last_copy (suc j) P = last_copy j P

all_copies : (n i : ℕ) (P Q : Parts) → slice_get (replicate n P) i ≡ Some Q → P ≡ Q
all_copies zero i P Q e = cc
all_copies (suc n) zero P Q e = same_Some P Q e
all_copies (suc n) (suc i) P Q e = all_copies n i P Q e

profiles : (j : ℕ) (P : Parts) → IsProfile P → AreProfiles (copies j P)
profiles j P facts i Q e = subst IsProfile (all_copies (suc j) i P Q e) facts

as_job : (As : List Actor) (j : ℕ) (P : Parts) → slice_get As j ≡ Some (Job P) → (w : World) → actor_turn As j w ≡ turn (copies j P) j w
unfolding actor_turn turn
as_job As j P is w = ap (actor_turn_of j w) is ∙ sym (ap (turn_of j w) (last_copy j P))

as_jobs : (As : List Actor) (j : ℕ) (P : Parts) → slice_get As j ≡ Some (Job P) → (n : ℕ) (w : World)
    → after_turns (actor_turn As) (replicate n j) w ≡ after_turns (turn (copies j P)) (replicate n j) w
as_jobs As j P is zero w = refl
as_jobs As j P is (suc n) w =
    ap (after_turns (actor_turn As) (replicate n j)) (as_job As j P is w) ∙ as_jobs As j P is n (turn (copies j P) j w)

-- Turns of other actors leave a job's log, whether it is done, and its items.
left_by_actor_of : (i l : ℕ) (w : World) (o : Option Actor) → (l == i) ≡ false → IsLeftAlone l w (actor_turn_of i w o)
left_by_actor_of i l w None e = record { log = refl; done = refl; items = refl }
left_by_actor_of i l w (Some (Job P)) e = left_by_act P i l w (next_for P i w) e
left_by_actor_of i l w (Some (Edit r p c)) e = record { log = refl; done = refl; items = refl }

left_by_actor : (As : List Actor) (i l : ℕ) (w : World) → (l == i) ≡ false → IsLeftAlone l w (actor_turn As i w)
unfolding actor_turn
left_by_actor As i l w e = left_by_actor_of i l w (slice_get As i) e

left_by_actors : (As : List Actor) (l : ℕ) (js : List ℕ) (w : World) → has l js ≡ false → IsLeftAlone l w (after_turns (actor_turn As) js w)
left_by_actors As l [] w e = record { log = refl; done = refl; items = refl }
left_by_actors As l (i ∷ js) w e =
    let two = or_parts (i == l) (has l js) e in
    left_more l w (actor_turn As i w) (after_turns (actor_turn As) js (actor_turn As i w))
    (left_by_actor As i l w (false_from_ne_true (l == i) (λ h. false≢true (sym two.0 ∙ (ap (λ x. i == x) (eqb-true l i h) ∙ itself i)))))
    (left_by_actors As l js (actor_turn As i w) two.1)

module _ (As : List Actor) (facts : AreActors As) where
  part_of : (j n : ℕ) (w end : World) → IsFresh w j → IsLeftAlone j (after_turns (actor_turn As) (replicate n j) w) end
      → IsPartOf As j n w (after_turns (actor_turn As) (replicate n j) w) end
  part_of j n w end fresh rest = record {
    alone = refl;
    log = rest.log;
    done = rest.done;
    items = rest.items;
    ok = λ P finds.
        subst (λ v. list_any (λ (e : Logged). is_refused e.step.answer) (v.log j) ≡ false) (sym (as_jobs As j P finds.job n w))
        (unrefused P (facts j (Job P) finds.job) j (copies j P) (last_copy j P) n w finds.trees fresh.log fresh.done);
    sync = λ P finds.
        subst (λ v. v.done j ≡ true → IsSyncOf P j w v) (sym (as_jobs As j P finds.job n w))
        (λ d. whole (copies j P) (profiles j P (facts j (Job P) finds.job)) j n w P finds.trees fresh (last_copy j P) d);
    enough = λ P finds l.
        ap (λ (v : World). v.done j) (as_jobs As j P finds.job n w)
        ∙ enough P (facts j (Job P) finds.job) j (copies j P) (last_copy j P) w fresh.log fresh.done (finds.trees Left) (finds.trees Right) n l;
  }

  pub parts_in_turn : (n : ℕ → ℕ) (L : List ℕ) (w : World) → Distinct L → ((l : ℕ) → has l L ≡ true → IsFresh w l)
      → PartsInTurn As n (after_turns (actor_turn As) (serial_turns n L) w) L w
  parts_in_turn n [] w d fresh = refl
  parts_in_turn n (j ∷ L) w d fresh =
      let v = after_turns (actor_turn As) (replicate (n j) j) w in
      let parts : after_turns (actor_turn As) (replicate (n j) j ++ serial_turns n L) w ≡ after_turns (actor_turn As) (serial_turns n L) v =
      append_turns (actor_turn As) (replicate (n j) j) (serial_turns n L) w in
      let here : has j (j ∷ L) ≡ true = or_left (j == j) (has j L) (itself j) in
      let rest = left_by_actors As j (serial_turns n L) v (has_serial_turns n j L d.0) in
      let fresh_more : (l : ℕ) → has l L ≡ true → IsFresh v l = λ l h.
      (let alone = left_by_actors As l (replicate (n j) j) w (has_replicated j l (n j) (has_not_both j l L d.0 h)) in
      let old = fresh l (or_right (j == l) (has l L) h) in
      record { log = alone.log ∙ old.log; done = alone.done ∙ old.done }) in
      subst (λ x. PartsInTurn As n x (j ∷ L) w) (sym parts) (
        v,
        part_of j (n j) w (after_turns (actor_turn As) (serial_turns n L) v) (fresh j here) rest,
        parts_in_turn n L v d.1 fresh_more,
      )

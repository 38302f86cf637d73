-- One wave after another.
use Rattle.std.proofs.Common.{◌≡◌, Bool, true, false, cond, List, [], ◌∷◌, ◌++◌, length, Option, Some, refl, ap, sym, ◌∙◌}
use Rattle.std.specs.Prelude.{ℕ, suc, replicate, slice_get}
use Rattle.std.proofs.lemmas.List.{append_assoc}
use Rattle.hub_profile.specs.Parts.{Parts, some_passes}
use Rattle.hub_state.specs.State.{State}
use Rattle.hub_job.specs.declared.job_end.JobEnd.{JobEnd}
use Rattle.hub_job.specs.Ends.{is_finished}
use Rattle.hub_runner.specs.Part.{without_turns}
use Rattle.hub_schedule.specs.Promise.{log_or_none}
use Rattle.hub_serial.specs.Schedule.{serial_turns}
use Rattle.hub_serial.specs.World.{World, run, turn}
use Rattle.hub_starter.specs.Opened.{items_of_end, opening_of, turns_in, world_of}
use Rattle.hub_starter.proofs.Numbers.{has, has_here, has_later, has_serial_turns, of_serial_turns}
use Rattle.hub_starter.proofs.Frames.{AreAlike, alike_turns, append_turns, left_by_turns}

pub same_turns : (m n : ℕ → ℕ) (L : List ℕ) → ((j : ℕ) → has j L ≡ true → m j ≡ n j)
    → serial_turns m L ≡ serial_turns n L
same_turns m n [] same = refl
same_turns m n (j ∷ L) same =
    let here = same j (has_here j L) in
    let rest = same_turns m n L (λ l h. same l (has_later l j L h)) in
    λ i. replicate (here i) j ++ rest i

serial_append : (n : ℕ → ℕ) (L M : List ℕ)
    → serial_turns n (L ++ M) ≡ serial_turns n L ++ serial_turns n M
serial_append n [] M = refl
serial_append n (j ∷ L) M =
    ap (λ xs. replicate (n j) j ++ xs) (serial_append n L M)
    ∙ sym (append_assoc (replicate (n j) j) (serial_turns n L) (serial_turns n M))

-- The ends of jobs, with those of a wave in their places.
pub record AreMerged (W : List ℕ) (earlier later all : List JobEnd) : Type 0 where
  pub own : (j : ℕ) → has j W ≡ true → slice_get all j ≡ slice_get later j
  pub old : (j : ℕ) → has j W ≡ false → slice_get all j ≡ slice_get earlier j

abbrev turns_of_end : Option JobEnd → ℕ
turns_of_end x = cond (some_passes (λ (e : JobEnd). is_finished e.end) x)
    (suc (length (log_or_none x))) (length (log_or_none x))

module _ (Ps : List Parts) (S T U : State) (earlier later all : List JobEnd) (L W : List ℕ)
    (merged : AreMerged W earlier later all)
    (apart : (j : ℕ) → has j L ≡ true → has j W ≡ false)
    (waits : (j : ℕ) → has j W ≡ true → (e : JobEnd) × (slice_get earlier j ≡ Some e)
    × (e ≡ without_turns))
    (before : world_of T earlier
    ≡ run Ps (serial_turns (turns_in (world_of T earlier)) L) (opening_of S))
    (wave : world_of U later
    ≡ run Ps (serial_turns (turns_in (world_of U later)) W) (opening_of T)) where
  abbrev n : ℕ → ℕ
  n = turns_in (world_of U all)

  abbrev mid : World
  mid = world_of T earlier

  abbrev last : World
  last = run Ps (serial_turns n W) mid

  -- The turns of each job are those of the wave that it is in.
  old_turns : (j : ℕ) → has j L ≡ true → turns_in (world_of T earlier) j ≡ n j
  old_turns j h = ap (λ x. turns_of_end x) (sym (merged.old j (apart j h)))

  new_turns : (j : ℕ) → has j W ≡ true → turns_in (world_of U later) j ≡ n j
  new_turns j h = ap (λ x. turns_of_end x) (sym (merged.own j h))

  to_last : run Ps (serial_turns n (L ++ W)) (opening_of S) ≡ last
  to_last =
      ap (λ js. run Ps js (opening_of S)) (serial_append n L W)
      ∙ (append_turns (turn Ps) (serial_turns n L) (serial_turns n W) (opening_of S)
      ∙ ap (λ w. run Ps (serial_turns n W) w)
      (ap (λ js. run Ps js (opening_of S)) (sym (same_turns (turns_in mid) n L old_turns))
      ∙ sym before))

  -- The jobs of the wave find what they find from the opening of the state.
  abbrev fresh : World
  fresh = run Ps (serial_turns n W) (opening_of T)

  is_fresh : world_of U later ≡ fresh
  is_fresh =
      wave ∙ ap (λ js. run Ps js (opening_of T)) (same_turns (turns_in (world_of U later)) n W new_turns)

  none_yet : (j : ℕ) → has j W ≡ true → slice_get earlier j ≡ Some without_turns
  none_yet j h = let w = waits j h in w.1 ∙ ap (λ e. Some e) w.2

  alike : AreAlike (λ j. has j W) fresh last
  alike = alike_turns (λ j. has j W) Ps (serial_turns n W) (opening_of T) mid
      (λ l h. of_serial_turns n l W h)
      (record {
        replica = refl;
        archive = refl;
        log = λ j h. sym (ap log_or_none (none_yet j h));
        done = λ j h. sym (ap (some_passes (λ (e : JobEnd). is_finished e.end)) (none_yet j h));
        items = λ j h. sym (ap items_of_end (none_yet j h));
      })

  log_by : (j : ℕ) (b : Bool) → has j W ≡ b → log_or_none (slice_get all j) ≡ last.log j
  log_by j true h =
      ap log_or_none (merged.own j h) ∙ (ap (λ (w : World). w.log j) is_fresh ∙ alike.log j h)
  log_by j false h =
      ap log_or_none (merged.old j h)
      ∙ sym (left_by_turns Ps j (serial_turns n W) mid (has_serial_turns n j W h)).log

  done_by : (j : ℕ) (b : Bool) → has j W ≡ b
      → some_passes (λ (e : JobEnd). is_finished e.end) (slice_get all j) ≡ last.done j
  done_by j true h =
      ap (some_passes (λ (e : JobEnd). is_finished e.end)) (merged.own j h)
      ∙ (ap (λ (w : World). w.done j) is_fresh ∙ alike.done j h)
  done_by j false h =
      ap (some_passes (λ (e : JobEnd). is_finished e.end)) (merged.old j h)
      ∙ sym (left_by_turns Ps j (serial_turns n W) mid (has_serial_turns n j W h)).done

  items_by : (j : ℕ) (b : Bool) → has j W ≡ b → items_of_end (slice_get all j) ≡ last.items j
  items_by j true h =
      ap items_of_end (merged.own j h)
      ∙ (ap (λ (w : World). w.items j) is_fresh ∙ alike.items j h)
  items_by j false h =
      ap items_of_end (merged.old j h)
      ∙ sym (left_by_turns Ps j (serial_turns n W) mid (has_serial_turns n j W h)).items

  same_world : world_of U all ≡ last
  same_world i = record {
    replica = (ap (λ (w : World). w.replica) is_fresh ∙ alike.replica) i;
    archive = (ap (λ (w : World). w.archive) is_fresh ∙ alike.archive) i;
    log = λ j. log_by j (has j W) refl i;
    done = λ j. done_by j (has j W) refl i;
    items = λ j. items_by j (has j W) refl i;
  }

  pub one_wave_more : world_of U all
      ≡ run Ps (serial_turns (turns_in (world_of U all)) (L ++ W)) (opening_of S)
  one_wave_more = same_world ∙ sym to_last

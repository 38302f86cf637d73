-- Outcomes of waves.
use Rattle.std.proofs.Common.{◌≡◌, ◌≢◌, inl, inr, Bool, true, false, cond, not, ◌&&◌, ◌||◌, ◌+◌, List, [], ◌∷◌, ◌++◌, length, Option, Some, None, refl, ap, sym, ◌∙◌, subst, arith}
use Rattle.std.specs.Prelude.{◌==◌, ◌<◌, ◌≤◌, ℕ, zero, suc, find, is_some, nat_lt, slice_get, unwrap_or, IsTrue}
use Rattle.std.specs.List.{flat_map, list_any, range_with_len}
use Rattle.std.proofs.lemmas.Bool.{false≢true, false_from_ne_true, or_left, or_right}
use Rattle.std.proofs.lemmas.Bool.Decides.{nat_tests}
use Rattle.std.proofs.lemmas.List.{append-nil, append_assoc}
use Rattle.std.proofs.lemmas.Option.{slice_get-map, slice_get_within}
use Rattle.std.specs.Option.{option_map}
use borrow.Author.Tests.{eqb-true}
use Rattle.hub_text.specs.laws.List.{has-item, range-push}
use Rattle.hub_path.specs.Path.{Path, is_place, path_eq}
use Rattle.hub_profile.specs.Parts.{Parts, some_passes}
use Rattle.hub_reach.specs.Reach.{has_root}
use Rattle.hub_tree.specs.Tree.{Replica}
use Rattle.hub_state.specs.State.{IsState, State, archive_at, replica_at}
use Rattle.hub_cert.specs.Set.{HasValidProfiles}
use Rattle.hub_job.specs.declared.job_end.End.TheVariants as end
use Rattle.hub_job.specs.declared.job_end.JobEnd.{JobEnd}
use Rattle.hub_job.specs.declared.log.Entry.{Entry}
use Rattle.hub_job.specs.Ends.{is_finished}
use Rattle.hub_job.specs.Outcome.{leaves_archive}
use Rattle.hub_job.specs.declared.outcome.Outcome.{Outcome}
use Rattle.hub_schedule.specs.Promise.{HasReplicas, Settles}
use Rattle.hub_schedule.specs.Refusals.{first_missing}
use Rattle.hub_schedule.specs.Simulated.{HaveEnded}
use Rattle.hub_schedule.specs.laws.Missing.{find_after, have_replicas, lacks}
use Rattle.hub_runner.specs.Order.{IsSettledBy}
use Rattle.hub_runner.specs.Part.{OthersWait, is_in, without_turns}
use Rattle.hub_runner.specs.declared.pairs.JobPair.{JobPair}
use Rattle.hub_serial.specs.Clash.{AreProfiles, JobsClash}
use Rattle.hub_serial.specs.Schedule.{AreEquivalent, serial_turns}
use Rattle.hub_serial.specs.World.{World, run}
use Rattle.hub_starter.specs.InOrder.{IsSerial, KeepsWhatIsThere}
use Rattle.hub_starter.specs.Opened.{opening_of, turns_in, world_of}
use Rattle.hub_starter.specs.Waved.{AreMergedEnds, IsAfterWaves, IsWaveOf, part_for}
use Rattle.hub_starter.specs.Waves.{AreWaves, WavesValue, jobs_by_wave, jobs_in_wave, wave_of}
use Rattle.hub_starter.proofs.Numbers.{Distinct, distinct_filtered, distinct_range, filtered_has, has, has_either, has_filtered, has_range, itself, lower_first, range_has}
use Rattle.hub_starter.proofs.Frames.{SetsKeepTrees}
use Rattle.hub_starter.proofs.Composed.{AreMerged, one_wave_more}
use Rattle.hub_starter.proofs.Orders.{equivalent_turns, none_shares, waves_are_in_order}
use Rattle.hub_starter.proofs.Pairs.{path_eq-reflexive, root_is_place}
use Rattle.hub_starter.proofs.Parts.{JobsWorkInTurn, in_parts}
use Rattle.hub_starter.proofs.OneWave.{EndsInAnyOrder, HistoriesAreSerial, wave_is_serial}
use Rattle.hub_starter.proofs.Trees.{state_trees}

-- Jobs of a wave.
module _ (numbers : List ℕ) (k : ℕ) where
  pub of_wave : (j : ℕ) → has j (jobs_in_wave numbers k) ≡ true
      → (j < length numbers) × ((wave_of numbers j == k) ≡ true)
  of_wave j h =
      let w = has_filtered (λ i. wave_of numbers i == k) j (range_with_len 0 (length numbers)) h in
      let r = has_range 0 (length numbers) j w.0 in
      let l = r.1 in (omega (arith, l), w.1)

  pub in_wave : (j : ℕ) → j < length numbers → (wave_of numbers j == k) ≡ true
      → has j (jobs_in_wave numbers k) ≡ true
  in_wave j l e =
      filtered_has (λ i. wave_of numbers i == k) j (range_with_len 0 (length numbers))
      (range_has 0 (length numbers) j (omega arith) (omega (arith, l))) e

  pub off_wave : (j : ℕ) → j < length numbers → has j (jobs_in_wave numbers k) ≡ false
      → (wave_of numbers j == k) ≡ false
  off_wave j l e =
      false_from_ne_true (wave_of numbers j == k) (λ h. false≢true (sym e ∙ in_wave j l h))

  pub distinct_wave : Distinct (jobs_in_wave numbers k)
  distinct_wave =
      distinct_filtered (λ i. wave_of numbers i == k) (range_with_len 0 (length numbers))
      (distinct_range 0 (length numbers))

  wave_at : (n : ℕ) (o : Option ℕ) → slice_get numbers n ≡ o → n < length numbers
      → unwrap_or (option_map (λ own. own == k) o) false ≡ (unwrap_or o 0 == k)
  wave_at n None at l =
      let x = has-item numbers n l in let h : None ≡ Some x.0 = sym at ∙ x.1 in cc
  wave_at n (Some x) at l = refl

  pub is_in_part : (j : ℕ) → j < length numbers
      → is_in (part_for numbers k) j ≡ (wave_of numbers j == k)
  is_in_part j l =
      ap (λ o. unwrap_or o false) (slice_get-map (λ own. own == k) numbers j)
      ∙ wave_at j (slice_get numbers j) refl l

-- Replicas that are there stay there.
find_none : (S : State) (rs : List Path)
    → ((r : Path) → list_any (λ own. path_eq own r) rs ≡ true → lacks S r ≡ false)
    → find (lacks S) rs ≡ None
find_none S [] there = refl
find_none S (r ∷ rs) there =
    ap (λ b. cond b (Some r) (find (lacks S) rs))
    (there r (or_left (path_eq r r) (list_any (λ own. path_eq own r) rs) (path_eq-reflexive r)))
    ∙ find_none S rs
    (λ q h. there q (or_right (path_eq r q) (list_any (λ own. path_eq own q) rs) h))

none_missing : (S : State) (Ps : List Parts)
    → ((j : ℕ) (P : Parts) (r : Path) → slice_get Ps j ≡ Some P → has_root P r ≡ true
    → lacks S r ≡ false)
    → first_missing S Ps ≡ None
none_missing S [] there = refl
none_missing S (P ∷ Ps) there =
    find_after (lacks S) P.roots (flat_map (λ (Q : Parts). Q.roots) Ps)
    (find_none S P.roots (λ r h. there 0 P r refl h))
    ∙ none_missing S Ps (λ j Q r is h. there (suc j) Q r is h)

pub still_there : (S : State) (Ps : List Parts) (pairs : List JobPair) (o : Outcome) → AreProfiles Ps → HasReplicas S Ps
    → IsSettledBy S Ps pairs o → first_missing o.state Ps ≡ None
still_there S Ps pairs o facts there (histories, settles, stand) =
    none_missing o.state Ps (λ j P r is h.
    let m = there j P r is h in
    ap (λ x. not (is_some x))
    (settles.outcome.replicas r m.0 (root_is_place P (facts j P is) r h) m.1))

-- What is there stays there.
kept_replica : (S : State) (Ps : List Parts) (o : Outcome) (histories : Path → List Entry)
    → Settles S Ps histories o → (r : Path) → IsTrue (is_place r) → (x : Option Replica)
    → replica_at S r ≡ x → is_some (replica_at o.state r) ≡ is_some x
kept_replica S Ps o histories settles r p None e = ap is_some (settles.outcome.others r p e)
kept_replica S Ps o histories settles r p (Some m) e =
    ap is_some (settles.outcome.replicas r m p e)

settled_keeps : (S : State) (Ps : List Parts) (pairs : List JobPair) (o : Outcome)
    → IsSettledBy S Ps pairs o → KeepsWhatIsThere S Ps o
settled_keeps S Ps pairs o (histories, settles, stand) = record {
  replicas = λ r p. kept_replica S Ps o histories settles r p (replica_at S r) refl;
  archives = settles.outcome.pairs;
}

turned_or : (a b c : Bool) → ((a || b) || c) ≡ (a || (b || c))
turned_or true b c = refl
turned_or false b c = refl

or_none : (b : Bool) → (b || false) ≡ b
or_none true = refl
or_none false = refl

mixed_or : (a b c d : Bool) → ((a || b) || (c || d)) ≡ ((a || c) || (b || d))
mixed_or true b c d = refl
mixed_or false true true d = refl
mixed_or false true false d = refl
mixed_or false false c d = refl

any_either : (t u v : ℕ → Bool) (xs : List ℕ) → ((j : ℕ) → v j ≡ (t j || u j))
    → list_any v xs ≡ (list_any t xs || list_any u xs)
any_either t u v [] both = refl
any_either t u v (x ∷ xs) both =
    (λ i. both x i || any_either t u v xs both i)
    ∙ mixed_or (t x) (u x) (list_any t xs) (list_any u xs)

-- A wave.
module _ (serial : HistoriesAreSerial) (any_order : EndsInAnyOrder) (S : State) (w : WavesValue)
    (are : AreWaves w) (valid : HasValidProfiles w.set)
    (state : IsState S) (there : first_missing S w.set.profiles ≡ None) where
  pub settled_wave : (k : ℕ) (o : Outcome) → IsSettledBy S w.set.profiles w.pairs o
      → OthersWait (part_for w.numbers k) o → HaveEnded o.jobs → IsState o.state → IsWaveOf S w k o
  settled_wave k o settled wait ended left =
      let Ps = w.set.profiles in
      let long = are.each in
      let all = settled.1.outcome.all in
      let rest_by : (j : ℕ) (e : JobEnd) → slice_get o.jobs j ≡ Some e
      → (wave_of w.numbers j == k) ≡ false → e ≡ without_turns = λ j e at off.
      (let l = slice_get_within o.jobs j e at in
      wait j e (is_in_part w.numbers k j (omega (arith, l, long, all)) ∙ off) at) in
      record {
        some = record {
          all = all;
          ended = ended;
          valid = left;
          there = still_there S Ps w.pairs o valid (have_replicas S Ps there) settled;
        };
        kept = settled_keeps S Ps w.pairs o settled;
        world = wave_is_serial serial any_order S Ps o (jobs_in_wave w.numbers k) valid state left
            (have_replicas S Ps there) settled.0 settled.1 (distinct_wave w.numbers k)
            (λ l h. let in_it = (of_wave w.numbers k l h).0 in omega (arith, in_it, long))
            (lower_first (λ i. wave_of w.numbers i == k) 0 (length w.numbers))
            (λ i j h g off clash.
            let one = of_wave w.numbers k i h in
            let two = of_wave w.numbers k j g in
            none_shares Ps w.numbers are.apart k i j one.1 two.1 one.0 two.0 off clash)
            (λ r i j l clash.
            let at = are.pairs i j l clash in
            settled.2 r at.0 (record { earlier = i; later = j }) at.1 l
            (slice_get_within Ps j clash.1 clash.3))
            (λ j e off at.
            let l = slice_get_within o.jobs j e at in
            rest_by j e at (off_wave w.numbers k j (omega (arith, l, long, all)) off));
        rest = rest_by;
      }

beyond : {X : Type 0} (xs : List X) (j : ℕ) → length xs ≤ j → slice_get xs j ≡ None
beyond [] j l = refl
beyond (x ∷ xs) zero l = absurd (omega (arith, l))
beyond (x ∷ xs) (suc j) l = beyond xs j (omega (arith, l))

-- One wave after others.
by_wave_more : (numbers : List ℕ) (k : ℕ)
    → jobs_by_wave numbers (suc k) ≡ jobs_by_wave numbers k ++ jobs_in_wave numbers k
by_wave_more numbers k =
    let zero_more : 0 + k ≡ k = omega arith in
    ap (flat_map (jobs_in_wave numbers)) (range-push 0 k)
    ∙ (flat_last (range_with_len 0 k) (0 + k)
    ∙ ap (λ m. jobs_by_wave numbers k ++ jobs_in_wave numbers m) zero_more)
  where
    flat_last : (ls : List ℕ) (m : ℕ)
        → flat_map (jobs_in_wave numbers) (ls ++ m ∷ [])
        ≡ flat_map (jobs_in_wave numbers) ls ++ jobs_in_wave numbers m
    flat_last [] m = append-nil (jobs_in_wave numbers m)
    flat_last (l ∷ ls) m =
        ap (λ ys. jobs_in_wave numbers l ++ ys) (flat_last ls m)
        ∙ sym (append_assoc (jobs_in_wave numbers l) (flat_map (jobs_in_wave numbers) ls)
        (jobs_in_wave numbers m))

has_flat : (numbers ls : List ℕ) (j : ℕ) → has j (flat_map (jobs_in_wave numbers) ls) ≡ true
    → (l : ℕ) × (has l ls ≡ true) × (has j (jobs_in_wave numbers l) ≡ true)
has_flat numbers [] j h = absurd (false≢true h)
has_flat numbers (l ∷ ls) j h =
    elim (has_either j (jobs_in_wave numbers l) (flat_map (jobs_in_wave numbers) ls) h) [
      | inl here ↦ (l, or_left (l == l) (has l ls) (itself l), here)
      | inr more ↦
          let w = has_flat numbers ls j more in (w.0, or_right (l == w.0) (has w.0 ls) w.1, w.2)
    ]

pub below_count : (numbers : List ℕ) (k j : ℕ) → has j (jobs_by_wave numbers k) ≡ true
    → (j < length numbers) × (wave_of numbers j < k)
below_count numbers k j h =
    let w = has_flat numbers (range_with_len 0 k) j h in
    let own = of_wave numbers w.0 j w.2 in
    let r = has_range 0 k w.0 w.1 in
    let high = r.1 in
    let same = eqb-true (wave_of numbers j) w.0 own.1 in
    (own.0, omega (arith, high, same))

module _ (S : State) (w : WavesValue) (are : AreWaves w) where
  abbrev Ps : List Parts
  Ps = w.set.profiles

  pub first_wave : (o : Outcome) → IsWaveOf S w 0 o → IsAfterWaves S w 1 o
  first_wave o one = record {
    some = one.some;
    kept = one.kept;
    world = one.world
        ∙ ap (λ L. run Ps (serial_turns (turns_in (world_of o.state o.jobs)) L) (opening_of S))
        (sym (append-nil (jobs_in_wave w.numbers 0)));
    rest = λ j e at l.
        let off : (wave_of w.numbers j == 0) ≡ false = grind (arith, nat_tests, l) in
        one.rest j e at off;
  }

  pub more_waves : (k : ℕ) (o later m : Outcome) → IsAfterWaves S w k o
      → IsWaveOf o.state w k later → m.state ≡ later.state
      → AreMergedEnds w.numbers k o.jobs later.jobs m.jobs → IsAfterWaves S w (suc k) m
  more_waves k o later m before wave same merged =
      let long = are.each in
      let all = before.some.all in
      let all_later = wave.some.all in
      let count = merged.count in
      let within : (j : ℕ) (e : JobEnd) → slice_get m.jobs j ≡ Some e → j < length w.numbers = λ j e at.
      (let l = slice_get_within m.jobs j e at in omega (arith, l, long, all, count)) in
      let W = jobs_in_wave w.numbers k in
      let in_place : AreMerged W o.jobs later.jobs m.jobs = record {
        own = λ j h. merged.own j (of_wave w.numbers k j h).1;
        old = λ j h. old_by j h;
      } in
      let world = one_wave_more Ps S o.state later.state o.jobs later.jobs m.jobs
      (jobs_by_wave w.numbers k) W in_place
      (λ j h. false_from_ne_true (has j W) (λ g.
      let low = (below_count w.numbers k j h).1 in
      let at = eqb-true (wave_of w.numbers j) k (of_wave w.numbers k j g).1 in
      omega (arith, low, at)))
      (λ j h.
      let own = of_wave w.numbers k j h in
      let l = own.0 in
      let e = has-item o.jobs j (omega (arith, l, long, all)) in
      let at = eqb-true (wave_of w.numbers j) k own.1 in
      (e.0, e.1, before.rest j e.0 e.1 (omega (arith, at))))
      before.world wave.world in
      record {
        some = record {
          all = count ∙ all;
          ended = λ j e at. ended_by j e at (wave_of w.numbers j == k) refl;
          valid = subst IsState (sym same) wave.some.valid;
          there = ap (λ T. first_missing T Ps) same ∙ wave.some.there;
        };
        kept = record {
          replicas = λ r p. ap (λ T. is_some (replica_at T r)) same
              ∙ (wave.kept.replicas r p ∙ before.kept.replicas r p);
          archives = λ r s p q off.
              ap (λ T. is_some (archive_at T r s)) same
              ∙ (wave.kept.archives r s p q off
              ∙ (ap (λ b. b || list_any (leaves_archive later Ps r s) (range_with_len 0 (length Ps)))
              (before.kept.archives r s p q off)
              ∙ (turned_or (is_some (archive_at S r s))
              (list_any (leaves_archive o Ps r s) (range_with_len 0 (length Ps)))
              (list_any (leaves_archive later Ps r s) (range_with_len 0 (length Ps)))
              ∙ ap (λ b. is_some (archive_at S r s) || b)
              (sym (any_either (leaves_archive o Ps r s) (leaves_archive later Ps r s)
              (leaves_archive m Ps r s) (range_with_len 0 (length Ps))
              (λ j. leaves_by r s j (wave_of w.numbers j == k) refl))))));
        };
        world =
            ap (λ T. world_of T m.jobs) same
            ∙ (world
            ∙ (ap (λ T. run Ps (serial_turns (turns_in (world_of T m.jobs))
            (jobs_by_wave w.numbers k ++ W)) (opening_of S)) (sym same)
            ∙ ap (λ L. run Ps (serial_turns (turns_in (world_of m.state m.jobs)) L) (opening_of S))
            (sym (by_wave_more w.numbers k))));
        rest = λ j e at l.
            let off : (wave_of w.numbers j == k) ≡ false = grind (arith, nat_tests, l) in
            before.rest j e (sym (merged.old j off) ∙ at) (omega (arith, l));
      }
    where
      old_within : (j : ℕ) → has j (jobs_in_wave w.numbers k) ≡ false → (b : Bool)
          → nat_lt j (length w.numbers) ≡ b → slice_get m.jobs j ≡ slice_get o.jobs j
      old_within j h true g =
          let l : j < length w.numbers = grind (arith, nat_tests, g) in
          merged.old j (off_wave w.numbers k j l h)
      old_within j h false g =
          let l : length w.numbers ≤ j = grind (arith, nat_tests, g) in
          let long = are.each in
          let all = before.some.all in
          let count = merged.count in
          beyond m.jobs j (omega (arith, l, long, all, count))
          ∙ sym (beyond o.jobs j (omega (arith, l, long, all)))

      old_by : (j : ℕ) → has j (jobs_in_wave w.numbers k) ≡ false
          → slice_get m.jobs j ≡ slice_get o.jobs j
      old_by j h = old_within j h (nat_lt j (length w.numbers)) refl

      none_finished : (x : Option JobEnd) → ((e : JobEnd) → x ≡ Some e → e ≡ without_turns)
          → some_passes (λ (e : JobEnd). is_finished e.end) x ≡ false
      none_finished None waits = refl
      none_finished (Some e) waits = ap (λ (d : JobEnd). is_finished d.end) (waits e refl)

      leaves_by : (r s : Path) (j : ℕ) (b : Bool) → (wave_of w.numbers j == k) ≡ b
          → leaves_archive m Ps r s j ≡ (leaves_archive o Ps r s j || leaves_archive later Ps r s j)
      leaves_by r s j true e =
          let pair = some_passes (λ (P : Parts). has_root P r && has_root P s) (slice_get Ps j) in
          let at = eqb-true (wave_of w.numbers j) k e in
          ap (λ x. some_passes (λ (d : JobEnd). is_finished d.end) x && pair) (merged.own j e)
          ∙ sym (ap (λ b. (b && pair) || leaves_archive later Ps r s j)
          (none_finished (slice_get o.jobs j) (λ d h. before.rest j d h (omega (arith, at)))))
      leaves_by r s j false e =
          let pair = some_passes (λ (P : Parts). has_root P r && has_root P s) (slice_get Ps j) in
          ap (λ x. some_passes (λ (d : JobEnd). is_finished d.end) x && pair) (merged.old j e)
          ∙ sym (ap (λ b. leaves_archive o Ps r s j || (b && pair))
          (none_finished (slice_get later.jobs j) (λ d h. wave.rest j d h e))
          ∙ or_none (leaves_archive o Ps r s j))

      ended_by : (j : ℕ) (e : JobEnd) → slice_get m.jobs j ≡ Some e → (b : Bool)
          → (wave_of w.numbers j == k) ≡ b → e.end ≢ end.Unfinished
      ended_by j e at true g = wave.some.ended j e (sym (merged.own j g) ∙ at)
      ended_by j e at false g = before.some.ended j e (sym (merged.old j g) ∙ at)

-- What hub_serial says of equivalent schedules.
abbrev pub EquivalentLeaveTheSame : Type 0
EquivalentLeaveTheSame = (Ps : List Parts) (js ks : List ℕ) (w : World) → AreProfiles Ps
    → AreEquivalent (JobsClash Ps) js ks → run Ps js w ≡ run Ps ks w

-- All waves.
module _ (equivalent : EquivalentLeaveTheSame)
    (works : JobsWorkInTurn) (sets : SetsKeepTrees) (S : State) (w : WavesValue)
    (are : AreWaves w) (valid : HasValidProfiles w.set) (state : IsState S)
  where
    pub all_waves : (o : Outcome) → IsAfterWaves S w w.count o → IsSerial S w.set.profiles o
    all_waves o after =
        let Ps = w.set.profiles in
        let n = turns_in (world_of o.state o.jobs) in
        let order = range_with_len 0 (length Ps) in
        let long = are.each in
        let in_order : AreEquivalent (JobsClash Ps) (jobs_by_wave w.numbers w.count) order =
        subst (λ m. AreEquivalent (JobsClash Ps) (jobs_by_wave w.numbers w.count) (range_with_len 0 m))
        long (waves_are_in_order Ps w.numbers are.apart w.count are.below) in
        let serial = after.world
        ∙ equivalent Ps (serial_turns n (jobs_by_wave w.numbers w.count)) (serial_turns n order)
        (opening_of S) valid (equivalent_turns (JobsClash Ps) n (jobs_by_wave w.numbers w.count) order in_order) in
        record {
          all = after.some.all;
          kept = after.kept;
          parts = in_parts works sets Ps valid o.state o.jobs after.some.all n order (opening_of S)
              (distinct_range 0 (length Ps))
              (λ l h. let r = (has_range 0 (length Ps) l h).1 in omega (arith, r))
              (λ r. state_trees S state r) (λ l h. (record { log = refl; done = refl }, refl)) serial;
        }

pub no_jobs : (S : State) → IsSerial S [] (record { state = S; jobs = [] })
no_jobs S = record {
  all = refl;
  parts = refl;
  kept = record {
    replicas = λ r p. refl;
    archives = λ r s p q off. sym (or_none (is_some (archive_at S r s)));
  };
}

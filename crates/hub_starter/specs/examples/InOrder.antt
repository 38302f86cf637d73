-- Worked examples of waves, and of jobs one after another.
use Rattle.std.specs.Prelude.{◌≡◌, ℕ, zero, suc, true, false, List, [], ◌∷◌, refl, codes}
use Rattle.std.proofs.lemmas.Option.{same_Some}
use Rattle.std.proofs.Common.{ap, arith}
use Rattle.hub_path.specs.Path.{path_of}
use Rattle.hub_path.specs.declared.side.Side.TheVariants.{Left}
use Rattle.hub_profile.specs.Parts.{Parts}
use Rattle.hub_profile.specs.examples.Profiles.{between, hub, s1, s2}
use Rattle.hub_cert.specs.declared.fault.CheckFault.{CheckFault}
use Rattle.hub_cert.specs.declared.fault.CheckFault.TheVariants as fault
use Rattle.hub_cert.specs.declared.goal.Goal.TheVariants as goal
use Rattle.hub_cert.specs.declared.goal.Place.TheVariants.{Replica, Archive}
use Rattle.hub_job.specs.declared.answer.Answer.TheVariants.{Done}
use Rattle.hub_job.specs.declared.job_end.JobEnd.{JobEnd}
use Rattle.hub_job.specs.declared.log.Entry.{Entry}
use Rattle.hub_job.specs.declared.op.Op.TheVariants.{Look}
use Rattle.hub_runner.specs.Order.{StandInOrder}
use Rattle.hub_runner.specs.Part.{without_turns}
use Rattle.hub_runner.specs.declared.pairs.JobPair.{JobPair}
use Rattle.hub_serial.specs.World.{World, opening, pair_of}
use Rattle.hub_serial.specs.examples.Clashes.{looked, marks, there, twice}
use Rattle.hub_serial.specs.examples.Jobs.{two_starts_clash}
use Rattle.hub_serial.specs.examples.Starts.{P}
use Rattle.hub_starter.specs.InOrder.{IsPartOf, PartsInOrder}
use Rattle.hub_starter.specs.Opened.{is_root_pair}
use Rattle.hub_starter.specs.Waves.{KeepApart, gap, jobs_by_wave, may_clash, pairs_in}

-- Job 1 needs the archive that job 0 leaves, and job 3 that of job 1.
abbrev waves : List ℕ
waves = 0 ∷ 1 ∷ 0 ∷ 2 ∷ []

wave_by_wave : jobs_by_wave waves 3 ≡ 0 ∷ 2 ∷ 1 ∷ 3 ∷ []
wave_by_wave = refl

the_first_two_waves : jobs_by_wave waves 2 ≡ 0 ∷ 2 ∷ 1 ∷ []
the_first_two_waves = refl

-- Two starts of one profile clash and have one archive, so the second one is in a later wave.
one_archive : gap twice 0 1 ≡ 1
one_archive = refl

-- Two profiles with one root in common have different archives: their jobs may be in one wave.
abbrev two_spokes : List Parts
two_spokes = between (codes "a") hub s1 [] ∷ between (codes "b") hub s2 [] ∷ []

no_common_archive : gap two_spokes 0 1 ≡ 0
no_common_archive = refl

whichever_root_is_left : gap (between (codes "a") hub s1 [] ∷ between (codes "b") s1 hub [] ∷ []) 0 1
    ≡ 1
whichever_root_is_left = refl

one_after_the_other : KeepApart twice (0 ∷ 1 ∷ [])
one_after_the_other zero zero l m clash = absurd (omega (arith, l))
one_after_the_other zero (suc zero) l m clash = let one = one_archive in omega (arith, one)
one_after_the_other zero (suc (suc j)) l m clash = absurd (omega (arith, m))
one_after_the_other (suc i) zero l m clash = absurd (omega (arith, l))
one_after_the_other (suc i) (suc zero) l m clash = absurd (omega (arith, l))
one_after_the_other (suc i) (suc (suc j)) l m clash = absurd (omega (arith, m))

not_in_one_wave : ¬ (KeepApart twice (0 ∷ 0 ∷ []))
not_in_one_wave apart =
    let l = apart 0 1 (omega arith) (omega arith) two_starts_clash in
    let one = one_archive in omega (arith, l, one)

nor_the_other_way_round : ¬ (KeepApart twice (1 ∷ 0 ∷ []))
nor_the_other_way_round apart =
    let l = apart 0 1 (omega arith) (omega arith) two_starts_clash in
    let one = one_archive in omega (arith, l, one)

-- Lines: an overlap, and a goal that is too large.
abbrev lines : List CheckFault
lines =
    fault.Overlap 0 2 (Replica Left) (path_of (codes "a")) (path_of (codes "a/b"))
    ∷ fault.TooLarge (goal.Clash 3 1 Archive) ∷ []

either_way_round : may_clash lines 2 0 ≡ true
either_way_round = refl

undecided_counts_too : may_clash lines 1 3 ≡ true
undecided_counts_too = refl

no_line_of_both : may_clash lines 0 1 ≡ false
no_line_of_both = refl

-- Of each pair the lower number comes first.
one_pair_a_line : pairs_in lines
    ≡ record { earlier = 0; later = 2 } ∷ record { earlier = 1; later = 3 } ∷ []
one_pair_a_line = refl

-- Entries of jobs in a history: job 2 must wait for job 0.
abbrev pair : JobPair
pair = record { earlier = 0; later = 2 }

abbrev by : ℕ → Entry
by j = record { job = j; op = Look []; answer = Done }

others_may_stand_between : StandInOrder pair (by 0 ∷ by 1 ∷ by 2 ∷ [])
others_may_stand_between zero zero e f at there own later =
    let job = ap (λ (x : Entry). x.job) (same_Some (by 0) f there) in absurd (omega (arith, job, later))
others_may_stand_between zero (suc zero) e f at there own later = omega arith
others_may_stand_between zero (suc (suc b)) e f at there own later = omega arith
others_may_stand_between (suc zero) b e f at there own later =
    let job = ap (λ (x : Entry). x.job) (same_Some (by 1) e at) in absurd (omega (arith, job, own))
others_may_stand_between (suc (suc zero)) b e f at there own later =
    let job = ap (λ (x : Entry). x.job) (same_Some (by 2) e at) in absurd (omega (arith, job, own))
others_may_stand_between (suc (suc (suc a))) b e f at there own later = cc

not_the_later_one_first : ¬ (StandInOrder pair (by 2 ∷ by 0 ∷ []))
not_the_later_one_first keeps =
    let l = keeps 1 0 (by 0) (by 2) refl refl refl refl in omega (arith, l)

nor_in_the_midst_of_the_earlier : ¬ (StandInOrder pair (by 0 ∷ by 2 ∷ by 0 ∷ []))
nor_in_the_midst_of_the_earlier keeps =
    let l = keeps 2 1 (by 0) (by 2) refl refl refl refl in omega (arith, l)

-- Pairs of roots.
its_roots_are_a_pair : is_root_pair (pair_of P) ≡ true
its_roots_are_a_pair = refl

not_the_greater_one_first : is_root_pair (s1, hub) ≡ false
not_the_greater_one_first = refl

no_root_is_its_own_partner : is_root_pair (hub, hub) ≡ false
no_root_is_its_own_partner = refl

-- A job that is stopped before its first turn leaves all as it was.
abbrev start : World
start = opening (λ r. there) (λ k. marks)

stopped_at_once : IsPartOf twice 0 P without_turns start start
stopped_at_once = record {
  turns = 0;
  alone = refl;
  log = refl;
  items = refl;
  ok = refl;
  finished = λ e. cc;
  stopped = λ off. refl;
  others = λ r h. refl;
}

-- It has no log, and so no other one.
not_what_another_log_says : ¬ (IsPartOf twice 0 P without_turns looked looked)
not_what_another_log_says part = let h = part.log in cc

-- Both are stopped at once, whatever clashes: the second one comes after the first one.
abbrev both : List JobEnd
both = without_turns ∷ without_turns ∷ []

stopped_next : IsPartOf twice 1 P without_turns start start
stopped_next = record {
  turns = 0;
  alone = refl;
  log = refl;
  items = refl;
  ok = refl;
  finished = λ e. cc;
  stopped = λ off. refl;
  others = λ r h. refl;
}

nothing_is_left_of_both : PartsInOrder twice both (0 ∷ 1 ∷ []) start start
nothing_is_left_of_both = (
  P,
  without_turns,
  start,
  refl,
  refl,
  stopped_at_once,
  (P, without_turns, start, refl, refl, stopped_next, refl),
)

-- There is no third job.
not_of_three : ¬ (PartsInOrder twice both (0 ∷ 1 ∷ 2 ∷ []) start start)
not_of_three (A, d, v, p, q, one, (B, e, u, r, s, two, (C, f, w, none, at, part, rest))) = cc

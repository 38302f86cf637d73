-- Worked examples of schedules.
use Rattle.std.specs.Prelude.{◌≡◌, ◌==◌, ◌||◌, ℕ, zero, suc, Bool, true, false, List, [], ◌∷◌, ◌++◌, Option, Some, None, map, refl}
use Rattle.hub_serial.specs.Schedule.{AreDistinct, AreEquivalent, NoneInterleave, after_turns, jobs_in_order, serial_schedule, serial_turns, turns_by_job, turns_of_two}
use Rattle.hub_serial.specs.Starter.{KeepsApart, all_wait, turns_of}
use Rattle.hub_serial.specs.Starter.JobEvent.{Start, Turn, End}
use Rattle.hub_serial.specs.Starter.JobStatus.{Waiting, Running, Ended}
use Rattle.std.proofs.Common.{cond, arith, inl, inr, subst, sym, ◌∙◌}
use Rattle.std.proofs.lemmas.Bool.{or_cases}
use borrow.Author.Tests.{eqb-true}

-- Job 1 has the first turn, then job 0, then job 2.
abbrev turns : List ℕ
turns = 1 ∷ 0 ∷ 1 ∷ 2 ∷ 0 ∷ []

-- Each turn here puts its job at the end of a list.
one_turn_after_another : after_turns (λ j js. js ++ j ∷ []) turns [] ≡ turns
one_turn_after_another = refl

in_the_order_of_first_turns : jobs_in_order turns ≡ 1 ∷ 0 ∷ 2 ∷ []
in_the_order_of_first_turns = refl

each_has_its_turns_in_a_row : serial_schedule turns ≡ 1 ∷ 1 ∷ 0 ∷ 0 ∷ 2 ∷ []
each_has_its_turns_in_a_row = refl

in_another_order : turns_by_job (2 ∷ 0 ∷ 1 ∷ 3 ∷ []) turns ≡ 2 ∷ 0 ∷ 0 ∷ 1 ∷ 1 ∷ []
in_another_order = refl

so_many_turns : serial_turns (λ j. j) (2 ∷ 0 ∷ 1 ∷ []) ≡ 2 ∷ 2 ∷ 1 ∷ []
so_many_turns = refl

two_of_them : map (turns_of_two 0 1) (turns ∷ serial_schedule turns ∷ [])
    ≡ (1 ∷ 0 ∷ 1 ∷ 0 ∷ []) ∷ (1 ∷ 1 ∷ 0 ∷ 0 ∷ []) ∷ []
two_of_them = refl

others_of_them : map (turns_of_two 1 2) (turns ∷ serial_schedule turns ∷ [])
    ≡ (1 ∷ 1 ∷ 2 ∷ []) ∷ (1 ∷ 1 ∷ 2 ∷ []) ∷ []
others_of_them = refl

-- All jobs clash.
abbrev all : ℕ → ℕ → Type 0
all i k = Unit {0}

-- So jobs 0 and 1 overlap in time, and the serial schedule isn't equivalent.
jobs_0_and_1_interleave : ¬ (NoneInterleave all turns)
jobs_0_and_1_interleave apart = apart 0 1 2 1 0 (omega arith) (omega arith) refl refl refl (λ e. cc) tt

the_serial_schedule_is_not_equivalent : ¬ (AreEquivalent all turns (serial_schedule turns))
the_serial_schedule_is_not_equivalent e =
    let h : turns_of_two 0 1 turns ≡ turns_of_two 0 1 (serial_schedule turns) = e 0 1 (inr tt) in cc

-- If none clash, all may overlap, and turns of different jobs may come in any order.
abbrev none : ℕ → ℕ → Type 0
none i k = ⊥

all_may_interleave : NoneInterleave none turns
all_may_interleave a b c i k l m e f g off clash = clash

abbrev no_turns : List ℕ
no_turns = []

either_first : (b c : Bool) → (b ≡ true → c ≡ true → ⊥)
    → cond b (2 ∷ cond c (0 ∷ no_turns) no_turns) (cond c (0 ∷ no_turns) no_turns)
    ≡ cond c (0 ∷ cond b (2 ∷ no_turns) no_turns) (cond b (2 ∷ no_turns) no_turns)
either_first true true h = absurd (h refl refl)
either_first true false h = refl
either_first false true h = refl
either_first false false h = refl

same_job : (t i : ℕ) → (t == i || t == i) ≡ true → t ≡ i
same_job t i e = elim (or_cases (t == i) (t == i) e) [ inl h ↦ eqb-true t i h | inr h ↦ eqb-true t i h ]

its_own_turns : (i : ℕ) → turns_of_two i i (2 ∷ 0 ∷ []) ≡ turns_of_two i i (0 ∷ 2 ∷ [])
its_own_turns i =
    either_first (2 == i || 2 == i) (0 == i || 0 == i)
    (λ e f. omega (arith, same_job 2 i e ∙ sym (same_job 0 i f)))

either_order : AreEquivalent none (2 ∷ 0 ∷ []) (0 ∷ 2 ∷ [])
either_order i k (inl same) =
    subst (λ l. turns_of_two i l (2 ∷ 0 ∷ []) ≡ turns_of_two i l (0 ∷ 2 ∷ [])) same (its_own_turns i)
either_order i k (inr clash) = absurd clash

-- But no turn may be missing.
a_turn_too_few : ¬ (AreEquivalent none (2 ∷ 0 ∷ []) (2 ∷ []))
a_turn_too_few e =
    let h : turns_of_two 0 0 (2 ∷ 0 ∷ []) ≡ turns_of_two 0 0 (2 ∷ []) = e 0 0 (inl refl) in cc

abbrev a_job : ℕ → Option ℕ
a_job j = Some j

other_jobs : (j : ℕ) → a_job 0 ≡ Some j → a_job 1 ≡ Some j → ⊥
other_jobs j e f = cc

no_job : (j : ℕ) (o : Option ℕ) → o ≡ None → o ≡ Some j → ⊥
no_job j o e f = cc

-- One after the other they don't overlap.
job_0_before_job_1 : NoneInterleave all (0 ∷ 0 ∷ 1 ∷ [])
job_0_before_job_1 a b zero i k l m e f g off clash = omega (arith, m)
job_0_before_job_1 a zero (suc zero) i k l m e f g off clash = omega (arith, l)
job_0_before_job_1 a (suc b) (suc zero) i k l m e f g off clash = omega (arith, m)
job_0_before_job_1 zero b (suc (suc zero)) i k l m e f g off clash = other_jobs i e g
job_0_before_job_1 (suc a) b (suc (suc zero)) i k l m e f g off clash = omega (arith, l, m)
job_0_before_job_1 a b (suc (suc (suc c))) i k l m e f g off clash = no_job i None refl g

each_job_once : AreDistinct (0 ∷ 1 ∷ [])
each_job_once zero zero j e f = refl
each_job_once zero (suc zero) j e f = absurd (other_jobs j e f)
each_job_once zero (suc (suc b)) j e f = absurd (no_job j None refl f)
each_job_once (suc zero) zero j e f = absurd (other_jobs j f e)
each_job_once (suc zero) (suc zero) j e f = refl
each_job_once (suc zero) (suc (suc b)) j e f = absurd (no_job j None refl f)
each_job_once (suc (suc a)) b j e f = absurd (no_job j None refl e)

a_job_twice : ¬ (AreDistinct (0 ∷ 1 ∷ 0 ∷ []))
a_job_twice once = omega (arith, once 0 2 0 refl refl)

-- A job that starts while another one that clashes with it runs isn't kept apart.
a_start_too_early : ¬ (KeepsApart all all_wait (Start 0 ∷ Turn 0 ∷ Start 1 ∷ []))
a_start_too_early rule = rule.2.1.1 0 refl tt

waiting_or_not : (k : ℕ) → all_wait k ≡ Running → ⊥
waiting_or_not k e = cc

over_or_waiting : (k : ℕ) (b : Bool) → cond b Ended (cond b Running Waiting) ≡ Running → ⊥
over_or_waiting k true e = cc
over_or_waiting k false e = cc

-- After the end of the other one it may start.
in_time : KeepsApart all all_wait (Start 0 ∷ Turn 0 ∷ Turn 0 ∷ End 0 ∷ Start 1 ∷ Turn 1 ∷ [])
in_time = (refl, λ k e c. waiting_or_not k e, (refl, (refl, (refl, λ k e c. over_or_waiting k (k == 0) e, (refl, tt)))))

-- A job that has ended has no more turns.
a_turn_too_late : ¬ (KeepsApart all all_wait (Start 0 ∷ End 0 ∷ Turn 0 ∷ []))
a_turn_too_late rule = cc

its_turns : turns_of (Start 0 ∷ Turn 0 ∷ End 0 ∷ Start 1 ∷ Turn 1 ∷ []) ≡ 0 ∷ 1 ∷ []
its_turns = refl

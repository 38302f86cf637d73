-- What is written of a run in order.
use Rattle.std.proofs.Common.{◌≡◌, ◌≢◌, ◌∙◌, ◌++◌, inl, inr, ℕ, Bool, true, false, cond, List, Some, codes, refl, sym, ap, subst, arith}
use Rattle.std.specs.Prelude.{⊤, IfOk, Result, Ok, Err, string_bytes}
use Rattle.hub_profile.specs.Parts.{Parts}
use Rattle.hub_cert.specs.Set.{Members}
use Rattle.hub_state.specs.State.{State}
use Rattle.hub_state.specs.Writing.{state_text}
use Rattle.hub_job.specs.declared.outcome.Outcome.{Outcome}
use Rattle.hub_job.specs.declared.run_fault.RunFault.{RunFault}
use Rattle.hub_runner.specs.Working.{MayRun}
use Rattle.hub_starter.specs.Waves.{IsWavesFault, NoneBreaks}
use Rattle.hub_starter.specs.declared.fault.WavesFault.{WavesFault}
use Rattle.hub_starter.specs.declared.fault.WavesFault.TheVariants.{MayBreak, OutOfMemory}
use Rattle.hub_bundle.specs.declared.sections.BundleContents.{BundleContents}
use Rattle.hub_bundle.specs.Sections.{members}
use Rattle.hub_report.specs.Jobs.{lines_of_jobs}
use Rattle.hub_report.specs.Run.{error_line}
use Rattle.hub_report.specs.declared.run.Run.{Run}
use Rattle.hub_cli.specs.declared.words.Question.TheVariants as ask
use Rattle.hub_cli.specs.Words.{Request, about, reading_for}
use Rattle.hub_serve.specs.declared.task.Task.{Task}
use Rattle.hub_serve.specs.declared.task.Task.TheVariants as task
use Rattle.hub_serve.specs.InOrder.{HasRunInOrder, HasRunInOrderAs, IsBelowInOrder, IsPreventedInOrder, IsRunInOrder, MayBreakAlone}
use Rattle.hub_serve.specs.Runs.{HasRun, IsRunOn, TellsOutcome}
use Rattle.hub_serve.specs.Shown.{ShowsRunInOrder}
use Rattle.hub_serve.specs.Task.{AsksTask}
use Rattle.hub_serve.specs.Unison.{SpellsAs}
use Rattle.hub_serve.proofs.Asking.{asks}

-- What is said of an outcome is said of the run that has it,
pub has-run : {E : Type 0} (M : Members) (S : State) (Ps : List Parts) (o : Outcome) (r : Result Run E) → IfOk r (TellsOutcome Ps o) → Ps ≡ M.profiles → IsRunOn M S o
    → IfOk r (HasRun M S)
has-run M S Ps o (Err e) told same run = tt
has-run M S Ps o (Ok r) told same run = record {
  outcome = o;
  run = run;
  lines = told.lines ∙ ap (λ (Qs : List Parts). lines_of_jobs Qs o.jobs) same;
  left = told.left;
  finished = told.finished;
}

-- also if that is one in order.
pub has-run-in-order : {E : Type 0} (M : Members) (S : State) (Ps : List Parts) (o : Outcome) (r : Result Run E) → IfOk r (TellsOutcome Ps o) → Ps ≡ M.profiles → IsRunInOrder M S o
    → IfOk r (HasRunInOrder M S)
has-run-in-order M S Ps o (Err e) told same run = tt
has-run-in-order M S Ps o (Ok r) told same run =
    record { outcome = o; run = run; told = subst (λ (Qs : List Parts). TellsOutcome Qs o r) same told }

-- Where a set has no waves, and memory isn't out, a profile may break a rule.
abbrev pub BreaksUnlessMemory : Members → WavesFault → Type 0
BreaksUnlessMemory M (MayBreak profile reason) = MayBreakAlone M
BreaksUnlessMemory M OutOfMemory = ⊤

pub may-break : (M : Members) (e : WavesFault) → IsWavesFault M e → BreaksUnlessMemory M e
may-break M (MayBreak profile reason) h = (profile, reason, h)
may-break M OutOfMemory h = tt

-- The status of a run: 0 if all jobs are finished, else 3.
abbrev pub run_status : Bool → ℕ
run_status finished = cond finished 0 3

pub zero-finished : (finished : Bool) → run_status finished ≡ 0 → finished ≡ true
zero-finished true z = refl
zero-finished false z = absurd (omega (arith, z))

pub other-is-3 : (finished : Bool) → run_status finished ≢ 0 → run_status finished ≡ 3
other-is-3 true other = absurd (other refl)
other-is-3 false other = refl

module _ (request : Request) (bytes line : List ℕ) (c : BundleContents) (t : Task) where
  -- What is to follow `in order` follows it.
  shown : (n : ℕ) (S : State) (status : ℕ) (below : List ℕ) → line ≡ codes "in order\n" ++ below → SpellsAs (reading_for request) bytes c → AsksTask request c.state t
      → t ≡ task.RunInOrder n S → NoneBreaks (members c) → IsBelowInOrder (members c) S n status below → ShowsRunInOrder (Some request) bytes line status
  shown n S status below l spelled asks_task is rules below_is =
      let asked = asks request c.state (task.RunInOrder n S) (subst (AsksTask request c.state) is asks_task) in
      record {
        workers = n;
        is_asked = ap Some asked.0;
        contents = c;
        spelled = subst (λ q. SpellsAs (reading_for q) bytes c) asked.0 spelled;
        state = S;
        state_is = asked.1;
        rules = rules;
        below = below;
        text_is = l;
        is_below = below_is;
      }

  -- What the jobs did and left does,
  pub in_order-shown : (r : Run) → line ≡ codes "in order\n" ++ (string_bytes r.lines ++ state_text r.state) → SpellsAs (reading_for request) bytes c → AsksTask request c.state t
      → HasRunInOrderAs t (members c) r → ShowsRunInOrder (Some request) bytes line (run_status r.finished)
  in_order-shown r l spelled asks_task h =
      let ran = h.run in
      shown h.workers h.state (run_status r.finished) (string_bytes r.lines ++ state_text r.state) l spelled asks_task h.task_is h.rules
      (inl (
        h.may,
        record {
          outcome = ran.outcome;
          run = ran.run;
          text = ap (λ ls. ls ++ state_text r.state) ran.told.lines ∙ ap (λ S. lines_of_jobs (members c).profiles ran.outcome.jobs ++ state_text S) ran.told.left;
          finished = (λ z. ran.told.finished.0 (zero-finished r.finished z), λ f. ap run_status (ran.told.finished.1 f));
          others = other-is-3 r.finished;
        },
      ))

  -- or why they weren't run.
  pub in_order-unrun : (e : RunFault) → line ≡ codes "in order\n" ++ error_line e → SpellsAs (reading_for request) bytes c → AsksTask request c.state t
      → IsPreventedInOrder t (members c) e → ShowsRunInOrder (Some request) bytes line 3
  in_order-unrun e l spelled asks_task h =
      shown h.workers h.state 3 (error_line e) l spelled asks_task h.task_is h.rules (inr (record { error = e; reason = h.reason; text = refl; status_is = refl }))

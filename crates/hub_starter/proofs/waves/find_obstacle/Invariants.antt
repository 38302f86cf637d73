use Rattle.std.proofs.Common.{◌≡◌, ◌≢◌, ◌<◌, ℕ, Some, slice_get}
use Rattle.hub_cert.specs.declared.fault.CheckFault.{CheckFault}
use Rattle.hub_rounds.specs.Lines.{subject_of}
use Rattle.hub_rounds.specs.declared.placing.Obstacle.{Obstacle}
use Rattle.hub_rounds.specs.declared.subject.Subject.TheVariants.{Alone}
use Rattle.hub_starter.proofs.waves.find_obstacle.Given as goal

abbrev pub invariant-loop-line : goal.invariant-loop-line
invariant-loop-line l = (m : ℕ) (e : CheckFault) → m < l.line-index → slice_get l.lines m ≡ Some e
    → (i : ℕ) (why : Obstacle) → subject_of e ≢ Alone i why

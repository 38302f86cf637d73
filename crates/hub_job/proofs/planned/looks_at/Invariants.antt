use Rattle.std.proofs.Common.{◌≡◌, ◌++◌, drop}
use Rattle.hub_reconcile.specs.Picture.{told_by}
use Rattle.hub_job.specs.Job.{sights}
use Rattle.hub_job.proofs.planned.looks_at.Given as goal

abbrev pub invariant-loop-entry : goal.invariant-loop-entry
invariant-loop-entry l = told_by l.looks.items ++ sights (drop l.entry-index l.log) l.side ≡ sights l.log l.side

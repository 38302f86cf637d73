use Rattle.std.proofs.Common.{◌≡◌, [], drop}
use Rattle.std.specs.Prelude.{fold}
use Rattle.hub_job.specs.forms.Waiting.{put_kept}
use Rattle.hub_job.proofs.looks.first_looks.Given as goal

abbrev pub invariant-loop-kept : goal.invariant-loop-kept
invariant-loop-kept l = fold (λ qs s. put_kept l.profile qs s) l.waiting (drop l.kept-index l.kept-items) ≡ fold (λ qs s. put_kept l.profile qs s) [] l.kept-items

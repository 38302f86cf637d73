use Rattle.std.proofs.Common.{◌≡◌, ◌||◌, ◌&&◌, drop, length}
use Rattle.std.specs.Prelude.{◌==◌}
use Rattle.std.specs.List.{list_any}
use Rattle.hub_path.specs.Path.{parent, path_eq}
use Rattle.hub_reach.specs.Reach.{reach}
use Rattle.hub_job.proofs.machine.is_kept_parent.Given as goal

abbrev pub invariant-loop-kept : goal.invariant-loop-kept
invariant-loop-kept l =
    list_any (λ s. (length s == 0 || reach l.profile s) && path_eq (parent s) l.path) (drop l.kept-index l.kept-items)
    ≡ list_any (λ s. (length s == 0 || reach l.profile s) && path_eq (parent s) l.path) l.kept-items

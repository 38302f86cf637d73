use Rattle.std.proofs.Common.{◌≡◌, ◌-◌, take, length}
use Rattle.hub_job.specs.forms.Waiting.{put_all}
use Rattle.hub_job.proofs.waiting.Waiting.add_children.Given as goal
use Rattle.hub_path.specs.Path.{children_named}

abbrev pub invariant-loop-i : goal.invariant-loop-i
invariant-loop-i l = put_all l.self (children_named l.path (take (length l.names - l.i) l.names)) ≡ put_all l.initial.self (children_named l.path l.names)

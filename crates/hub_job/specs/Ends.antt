-- How a job ends.
use Rattle.std.specs.Prelude.{Bool, true, false, List, [], Option, Some, None, if◌then◌else◌}
use Rattle.hub_profile.specs.Parts.{Parts}
use Rattle.hub_tree.specs.Tree.{Archive}
use Rattle.hub_reconcile.specs.Items.{items}
use Rattle.hub_reconcile.specs.Sync.{next_archive}
use Rattle.hub_reconcile.specs.declared.item.Item.{Item}
use Rattle.hub_job.specs.declared.op.Next.{Next}
use Rattle.hub_job.specs.declared.op.Next.TheVariants as next
use Rattle.hub_job.specs.declared.job_end.End.{End}
use Rattle.hub_job.specs.declared.log.Logged.{Logged}
use Rattle.hub_job.specs.declared.job_end.End.TheVariants as end
use Rattle.hub_job.specs.Job as job
use Rattle.hub_job.specs.JobValue.{JobValue}

-- How a job ends that does this next.
abbrev pub end_by : Next → End
end_by (next.Ask side op) = end.Unfinished
end_by next.Finished = end.Finished
end_by next.Stopped = end.Stopped

abbrev pub is_finished : End → Bool
is_finished end.Finished = true
is_finished end.Stopped = false
is_finished end.Unfinished = false

-- The next archive that a log gives.
abbrev pub archive_after : Parts → Archive → List Logged → Archive
archive_after P O log = next_archive (job.view_in P O log) O

-- The items of a job that ends so, and its next archive: only a finished one has them.
abbrev pub items_by : End → Parts → Archive → List Logged → List Item
items_by e P O log = if is_finished e then items (job.view_in P O log) else []

abbrev pub archive_by : End → Parts → Archive → List Logged → Option Archive
archive_by e P O log = if is_finished e then Some (archive_after P O log) else None

-- How a job with this log ends, where the first argument says whether it was stopped.
abbrev pub end_with : Bool → Parts → Archive → List Logged → End
end_with stopped P O log = if stopped then end.Stopped else end_by (job.next P O log)

-- The items of a finished job, and its next archive.
abbrev pub items_with : Bool → Parts → Archive → List Logged → List Item
items_with stopped P O log = items_by (end_with stopped P O log) P O log

abbrev pub archive_with : Bool → Parts → Archive → List Logged → Option Archive
archive_with stopped P O log = archive_by (end_with stopped P O log) P O log

-- The same of a job.
abbrev pub end_of : JobValue → End
end_of J = end_with J.stopped J.profile J.archive J.log

abbrev pub items_of : JobValue → List Item
items_of J = items_with J.stopped J.profile J.archive J.log

abbrev pub archive_left : JobValue → Option Archive
archive_left J = archive_with J.stopped J.profile J.archive J.log

use Rattle.std.proofs.Common.{◌∙◌}
use Rattle.std.specs.FinMap as fin
use Rattle.hub_schedule.proofs.InCycles.{counted, len_missing, len_there}
use Rattle.hub_schedule.proofs.cycles.entries_at.Goals as goal
use Rattle.hub_schedule.proofs.cycles.entries_at.Goals.{in-Some, in-None}

pub returns-else-count : goal.returns-else-count
returns-else-count c =
    elim c.match-replica.branch [
      | in-Some w ↦ counted c.match-replica.count (fin.len w.in-Some.tree.now) (w.count-is ∙ w.count-count.ensures) c.if-count.false
          ∙ len_there c.args.state.now c.args.root.now w.in-Some.tree.now w.in-Some.ensures.replica
      | in-None w ↦ w.count-is ∙ len_missing c.args.state.now c.args.root.now (w.in-None.ensures.replica)
    ]

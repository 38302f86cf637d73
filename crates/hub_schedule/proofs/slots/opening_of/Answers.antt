use Rattle.std.proofs.Common.{ap, sym, ◌∙◌}
use Rattle.std.specs.Prelude.{unwrap_or}
use Rattle.std.specs.FinMap as fin
use Rattle.hub_reconcile.specs.Sync.{root_or_top}
use Rattle.hub_state.specs.State.{archive_at}
use Rattle.hub_schedule.proofs.slots.opening_of.Goals as goal

pub returns : goal.returns
returns c =
    let left = sym (ap root_or_top c.root.ensures.value) in
    let right = sym (ap root_or_top c.root-2.ensures.value) in
    c.archive_or_empty.ensures ∙ (λ i. unwrap_or (archive_at c.args.state.now (left i) (right i)) fin.empty)

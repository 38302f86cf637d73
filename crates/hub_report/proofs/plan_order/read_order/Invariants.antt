use Rattle.std.proofs.Common.{◌≡◌, ◌++◌, drop}
use Rattle.hub_report.specs.Plan.{read_order}
use Rattle.hub_report.proofs.plan_order.read_order.Given as goal

abbrev pub invariant-loop-place : goal.invariant-loop-place
invariant-loop-place l = l.order.items ++ read_order l.faults l.place (drop l.place l.numbers) ≡ read_order l.faults 0 l.numbers

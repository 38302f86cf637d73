use Rattle.std.proofs.Common.{◌≡◌, ◌++◌, take}
use Rattle.hub_report.specs.Plan.{unread_numbers}
use Rattle.hub_report.proofs.plan_order.push_unread_numbers.Given as goal

abbrev pub invariant-loop-own : goal.invariant-loop-own
invariant-loop-own l = l.order.items ≡ l.initial.order.items ++ unread_numbers (take l.own-index l.unread)

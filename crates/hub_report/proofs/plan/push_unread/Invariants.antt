use Rattle.std.proofs.Common.{◌≡◌, ◌++◌, string_bytes, take}
use Rattle.hub_report.specs.Plan.{unread_lines}
use Rattle.hub_report.proofs.plan.push_unread.Given as goal

abbrev pub invariant-loop-own : goal.invariant-loop-own
invariant-loop-own l =
    string_bytes l.text ≡ string_bytes l.initial.text ++ unread_lines l.rules (take l.own-index l.unread)

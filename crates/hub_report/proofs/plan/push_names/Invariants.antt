use Rattle.std.proofs.Common.{◌≡◌, ◌+◌, ◌++◌, drop, string_bytes}
use Rattle.hub_report.specs.Plan.{name_lines}
use Rattle.hub_report.proofs.plan.push_names.Given as goal

abbrev pub invariant-loop-name : goal.invariant-loop-name
invariant-loop-name l = record {
  same : l.number ≡ l.name-index;
  so_far : string_bytes l.text ++ name_lines (l.name-index + 1) (drop l.name-index l.names)
      ≡ string_bytes l.initial.text ++ name_lines 1 l.names;
}

use Rattle.std.proofs.Common.{◌≡◌, ◌++◌, string_bytes, take}
use Rattle.std.specs.List.{flat_map}
use Rattle.hub_path.specs.Path.{root_bytes}
use Rattle.hub_report.specs.Plan.{root_line}
use Rattle.hub_report.proofs.plan.push_own_roots.Given as goal

abbrev pub invariant-loop-root : goal.invariant-loop-root
invariant-loop-root l =
    string_bytes l.text ≡ string_bytes l.initial.text ++ flat_map (λ r. root_line l.number (root_bytes r)) (take l.root-index l.root-items)

use Rattle.std.proofs.Common.{◌≡◌, ◌++◌, string_bytes, take}
use Rattle.std.specs.List.{flat_map}
use Rattle.hub_report.specs.Jobs.{item_line}
use Rattle.hub_report.proofs.jobs.push_items.Given as goal

abbrev pub invariant-loop-item : goal.invariant-loop-item
invariant-loop-item l =
    string_bytes l.text ≡ string_bytes l.initial.text ++ flat_map (item_line l.roots) (take l.item-index l.items)

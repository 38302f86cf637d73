use Rattle.std.proofs.Common.{◌≡◌, ◌++◌, take}
use Rattle.std.specs.Prelude.{string_bytes}
use Rattle.std.specs.List.{flat_map}
use Rattle.hub_mend.specs.Additions.{shown_line}
use Rattle.hub_mend.proofs.text.push_shown.Given as goal

abbrev pub invariant-loop-line : goal.invariant-loop-line
invariant-loop-line l = l.text.items ≡ l.initial.text.items ++ flat_map (λ x. shown_line l.name (string_bytes x)) (take l.line-index l.lines)

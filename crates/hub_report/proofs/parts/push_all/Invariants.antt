use Rattle.std.proofs.Common.{◌≡◌, ◌++◌, string_bytes, take}
use Rattle.std.specs.List.{flat_map}
use Rattle.hub_report.proofs.parts.push_all.Given as goal

abbrev pub invariant-loop-part : goal.invariant-loop-part
invariant-loop-part l =
    string_bytes l.text ≡ string_bytes l.initial.text ++ flat_map (λ p. p.now) (take l.part-index l.parts)

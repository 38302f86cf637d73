use Rattle.std.proofs.Common.{◌≡◌, ◌≤◌, ◌*◌, min, drop}
use Rattle.hub_glob.specs.Specification as specification
use Rattle.hub_glob.proofs.reading.has_many_choices.Given as goal

abbrev pub invariant-loop-part : goal.invariant-loop-part
invariant-loop-part l =
    (l.count ≤ 65) × (min (l.count * specification.choice_count (drop l.part-index l.parts)) 65 ≡ min (specification.choice_count l.parts) 65)

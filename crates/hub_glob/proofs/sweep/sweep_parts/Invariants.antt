use Rattle.std.proofs.Common.{◌≡◌, ◌+◌, drop}
use Rattle.hub_glob.specs.Specification.{pattern_size}
use Rattle.hub_glob.specs.Sweep as sweep
use Rattle.hub_glob.specs.Sweep.{Swept}
use Rattle.arrayvec.specs.ArrayVec.{array_vec_len}
use Rattle.hub_glob.proofs.sweep.sweep_parts.Given as goal

abbrev pub invariant-loop-part : goal.invariant-loop-part
invariant-loop-part l =
    let now : Swept = record { live = l.new.items; carry = l.carry } in
    let start : Swept = record { live = l.initial.new.items; carry = l.initial.carry } in
    (array_vec_len l.new + pattern_size (drop l.part-index l.parts) ≡ array_vec_len l.initial.new + pattern_size l.parts)
    × (sweep.swept_parts l.next l.old (drop l.part-index l.parts) now ≡ sweep.swept_parts l.next l.old l.parts start)

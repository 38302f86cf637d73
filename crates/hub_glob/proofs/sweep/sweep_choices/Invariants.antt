use Rattle.std.proofs.Common.{◌≡◌, ◌+◌, drop}
use Rattle.hub_glob.specs.Specification.{choices_size}
use Rattle.hub_glob.specs.Sweep as sweep
use Rattle.hub_glob.specs.Sweep.{Swept}
use Rattle.arrayvec.specs.ArrayVec.{array_vec_len}
use Rattle.hub_glob.proofs.sweep.sweep_choices.Given as goal

abbrev pub invariant-loop-choice : goal.invariant-loop-choice
invariant-loop-choice l =
    let now : Swept = record { live = l.new.items; carry = l.carry } in
    let start : Swept = record { live = l.initial.new.items; carry = sweep.nowhere } in
    (array_vec_len l.new + choices_size (drop l.choice-index l.choices) ≡ array_vec_len l.initial.new + choices_size l.choices)
    × (sweep.swept_choices l.next l.old l.entry (drop l.choice-index l.choices) now ≡ sweep.swept_choices l.next l.old l.entry l.choices start)

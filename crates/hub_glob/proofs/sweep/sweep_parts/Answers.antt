use Rattle.std.proofs.Common.{◌≡◌, drop, sym, ap, ◌∙◌, arith}
use Rattle.std.proofs.lemmas.List.{drop_all}
use Rattle.hub_glob.specs.Specification.{pattern_size}
use Rattle.hub_glob.specs.Sweep.{Swept, swept_parts}
use Rattle.hub_glob.proofs.sweep.sweep_parts.Goals as goal

pub returns-clause-len : goal.returns-clause-len
returns-clause-len c =
    let none : pattern_size (drop c.loop-part.part-index c.args.parts.now) ≡ 0 = ap pattern_size (drop_all c.loop-part.part-index c.args.parts.now (omega arith)) in
    omega (arith, c.loop-part.invariant.0)

pub returns-clause-swept : goal.returns-clause-swept
returns-clause-swept c =
    let now : Swept = record { live = c.loop-part.new.items; carry = c.loop-part.carry } in
    sym c.loop-part.invariant.1 ∙ ap (λ qs. swept_parts c.args.next c.args.old.now qs now) (drop_all c.loop-part.part-index c.args.parts.now (omega arith))

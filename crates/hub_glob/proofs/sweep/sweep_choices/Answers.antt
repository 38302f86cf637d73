use Rattle.std.proofs.Common.{◌≡◌, drop, sym, ap, ◌∙◌, arith}
use Rattle.std.proofs.lemmas.List.{drop_all}
use Rattle.hub_glob.specs.Specification.{choices_size}
use Rattle.hub_glob.specs.Sweep.{Swept, swept_choices}
use Rattle.hub_glob.proofs.sweep.sweep_choices.Goals as goal

pub returns-clause-len : goal.returns-clause-len
returns-clause-len c =
    let none : choices_size (drop c.loop-choice.choice-index c.args.choices.now) ≡ 0 = ap choices_size (drop_all c.loop-choice.choice-index c.args.choices.now (omega arith)) in
    omega (arith, c.loop-choice.invariant.0)

pub returns-clause-swept : goal.returns-clause-swept
returns-clause-swept c =
    let now : Swept = record { live = c.loop-choice.new.items; carry = c.loop-choice.carry } in
    sym c.loop-choice.invariant.1 ∙ ap (λ qs. swept_choices c.args.next c.args.old.now c.args.entry qs now) (drop_all c.loop-choice.choice-index c.args.choices.now (omega arith))

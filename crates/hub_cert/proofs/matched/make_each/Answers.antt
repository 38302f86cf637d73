use Rattle.std.proofs.Common.{◌≡◌, ℕ, ap, length, subst, arith}
use Rattle.hub_cert.specs.Matched.{AreMade}
use Rattle.hub_cert.specs.laws.Matched.{made-more, none-made}
use Rattle.hub_cert.proofs.matched.make_each.Goals as goal

pub loop-number-init : goal.loop-number-init
loop-number-init g c = none-made _ _ (ap length c.new-made.ensures.items)

pub loop-number-preserved : goal.loop-number-preserved
loop-number-preserved g c = rw c.in_ok-push.ensures.items (made-more _ c.loop-number.made.items c.loop-number.number c.in_ok-make.field-0 (subst (goal.F-post g c.args.make c.loop-number.number) c.in_ok-make.was c.make.ensures) c.loop-number.invariant)

pub returns : goal.returns
returns g c =
    let all : c.loop-number.number ≡ c.args.count = omega (arith, c.loop-number-test.false, c.loop-number.auto.number-end) in
    subst (λ (n : ℕ). AreMade (goal.F-post g c.args.make) c.loop-number.made.items n) all c.loop-number.invariant

use Rattle.std.proofs.Common.{◌≡◌, ◌∙◌, ◌++◌, ℕ, length, map, filter, sym, ap, arith, append-nil}
use Rattle.std.specs.List.{range_with_len}
use Rattle.hub_cert.specs.Goals.{is_goal}
use Rattle.hub_cert.specs.Set.{Members}
use Rattle.hub_cert.specs.declared.goal.Goal.TheVariants.{Breach}
use Rattle.hub_cert.proofs.GoalList.{map-more}
use Rattle.hub_cert.proofs.set.ProfileSet.push_breaches.Goals as goal

pub loop-rule-init : goal.loop-rule-init
loop-rule-init c = sym (append-nil c.args.goals.now.items)

pub loop-rule-preserved : goal.loop-rule-preserved
loop-rule-preserved c = map-more (is_goal c.args.self.now) (Breach c.args.profile) c.loop-rule.rule c.args.goals.now.items c.loop-rule.goals.items c.push_goal.new.goals.items c.loop-rule.invariant c.in_ok-push_goal.ensures

pub returns : goal.returns
returns c =
    let many : length c.self.inside.rules ≡ length c.args.self.now.rules = ap (λ (m : Members). length m.rules) c.self.view_is in
    let all : c.loop-rule.rule ≡ length c.args.self.now.rules = omega (arith, many, ap length c.as_slice-rule-end.ensures.value, c.loop-rule-test.false, c.loop-rule.auto.rule-end) in
    c.loop-rule.invariant ∙ ap (λ (n : ℕ). c.args.goals.now.items ++ filter (is_goal c.args.self.now) (map (Breach c.args.profile) (range_with_len 0 n))) all

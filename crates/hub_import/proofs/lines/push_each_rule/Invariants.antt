use Rattle.std.proofs.Common.{◌≡◌, ◌++◌, None, drop, option_map}
use Rattle.hub_import.specs.Text.{rules_below}
use Rattle.hub_import.proofs.lines.push_each_rule.Given as goal

abbrev pub invariant-loop-rule : goal.invariant-loop-rule
invariant-loop-rule l =
    l.bytes.items ++ rules_below (option_map (λ r. r.now) l.last) (drop l.rule-index l.rules) ≡ l.initial.bytes.items ++ rules_below None l.rules

use Rattle.hub_path.specs.declared.side.Side.TheVariants.{Right}
use Rattle.hub_nested.specs.Meeting.{rule_meeting}
use Rattle.hub_apart.specs.ApartLines.{Adds}
use Rattle.hub_apart.specs.NestedLines.{AreLinesOfRule, AreLinesUnder}
use Rattle.hub_apart.proofs.NestedParts.{both, on-ok-so}
use Rattle.hub_apart.proofs.ruled.search_rule.Goals as goal

pub returns-clause-lines : goal.returns-clause-lines
returns-clause-lines c =
    let P = c.args.profile.now in
    let R = c.args.rule.now in
    let i = c.args.numbers.first in
    let k = c.args.numbers.second in
    let old = c.args.lines.now.items in
    let mid = c.search_rule_at.new.lines.items in
    let new = c.search_rule_at-2.new.lines.items in
    on-ok-so c.search_rule_at-2.result (Adds (AreLinesUnder (rule_meeting P Right R) i k) mid new) (Adds (AreLinesOfRule P R i k) old new)
    (λ b. both P R i k old mid new c.in_ok-search_rule_at.ensures.lines b) c.search_rule_at-2.ensures.lines

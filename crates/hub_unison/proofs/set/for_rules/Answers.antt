use Rattle.hub_unison.proofs.BesideRules.{by-rules}
use Rattle.hub_unison.proofs.set.for_rules.Goals as goal

pub returns : goal.returns
returns c =
    by-rules c.args.profile c.with_patterns.result c.with_paths.result c.with_bars-kept.result c.in_ok-tops.tops
    c.paths.result.now c.bars.result.now c.bars_for_rules-bars.result c.new.result c.new-2.result c.new-3.result
    c.with_patterns.ensures c.with_bars-kept.ensures c.with_paths.ensures c.new.ensures c.new-2.ensures c.new-3.ensures
    c.bars_for_rules-bars.ensures c.bars.ensures c.paths.ensures.value c.in_ok-tops.ensures.value

use Rattle.hub_folded.specs.Table.{unicode}
use Rattle.hub_folded.proofs.FoldedParts.{by-spread}
use Rattle.hub_folded.proofs.profile.spread.Goals as goal

pub returns : goal.returns
returns c =
    by-spread unicode c.args.profile c.with_patterns.result c.with_paths-kept.result c.in_ok-values.values c.paths.result.now
    c.new.result c.new-2.result c.new-3.result c.with_paths-kept.ensures c.with_patterns.ensures c.paths.ensures.value
    c.in_ok-values.ensures.value c.new.ensures c.new-2.ensures c.new-3.ensures

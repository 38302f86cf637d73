use Rattle.hub_nested.proofs.SaidParts.{with-all}
use Rattle.hub_nested.proofs.said.said_with.Goals as goal

pub returns : goal.returns
returns c =
    with-all c.args.names.now c.args.profile.now c.args.paths c.args.spared c.args.bars
    c.new.result c.ignore.result.now c.in-Some.ignore c.ignorenot.result.now c.in-Some-2.ignorenot c.partial.result.now c.in-Some-3.partial
    c.in_ok-ignore.field-0 c.in_ok-ignorenot.field-0 c.in_ok-partial.field-0 c.in_ok-bare.bare c.with_paths-kept.result c.with_patterns.result
    c.new.ensures c.ignore.ensures c.ignorenot.ensures c.partial.ensures c.in-Some.is c.in_ok-ignore.ensures
    c.in-Some-2.is c.in_ok-ignorenot.ensures c.in-Some-3.is c.in_ok-partial.ensures c.in_ok-bare.ensures
    c.with_paths-kept.ensures c.with_patterns.ensures

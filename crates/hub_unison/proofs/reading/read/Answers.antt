use Rattle.hub_unison.proofs.Cautiously.{by-lines, by-none, by-tops}
use Rattle.hub_unison.proofs.reading.read.Goals as goal

pub returns-then-has_star : goal.returns-then-has_star
returns-then-has_star c =
    by-tops c.args.profile c.with_patterns.result c.new.result c.new-then-has_star.result c.partial.result.now
    c.in_ok-partial.partial c.has_star.result c.has_star.ensures c.partial.ensures c.in_ok-partial.ensures
    c.with_paths-kept.result c.in_ok-tops.tops c.paths.result.now c.with_patterns.ensures c.new.ensures
    c.new-then-has_star.ensures c.with_paths-kept.ensures c.paths.ensures.value c.in_ok-tops.ensures.value
    c.if-has_star.true

pub returns-in_ok-lines-in-Some : goal.returns-in_ok-lines-in-Some
returns-in_ok-lines-in-Some c =
    let lines = c.in_ok-lines-in-Some.lines in
    by-lines c.args.profile c.with_patterns-in-Some.result lines.ignore lines.ignorenot c.partial.result.now
    c.in_ok-partial.partial c.has_star.result c.has_star.ensures c.partial.ensures c.in_ok-partial.ensures
    c.in_ok-spared.field-0 c.ignorenot.result.now c.in_ok-spared.ensures c.ignorenot.ensures
    c.with_patterns-in-Some.ensures c.if-has_star.false c.in-Some.spared c.ignore.result.now c.in-Some.is
    c.ignore.ensures c.in_ok-lines-in-Some.ensures.ignore c.in_ok-lines-in-Some.ensures.ignorenot

pub returns-in-None : goal.returns-in-None
returns-in-None c =
    by-none c.args.profile c.with_patterns-in-None.result c.new-in-None.result c.new-in-None-2.result
    c.partial.result.now c.in_ok-partial.partial c.has_star.result c.has_star.ensures c.partial.ensures
    c.in_ok-partial.ensures c.in_ok-spared.field-0 c.ignorenot.result.now c.in_ok-spared.ensures
    c.ignorenot.ensures c.with_patterns-in-None.ensures c.if-has_star.false c.in-None.is c.new-in-None.ensures
    c.new-in-None-2.ensures

use Rattle.std.proofs.Common.{refl}
use Rattle.hub_serve.specs.declared.unison_question.UnisonQuestion.TheVariants as unison
use Rattle.hub_serve.proofs.UnisonTold.{archive-told, first-none, first-some, line-told, nothing-told}
use Rattle.hub_serve.proofs.unison_clashes.report_on_first.Goals as goal

pub returns-in-Some-default-clause-holds : goal.returns-in-Some-default-clause-holds
returns-in-Some-default-clause-holds c =
    let found = c.args.found.now in
    let line = c.in-Some-default.line in
    line-told c.args.archives.now found line.now c.report_on_line.result
    (first-some found.lines c.as_slice.result.now c.first.result line c.as_slice.ensures c.first.ensures.value c.in-Some-default.is-0)
    c.report_on_line.ensures.told

pub returns-in-None-Some-clause-holds : goal.returns-in-None-Some-clause-holds
returns-in-None-Some-clause-holds c =
    let found = c.args.found.now in
    let archives = c.args.archives.now in
    let numbers = c.in-None-Some.numbers in
    archive-told archives found numbers.now c.report_on_archive.result
    (first-none found.lines c.as_slice.result.now c.first.result c.as_slice.ensures c.first.ensures.value c.in-None-Some.is-0)
    (first-some archives archives c.first-2.result numbers refl c.first-2.ensures.value c.in-None-Some.is-1)
    c.report_on_archive.ensures.told

pub returns-in-None-None-clause-holds : goal.returns-in-None-None-clause-holds
returns-in-None-None-clause-holds c =
    let found = c.args.found.now in
    let archives = c.args.archives.now in
    nothing-told unison.Check archives found refl
    (first-none found.lines c.as_slice.result.now c.first.result c.as_slice.ensures c.first.ensures.value c.in-None-None.is-0)
    (first-none archives archives c.first-2.result refl c.first-2.ensures.value c.in-None-None.is-1)

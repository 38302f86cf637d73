use Rattle.std.proofs.Common.{◌∙◌, Some, ap, sym, subst, arith}
use Rattle.std.proofs.lemmas.Option.{slice_get-get_or}
use Rattle.hub_rounds.specs.Named.{AddsNotes}
use Rattle.hub_rounds.specs.declared.subject.Subject.{Subject}
use Rattle.hub_rounds.proofs.LineLists.{all-noted, one-line-more}
use Rattle.hub_rounds.proofs.noted.lines_of_each.Goals as goal

pub loop-line-init : goal.loop-line-init
loop-line-init c = record { long = c.in_ok-lists.ensures; before = λ m i e l at within about. absurd (omega (arith, l)) }

pub loop-line-preserved : goal.loop-line-preserved
loop-line-preserved c =
    let es = c.args.lines.now in
    let n = c.loop-line.line in
    let e = c.index-lines-line.result in
    let ls = c.loop-line.lists.items in
    let ks = c.note.new.lists.items in
    let adds = subst (λ (s : Subject). AddsNotes ls ks s n) c.subject_of.ensures c.in_ok-note.ensures in
    record {
      long = adds.long ∙ c.loop-line.invariant.long;
      before = one-line-more es ls ks n e (slice_get-get_or es n e c.loop-line-test.true ∙ ap Some (sym c.index-lines-line.is)) adds c.loop-line.invariant.before;
    }

pub returns-clause-noted : goal.returns-clause-noted
returns-clause-noted c = all-noted c.args.lines.now c.loop-line.lists.items c.loop-line.line c.loop-line-test.false c.loop-line.invariant.before

use Rattle.std.proofs.Common.{◌≡◌, ◌∙◌, ◌≤◌, length, inr, sym, arith}
use Rattle.hub_text.specs.Lines.{lines_of}
use Rattle.hub_text.specs.Takes.{of_bytes}
use Rattle.hub_cert.specs.Reading.{certificates_in, lines_reading}
use Rattle.hub_cert.proofs.LineByLine.{all-read, as-err, as-ok, line-faulty, line-taken, lines-few, next-fits}
use Rattle.hub_cert.proofs.certificate.reading.read_certificates.Goals as goal

pub loop-line-init : goal.loop-line-init
loop-line-init c =
    let same : c.into_iter-line-iterator.result ≡ c.args.bytes.now = c.into_iter-line-iterator.ensures.into_iter_gives ∙ c.new-line-items.ensures in
    let few : length (lines_of c.into_iter-line-iterator.result) ≤ length c.args.bytes.now = rw same (lines-few c.args.bytes.now) in
    record {
      says = (λ i. lines_reading (c.new-draft.ensures i) 1 (lines_of (same i)));
      few = omega (arith, few);
    }

pub overflow_add-number : goal.overflow_add-number
overflow_add-number c =
    let l = next-fits c.args.bytes.now c.loop-line.draft c.loop-line.number c.loop-line.line-iterator c.next.new.self (of_bytes c.in-Some.line) c.loop-line.invariant c.in-Some.ensures.steps in
    omega (arith, l)

pub loop-line-preserved : goal.loop-line-preserved
loop-line-preserved c =
    line-taken c.args.bytes.now c.loop-line.draft c.loop-line.number c.loop-line.line-iterator c.next.new.self (of_bytes c.in-Some.line) c.loop-line.invariant c.in-Some.ensures.steps c.in-Some-2.next (sym c.in_ok-next.ensures ∙ c.in-Some-2.is)

pub returns-in-None-2-clause-err : goal.returns-in-None-2-clause-err
returns-in-None-2-clause-err c =
    inr (line-faulty c.args.bytes.now c.loop-line.draft c.loop-line.number c.loop-line.line-iterator c.next.new.self (of_bytes c.in-Some.line) c.loop-line.invariant c.in-Some.ensures.steps (sym c.in_ok-next.ensures ∙ c.in-None-2.is))

pub overflow_add-number-2 : goal.overflow_add-number-2
overflow_add-number-2 c = let few = c.loop-line.invariant.few in omega (arith, few)

pub returns-clause-ok : goal.returns-clause-ok
returns-clause-ok c =
    as-ok c.finish.result (certificates_in c.args.bytes.now)
    (all-read c.args.bytes.now c.loop-line.draft c.loop-line.number c.loop-line.line-iterator c.loop-line.invariant c.in-None.ensures.steps ∙ sym c.finish.ensures)

pub returns-clause-err : goal.returns-clause-err
returns-clause-err c =
    as-err c.finish.result (certificates_in c.args.bytes.now)
    (all-read c.args.bytes.now c.loop-line.draft c.loop-line.number c.loop-line.line-iterator c.loop-line.invariant c.in-None.ensures.steps ∙ sym c.finish.ensures)

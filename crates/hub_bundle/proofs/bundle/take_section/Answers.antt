use Rattle.std.proofs.Common.{◌≡◌, false, sym, ap, ◌∙◌, arith, length}
use Rattle.hub_bundle.specs.Bundle.{follows_section}
use Rattle.hub_bundle.proofs.Lines.{skip_more, skip_less}
use Rattle.hub_bundle.proofs.bundle.take_section.Goals as goal

pub overflow_add-count : goal.overflow_add-count
overflow_add-count c =
    let going : follows_section c.loop-lines.lines ≡ false = sym (c.ends_section.ensures ∙ ap follows_section c.rest.ensures) ∙ c.loop-lines-test.true in
    let less = skip_less c.loop-lines.lines c.next-line.new.self c.next-line.result c.next-line.ensures.steps going in
    omega (arith, ap length c.rest-below.ensures, c.loop-lines.invariant.fewer, less)

pub loop-lines-preserved : goal.loop-lines-preserved
loop-lines-preserved c =
    let going : follows_section c.loop-lines.lines ≡ false = sym (c.ends_section.ensures ∙ ap follows_section c.rest.ensures) ∙ c.loop-lines-test.true in
    skip_more c.args.lines.now c.loop-lines.lines c.next-line.new.self c.loop-lines.count c.next-line.result c.loop-lines.invariant c.next-line.ensures.steps going

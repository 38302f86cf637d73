use Rattle.std.proofs.Common.{◌∙◌, List, ap, refl}
use Rattle.hub_rounds.specs.Numbered.{left_out, numbered}
use Rattle.hub_rounds.specs.declared.placing.Placing.{Placing}
use Rattle.hub_rounds.proofs.Numbers.{are-rounds-of-lines}
use Rattle.hub_rounds.proofs.numbered.rounds_of_lines.Goals as goal

pub returns : goal.returns
returns c =
    let s = c.in_ok-placings.field-0 in
    are-rounds-of-lines c.args.count c.args.lines.now _ s c.in_ok-placings.ensures
    (c.in_ok-numbered.ensures ∙ ap (λ (qs : List Placing). numbered s.rounds qs) c.as_slice.ensures)
    (c.in_ok-left_out.ensures ∙ ap (λ (qs : List Placing). left_out qs) c.as_slice-2.ensures)
    refl

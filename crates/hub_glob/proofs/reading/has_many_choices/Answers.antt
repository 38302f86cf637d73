use Rattle.std.proofs.Common.{◌≡◌, ◌*◌, ◌-◌, ◌^◌, min, length, ap, ◌∙◌, arith}
use Rattle.hub_text.specs.laws.List.{next-drop}
use Rattle.hub_glob.proofs.Readings.{brace_counted, one_counted}
use Rattle.hub_glob.proofs.reading.has_many_choices.Goals.{in-Brace, in_default}
use Rattle.hub_glob.proofs.reading.has_many_choices.Goals as goal

pub loop-part-preserved : goal.loop-part-preserved
loop-part-preserved c =
    let ps = c.args.parts.now in
    let e = next-drop ps c.loop-part.part-index c.part-item.result (omega arith) c.part-item.is in
    elim c.match-part.branch [
      | in-Brace w ↦
          let m : c.match-part.count ≡ min (min (c.loop-part.count * length w.in-Brace.choices) (2 ^ 64 - 1)) 65 =
          w.count-is ∙ w.min-count.ensures ∙ ap (λ n. min n 65) (w.saturating_mul.ensures ∙ ap (λ n. min (c.loop-part.count * n) (2 ^ 64 - 1)) w.len.ensures) in
          brace_counted ps c.loop-part.part-index c.part-item.result w.in-Brace.choices c.loop-part.count c.match-part.count (2 ^ 64 - 1) _ e w.in-Brace.is m (omega arith) c.loop-part.invariant.1
      | in_default w ↦
          one_counted ps c.loop-part.part-index c.part-item.result w.in_default.field-0 c.loop-part.count c.match-part.count _ e w.in_default.is w.count-is c.loop-part.invariant.0 c.loop-part.invariant.1
    ]

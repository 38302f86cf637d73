use Rattle.std.specs.List.{flat_map}
use Rattle.hub_state.specs.Writing.{joined_lines}
use Rattle.hub_state.proofs.Passing.{Wrote}
use Rattle.hub_state.proofs.writer.write_lines.Given as goal

abbrev pub invariant-loop-key : goal.invariant-loop-key
invariant-loop-key g l =
    Wrote (λ es. joined_lines (flat_map g.V.HasLines.lines es)) (g.W.Write.contents l.fn.output.device) (g.W.Write.contents l.output.device) l.fn.text.items l.text.items
    l.key-iterator l.fn.entries l.output.failed

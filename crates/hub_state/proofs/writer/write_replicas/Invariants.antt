use Rattle.std.proofs.Common.{List, String, Global}
use Rattle.std.specs.List.{flat_map}
use Rattle.hub_tree.specs.Tree.{Replica}
use Rattle.hub_state.specs.View.{by_text}
use Rattle.hub_state.specs.Writing.{replica_lines, joined_lines}
use Rattle.hub_state.proofs.Passing.{Wrote}
use Rattle.hub_state.proofs.writer.write_replicas.Given as goal

abbrev pub invariant-loop-root : goal.invariant-loop-root
invariant-loop-root g l =
    Wrote (λ (es : List (String Global × Replica)). joined_lines (flat_map (replica_lines l.version) (by_text es))) (g.W.Write.contents l.fn.output.device) (g.W.Write.contents l.output.device) l.fn.text.items l.text.items
    l.root-iterator l.replicas.entries l.output.failed

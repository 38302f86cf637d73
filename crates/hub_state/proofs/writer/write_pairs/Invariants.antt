use Rattle.std.proofs.Common.{List, String, Global}
use Rattle.std.specs.List.{flat_map}
use Rattle.hub_tree.specs.Tree.{Archive}
use Rattle.hub_state.specs.View.{by_text, pairs_below}
use Rattle.hub_state.specs.Writing.{archive_lines, joined_lines}
use Rattle.hub_state.proofs.Passing.{Wrote}
use Rattle.hub_state.proofs.writer.write_pairs.Given as goal

abbrev pub invariant-loop-second : goal.invariant-loop-second
invariant-loop-second g l =
    Wrote (λ (es : List (String Global × Archive)). joined_lines (flat_map archive_lines (pairs_below l.first (by_text es)))) (g.W.Write.contents l.fn.output.device) (g.W.Write.contents l.output.device) l.fn.text.items l.text.items
    l.second-iterator l.others.entries l.output.failed

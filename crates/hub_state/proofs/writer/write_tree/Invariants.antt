use Rattle.std.specs.FinMap as fin
use Rattle.hub_state.proofs.Passing.{Wrote, entries_text}
use Rattle.hub_state.proofs.writer.write_tree.Given as goal

abbrev pub invariant-loop-entry : goal.invariant-loop-entry
invariant-loop-entry g l =
    Wrote (entries_text l.version) (g.W.Write.contents l.fn.output.device) (g.W.Write.contents l.output.device) l.fn.text.items l.text.items l.entry-iterator (fin.entries l.tree) l.output.failed

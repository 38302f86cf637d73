use Rattle.std.specs.FinMap as fin
use Rattle.hub_path.specs.Path.{Path}
use Rattle.hub_tree.specs.declared.contents.Contents.{Contents}
use Rattle.hub_state.specs.Writing.{contents_files}
use Rattle.hub_state.proofs.Files.{Collected}
use Rattle.hub_state.proofs.blobs.Blobs.add_files.Given as goal

abbrev pub invariant-loop-entry : goal.invariant-loop-entry
invariant-loop-entry l = Collected (λ (e : Path × Contents). contents_files e.1) l.fn.self l.self l.entry-iterator (fin.entries l.tree)

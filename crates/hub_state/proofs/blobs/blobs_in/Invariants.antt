use Rattle.std.specs.FinMap as fin
use Rattle.hub_state.proofs.Files.{Collected, tree_files}
use Rattle.hub_state.proofs.blobs.blobs_in.Given as goal

abbrev pub invariant-loop-root : goal.invariant-loop-root
invariant-loop-root l = Collected tree_files fin.empty l.blobs l._root-iterator l.replicas.entries

use Rattle.std.proofs.Common.{◌≡◌, drop, length}
use Rattle.std.specs.Vec.Iter.{into_iter_items, into_iter_len}
use Rattle.hub_archives.proofs.Members.{AreKeptBelow}
use Rattle.hub_archives.proofs.folded.find_folded_archives.Given as goal

abbrev pub invariant-loop-section : goal.invariant-loop-section
invariant-loop-section l = record {
  left : into_iter_items l.section-iterator.iter ≡ drop l.section-iterator.count l.fn.folded;
  long : into_iter_len l.section-iterator.iter ≡ length (into_iter_items l.section-iterator.iter);
  kept : AreKeptBelow l.folders l.folds l.fn.folded l.section-iterator.count;
}

use Rattle.std.proofs.Common.{◌≡◌, ◌≢◌, ◌||◌, vec_len}
use Rattle.std.specs.Prelude.{IsTrue, is_some}
use Rattle.hub_path.specs.Path.{Path, is_place}
use Rattle.hub_state.specs.State.{archive_at}
use Rattle.hub_schedule.specs.forms.Left.{AreKept, mark_from, mark_in, one_is_left}
use Rattle.hub_schedule.proofs.ends.put_archives.Given as goal

abbrev pub invariant-loop-job : goal.invariant-loop-job
invariant-loop-job l = record {
  replicas : l.state.replicas ≡ l.initial.state.replicas;
  archives : (r s : Path) → IsTrue (is_place r) → IsTrue (is_place s) → r ≢ s
      → (one_is_left l.nexts.items r s || is_some (archive_at l.state r s)) ≡ (one_is_left l.initial.nexts.items r s || is_some (archive_at l.initial.state r s));
  marks : (r s p : Path) → IsTrue (is_place r) → IsTrue (is_place s) → r ≢ s → mark_from l.nexts.items r s p (mark_in l.state r s p) ≡ mark_from l.initial.nexts.items r s p (mark_in l.initial.state r s p);
  kept : AreKept l.nexts.items;
}

abbrev pub decreases-loop-job : goal.decreases-loop-job
decreases-loop-job l = vec_len l.nexts

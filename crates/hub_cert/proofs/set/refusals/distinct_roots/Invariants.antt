use Rattle.std.specs.BTreeSet.{contains}
use Rattle.hub_path.specs.Path.{Path, path_cmp}
use denote.Ref.{Bor}
use Rattle.hub_cert.proofs.Seen.{AreKeys}
use Rattle.hub_cert.proofs.DistinctRoots.{AreDistinct, itself}
use Rattle.hub_cert.proofs.set.refusals.distinct_roots.Given as goal

abbrev pub invariant-loop-number : goal.invariant-loop-number
invariant-loop-number l =
    AreKeys itself l.roots l.number (contains (λ (x y : Bor Path). path_cmp x.now y.now) l.known) × AreDistinct l.roots l.number l.distinct.items

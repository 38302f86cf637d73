use Rattle.std.proofs.Common.{◌≡◌, ◌++◌, take}
use Rattle.hub_cert.proofs.set.refusals.push_roots.Given as goal

abbrev pub invariant-loop-root : goal.invariant-loop-root
invariant-loop-root l = l.roots.items ≡ l.initial.roots.items ++ take l.root-index l.root-items

use Rattle.std.proofs.Common.{◌≡◌, take}
use Rattle.hub_cert.specs.Nearness.{paths_at}
use Rattle.hub_cert.proofs.set.kept_values.references_to.Given as goal

abbrev pub invariant-loop-path : goal.invariant-loop-path
invariant-loop-path l = paths_at l.references.items ≡ take l.path-index l.paths

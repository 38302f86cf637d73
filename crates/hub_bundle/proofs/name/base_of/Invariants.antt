use Rattle.std.proofs.Common.{◌≡◌, length}
use Rattle.hub_bundle.specs.Files as files
use Rattle.hub_bundle.proofs.name.base_of.Given as goal

abbrev pub invariant-loop-first : goal.invariant-loop-first
invariant-loop-first l = files.base_after l.base l.rest ≡ files.base_of l.path

abbrev pub decreases-loop-first : goal.decreases-loop-first
decreases-loop-first l = length l.rest

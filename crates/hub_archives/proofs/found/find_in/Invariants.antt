use Rattle.std.proofs.Common.{◌≡◌, ◌<◌, ℕ, Some, slice_get}
use Rattle.hub_bundle.specs.Bundle.{SectionValue}
use Rattle.hub_archives.specs.Found.{KeptOutUnder}
use Rattle.hub_archives.proofs.found.find_in.Given as goal

abbrev pub invariant-loop-section : goal.invariant-loop-section
invariant-loop-section l =
    (m : ℕ) (s : SectionValue) → m < l.section → slice_get l.sections m ≡ Some s → KeptOutUnder l.folders s

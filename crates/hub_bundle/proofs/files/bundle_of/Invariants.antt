use Rattle.std.proofs.Common.{◌≡◌, take}
use Rattle.std.specs.List.{flat_map}
use Rattle.hub_bundle.specs.Files.{part_text}
use Rattle.hub_bundle.proofs.files.bundle_of.Given as goal

abbrev pub invariant-loop-part : goal.invariant-loop-part
invariant-loop-part l = l.bundle.items ≡ flat_map part_text (take l.part-index l.parts)

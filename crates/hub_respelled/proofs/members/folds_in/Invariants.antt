use Rattle.std.proofs.Common.{◌≡◌, take}
use Rattle.std.specs.List.{flat_map}
use Rattle.hub_respelled.specs.Members.{folds_under}
use Rattle.hub_respelled.proofs.members.folds_in.Given as goal

abbrev pub invariant-loop-section : goal.invariant-loop-section
invariant-loop-section l =
    l.folds.items ≡ flat_map (λ s. folds_under s.heading s.bytes) (take l.section-index l.sections)

use Rattle.std.proofs.Common.{◌≡◌, drop}
use Rattle.hub_serve.specs.Plans.{no_profiles, taking}
use Rattle.hub_serve.proofs.taken.taken_of.Given as goal

abbrev pub invariant-loop-section : goal.invariant-loop-section
invariant-loop-section l = taking no_profiles l.sections ≡ taking l.taken (drop l.section-index l.sections)

use Rattle.std.proofs.Common.{◌≡◌, false, take}
use Rattle.hub_glob.specs.Sweep.{at_start, pushed_all}
use Rattle.hub_glob.proofs.Paths.{slashed, any_above}
use Rattle.hub_glob.proofs.path_spec.matches_above.Given as goal

abbrev pub invariant-loop-i : goal.invariant-loop-i
invariant-loop-i l =
    (l.walk ≡ pushed_all l.parts at_start (slashed (take l.i l.path))) × (any_above l.parts (take l.i l.path) ≡ false)

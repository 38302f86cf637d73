use Rattle.std.proofs.Common.{◌≡◌, ◌<◌, true, take}
use Rattle.hub_path.specs.Path.{text_of}
use Rattle.hub_glob.specs.Glob.{glob}
use Rattle.hub_glob.specs.Sweep.{at_start, pushed_all}
use Rattle.hub_glob.proofs.Paths.{slashed}
use Rattle.hub_glob.proofs.path_spec.matches_text.Given as goal

abbrev pub invariant-loop-i : goal.invariant-loop-i
invariant-loop-i l =
    (l.walk ≡ pushed_all l.parts at_start (slashed (take l.i l.path))) × (0 < l.i → l.matched ≡ glob l.parts true (text_of (take l.i l.path)))

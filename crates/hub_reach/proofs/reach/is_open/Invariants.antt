use Rattle.std.proofs.Common.{◌≡◌, ◌&&◌, false, take}
use Rattle.std.specs.List.{list_any}
use Rattle.hub_path.specs.Path.{is_over, prefixes}
use Rattle.hub_reach.specs.Reach.{is_ignored}
use Rattle.hub_reach.proofs.reach.is_open.Given as goal

abbrev pub invariant-loop-i : goal.invariant-loop-i
invariant-loop-i l = list_any (λ q. is_over l.kept q && is_ignored l.profile q) (prefixes (take l.i l.path)) ≡ false

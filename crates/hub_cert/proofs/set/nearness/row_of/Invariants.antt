use Rattle.std.proofs.Common.{◌≡◌, List, take}
use Rattle.std.specs.Prelude.{Some, slice_get}
use Rattle.hub_path.specs.Path.{Path}
use Rattle.hub_cert.specs.Nearness.{near_row}
use Rattle.hub_cert.proofs.set.nearness.row_of.Given as goal

abbrev pub invariant-loop-second : goal.invariant-loop-second
invariant-loop-second l = (ps : List Path) → slice_get l.lists l.first ≡ Some ps → l.row.items ≡ near_row ps (take l.second l.lists)

use Rattle.std.proofs.Common.{◌≡◌, map, string_bytes, take}
use Rattle.hub_folder.specs.Told.{left_out_told}
use Rattle.hub_folder.proofs.folder.left_out_by.Given as goal

abbrev pub invariant-loop-other : goal.invariant-loop-other
invariant-loop-other l = map string_bytes l.left_out.items ≡ left_out_told l.path (take l.other-index l.told) l.one

use Rattle.std.proofs.Common.{◌≡◌, map, string_bytes, take}
use Rattle.hub_folder.specs.Told.{rootless_told}
use Rattle.hub_folder.proofs.folder.rootless_of.Given as goal

abbrev pub invariant-loop-one : goal.invariant-loop-one
invariant-loop-one l = map string_bytes l.rootless.items ≡ rootless_told l.path l.told (take l.one-index l.told)

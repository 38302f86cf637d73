use Rattle.std.proofs.Common.{◌≡◌, map, take}
use Rattle.hub_folder.specs.Told.{left_outs_told, path_and_text, paths_left_out, profiles_told}
use Rattle.hub_folder.proofs.folder.profiles_of.Given as goal

abbrev pub invariant-loop-one : goal.invariant-loop-one
invariant-loop-one l = record {
  are : map path_and_text l.profiles.items ≡ profiles_told l.path l.told (take l.one-index l.told);
  left_out : map paths_left_out l.profiles.items ≡ left_outs_told l.path l.told (take l.one-index l.told);
}

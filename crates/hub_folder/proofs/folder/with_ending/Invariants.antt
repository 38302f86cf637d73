use Rattle.std.proofs.Common.{◌≡◌, map, string_bytes}
use Rattle.hub_folder.specs.Folders as folders
use Rattle.hub_folder.proofs.folder.with_ending.Given as goal

abbrev pub invariant-loop-name : goal.invariant-loop-name
invariant-loop-name l = map string_bytes l.taken.items ≡ folders.profile_files (map string_bytes l.yielded)

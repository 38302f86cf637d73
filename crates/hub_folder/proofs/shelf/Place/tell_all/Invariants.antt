use Rattle.std.proofs.Common.{◌≡◌, ◌≤◌, ◌+◌, map, string_bytes, take}
use Rattle.hub_folder.specs.Told.{AreTold, all_bytes_told}
use Rattle.hub_folder.specs.declared.shelf.TheConstants.{INCLUDED_BYTES}
use Rattle.hub_include.specs.Files.{known_of}
use Rattle.hub_folder.proofs.shelf.Place.tell_all.Given as goal

abbrev pub invariant-loop-name : goal.invariant-loop-name
invariant-loop-name g l = record {
  told : AreTold (known_of l.shelf) (map string_bytes (take l.name-index l.names)) l.told.items;
  bytes : l.bytes ≡ l.self.taken + all_bytes_told l.told.items;
  within : l.bytes ≤ INCLUDED_BYTES;
}

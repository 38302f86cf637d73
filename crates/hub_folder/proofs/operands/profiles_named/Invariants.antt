use Rattle.std.proofs.Common.{◌≡◌, ◌≤◌, map, take}
use Rattle.hub_folder.specs.Noted.{AreNoted}
use Rattle.hub_folder.specs.Operands.{AreNamed}
use Rattle.hub_folder.specs.Told.{folder_profiles, noted_of, owned_of, profile_bytes}
use Rattle.hub_folder.specs.declared.shelf.TheConstants.{INCLUDED_BYTES}
use Rattle.hub_folder.proofs.operands.profiles_named.Given as goal

abbrev pub invariant-loop-operand : goal.invariant-loop-operand
invariant-loop-operand g l = record {
  named : AreNamed (g.F.FileReader.reads l.reader) (g.F.FileReader.lists l.reader)
      (map (λ o. o.now) (take l.operand-index l.operands)) (map owned_of l.profiles.items);
  noted : AreNoted (g.F.FileReader.reads l.reader) (g.F.FileReader.lists l.reader)
      (map (λ o. o.now) (take l.operand-index l.operands)) (noted_of (folder_profiles l.profiles.items) l.rootless.items);
  bytes : l.taken ≡ profile_bytes (folder_profiles l.profiles.items);
  within : l.taken ≤ INCLUDED_BYTES;
}

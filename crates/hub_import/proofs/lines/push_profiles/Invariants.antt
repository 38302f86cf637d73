use Rattle.std.proofs.Common.{◌≡◌, ◌++◌, take}
use Rattle.std.specs.List.{flat_map}
use Rattle.hub_import.specs.Text.{profile_text}
use Rattle.hub_import.proofs.lines.push_profiles.Given as goal

abbrev pub invariant-loop-profile : goal.invariant-loop-profile
invariant-loop-profile l =
    l.bytes.items ≡ l.initial.bytes.items ++ flat_map profile_text (take l.profile-index l.profiles)

use Rattle.std.proofs.Common.{◌≡◌, ◌++◌}
use Rattle.std.specs.List.{flat_map}
use Rattle.hub_unison.specs.Kept as lines
use Rattle.hub_unison.proofs.kept.lines_of.Given as goal

abbrev pub invariant-loop-kept : goal.invariant-loop-kept
invariant-loop-kept l = record {
  ignore : l.kept_lines.ignore ≡ flat_map lines.own_lines l.yielded;
  ignorenot : l.kept_lines.ignorenot ≡ l.fn.spared ++ flat_map lines.spare_lines l.yielded;
}

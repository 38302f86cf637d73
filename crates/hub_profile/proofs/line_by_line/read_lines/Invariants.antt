use Rattle.std.proofs.Common.{◌≡◌, Ok, length}
use Rattle.std.specs.Str.{chars}
use Rattle.hub_profile.proofs.Runs.{first_lines}
use Rattle.hub_profile.proofs.line_by_line.read_lines.Given as goal

abbrev pub invariant-loop-i : goal.invariant-loop-i
invariant-loop-i g l = first_lines g.D.FromLines.table l.fn.nothing (chars l.text) (length l.yielded) ≡ Ok l.said

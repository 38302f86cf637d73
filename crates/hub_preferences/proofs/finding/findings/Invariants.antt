use Rattle.std.proofs.Common.{◌≡◌, ◌++◌, ◌+◌, ◌≤◌, length}
use Rattle.hub_text.specs.Lines.{lines_of}
use Rattle.hub_preferences.specs.Findings.{findings_of, findings_from}
use Rattle.hub_preferences.proofs.finding.findings.Given as goal

abbrev pub invariant-loop-line : goal.invariant-loop-line
invariant-loop-line l = record {
  found : findings_of l.fn.bundle ≡ l.findings.items ++ findings_from l.roots.items l.section (l.number + 1) (lines_of l.lines);
  fits : l.number + length l.lines ≤ length l.fn.bundle;
}

abbrev pub decreases-loop-line : goal.decreases-loop-line
decreases-loop-line l = length l.lines

use Rattle.std.proofs.Common.{◌≡◌, ◌+◌, ◌≤◌, length}
use Rattle.std.specs.Prelude.{IsTrue}
use Rattle.hub_text.specs.Lines.{lines_of}
use Rattle.hub_bundle.specs.Bundle.{follows_section, written, sections_reading, bundle_reading}
use Rattle.hub_bundle.proofs.bundle.read_bundle.Given as goal

abbrev pub invariant-loop-line : goal.invariant-loop-line
invariant-loop-line l = record {
  read : bundle_reading l.fn.bytes ≡ sections_reading l.sections.items (written (l.above + 1) (lines_of l.lines));
  next : IsTrue (follows_section l.lines);
  fewer : l.above + length l.lines ≤ length l.fn.bytes;
}

abbrev pub decreases-loop-line : goal.decreases-loop-line
decreases-loop-line l = length l.lines

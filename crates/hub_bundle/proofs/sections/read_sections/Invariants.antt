use Rattle.std.proofs.Common.{◌≡◌, drop}
use Rattle.hub_bundle.specs.Sections.{no_contents, contents_reading}
use Rattle.hub_bundle.proofs.sections.read_sections.Given as goal

abbrev pub invariant-loop-section : goal.invariant-loop-section
invariant-loop-section l = contents_reading no_contents l.sections ≡ contents_reading l.contents (drop l.section-index l.sections)

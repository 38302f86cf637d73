use Rattle.std.proofs.Common.{◌≡◌, true, map, take}
use Rattle.std.specs.List.{list_all}
use Rattle.hub_unison.specs.Matching.{widened}
use Rattle.hub_unison.specs.ReadingOf as reading
use Rattle.hub_unison.proofs.kept.spared_lines.Given as goal

abbrev pub invariant-loop-spec : goal.invariant-loop-spec
invariant-loop-spec l = record {
  copies : l.copies ≡ map widened (take l.spec-index l.specs);
  stay : list_all reading.spare_stays (take l.spec-index l.specs) ≡ true;
}

use Rattle.std.proofs.Common.{◌≡◌, map, take}
use Rattle.hub_unison.specs.ReadingOf as reading
use Rattle.hub_unison.proofs.kept.each_kept.Given as goal

abbrev pub invariant-loop-spec : goal.invariant-loop-spec
invariant-loop-spec l =
    l.each ≡ map (λ s. reading.needed l.specs l.spared (reading.line_kept s)) (take l.spec-index l.specs)

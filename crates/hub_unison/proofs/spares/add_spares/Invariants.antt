use Rattle.std.proofs.Common.{◌≡◌, ◌++◌, true, map, take, drop}
use Rattle.hub_unison.specs.Spares as spares
use Rattle.hub_unison.proofs.spares.add_spares.Given as goal

abbrev pub invariant-loop-i : goal.invariant-loop-i
invariant-loop-i l =
    l.found ++ map (λ d. take l.i l.pieces ++ d) (spares.spares l.first (drop l.i l.pieces)) ≡ l.initial.found ++ spares.spares true l.pieces

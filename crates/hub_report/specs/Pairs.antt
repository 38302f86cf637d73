-- Two profiles, by their numbers.
use Rattle.std.specs.Prelude.{◌==◌, ◌&&◌, ◌||◌, Bool, List}
use Rattle.std.specs.List.{list_any}
use Rattle.hub_report.specs.declared.pair.Pair.{Pair}

-- They are the same two profiles, in either order.
abbrev pub is_same : Pair → Pair → Bool
is_same q p =
    (q.writer == p.writer && q.other == p.other) || (q.writer == p.other && q.other == p.writer)

-- Two profiles are joined, if these are.
abbrev pub are_joined : List Pair → Pair → Bool
are_joined ps p = list_any (λ q. is_same q p) ps

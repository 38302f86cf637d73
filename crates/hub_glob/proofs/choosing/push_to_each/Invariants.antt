use Rattle.std.proofs.Common.{◌≡◌, ◌++◌, ◌∷◌, [], map, take, drop}
use Rattle.hub_glob.proofs.choosing.push_to_each.Given as goal

abbrev pub invariant-loop-i : goal.invariant-loop-i
invariant-loop-i l =
    l.lists.items ≡ map (λ c. c ++ l.piece ∷ []) (take l.i l.initial.lists.items) ++ drop l.i l.initial.lists.items

use Rattle.std.proofs.Common.{◌≡◌, ◌++◌, map, take}
use Rattle.hub_glob.proofs.choosing.push_with_each.Given as goal

abbrev pub invariant-loop-back : goal.invariant-loop-back
invariant-loop-back l = l.all.items ≡ l.initial.all.items ++ map (λ d. l.front ++ d) (take l.back-index l.backs)

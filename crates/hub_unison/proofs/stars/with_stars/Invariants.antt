use Rattle.std.proofs.Common.{◌≡◌, ◌++◌, map, take}
use Rattle.hub_unison.specs.Matching.{star_for}
use Rattle.hub_unison.proofs.stars.with_stars.Given as goal

abbrev pub invariant-loop-choice : goal.invariant-loop-choice
invariant-loop-choice l = l.all ≡ l.initial.all ++ map (map star_for) (take l.choice-index l.choice-items)

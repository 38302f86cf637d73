use Rattle.std.proofs.Common.{◌≡◌, map}
use Rattle.hub_rounds.specs.Numbered.{StandAsNumbers}
use Rattle.hub_rounds.proofs.standing.placed_so.Given as goal

abbrev pub invariant-loop-profile : goal.invariant-loop-profile
invariant-loop-profile l = record {
  all : map (λ p. p.profile) l.placed.items ≡ l.yielded;
  so : StandAsNumbers l.placings l.placed.items;
}

use Rattle.hub_rounds.specs.Numbered.{AreRivalNumbers}
use Rattle.hub_rounds.proofs.clique.rivals_among.Given as goal

abbrev pub invariant-loop-profile : goal.invariant-loop-profile
invariant-loop-profile l = AreRivalNumbers l.lines l.placed l.rivals.items

use Rattle.hub_rounds.proofs.Rivals.{AreAsked}
use Rattle.hub_rounds.proofs.clique.join_each.Given as goal

abbrev pub invariant-loop-profile : goal.invariant-loop-profile
invariant-loop-profile l = AreAsked l.lines l.placed l.rivals.items l.profile

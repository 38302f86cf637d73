use Rattle.hub_folded.proofs.ToldApart.{keeps-at-known-roots, known-roots-apart, safe-at-known-roots}
use Rattle.hub_folded.proofs.laws.roots_that_are_told_apart_are_roots_of_their_own.Goals as goal

pub returns-clause-roots : goal.returns-clause-roots
returns-clause-roots c F rs Vs have apart = known-roots-apart F rs apart Vs have

pub returns-clause-clashes : goal.returns-clause-clashes
returns-clause-clashes c F rs Vs have apart = safe-at-known-roots F rs apart Vs have

pub returns-clause-kept : goal.returns-clause-kept
returns-clause-kept c F rs Vs Rs have hold apart = keeps-at-known-roots F rs apart Vs have Rs hold

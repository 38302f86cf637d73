use Rattle.std.specs.Prelude.{IfSome}
use Rattle.hub_source.specs.Saying.{IsAmong}
use Rattle.hub_source.proofs.near.nearest.Given as goal

abbrev pub invariant-loop-name : goal.invariant-loop-name
invariant-loop-name l = IfSome l.best (IsAmong l.known)

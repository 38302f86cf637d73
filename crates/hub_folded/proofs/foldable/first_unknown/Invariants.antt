use Rattle.std.proofs.Common.{◌≡◌, drop}
use Rattle.hub_folded.specs.Rules.{first_unknown, unknown_from}
use Rattle.hub_folded.specs.Table.{unicode}
use Rattle.hub_folded.proofs.foldable.first_unknown.Given as goal

abbrev pub invariant-loop-i : goal.invariant-loop-i
invariant-loop-i l = unknown_from unicode l.i (drop l.i l.rules) ≡ first_unknown unicode l.rules

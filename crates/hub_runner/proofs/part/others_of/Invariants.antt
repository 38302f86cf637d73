use Rattle.hub_runner.specs.Part.{AreOthers}
use Rattle.hub_runner.proofs.part.others_of.Given as goal

abbrev pub invariant-loop-number : goal.invariant-loop-number
invariant-loop-number l = AreOthers l.part l.number l.others.items

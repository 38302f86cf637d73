use Rattle.std.proofs.Common.{◌≡◌, ◌++◌, drop}
use Rattle.hub_starter.specs.Waved.{part_for}
use Rattle.hub_starter.proofs.running.part_of.Given as goal

abbrev pub invariant-loop-own : goal.invariant-loop-own
invariant-loop-own l =
    l.part.items ++ part_for (drop l.own-index l.numbers) l.wave ≡ part_for l.numbers l.wave

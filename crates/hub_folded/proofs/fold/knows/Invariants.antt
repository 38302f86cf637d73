use Rattle.std.proofs.Common.{◌≡◌, length, drop, chars, false}
use Rattle.hub_folded.specs.Table.{all_stand}
use Rattle.hub_folded.proofs.fold.knows.Given as goal

abbrev pub invariant-loop-c : goal.invariant-loop-c
invariant-loop-c l =
    all_stand l.bare (drop (length l.yielded) (chars l.name)) ≡ all_stand false (chars l.name)

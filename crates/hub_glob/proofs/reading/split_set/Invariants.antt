use Rattle.std.proofs.Common.{◌≡◌, Bool, Some, [], take, drop}
use Rattle.hub_glob.specs.Reading as reading
use Rattle.hub_glob.proofs.reading.split_set.Given as goal

abbrev pub invariant-loop-i : goal.invariant-loop-i
invariant-loop-i l =
    (in_name : Bool) → reading.signs in_name (Some []) l.tokens ≡ reading.signs in_name (Some (take l.i l.tokens)) (drop l.i l.tokens)

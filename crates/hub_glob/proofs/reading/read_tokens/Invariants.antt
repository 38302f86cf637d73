use Rattle.std.proofs.Common.{◌≡◌, ◌++◌, length, drop, false, chars}
use Rattle.hub_glob.specs.Reading as reading
use Rattle.hub_glob.proofs.reading.read_tokens.Given as goal

abbrev pub invariant-loop-c : goal.invariant-loop-c
invariant-loop-c l =
    l.tokens.items ++ reading.tokens l.escaped (drop (length l.yielded) (chars l.pattern)) ≡ reading.tokens false (chars l.pattern)

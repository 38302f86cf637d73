use Rattle.std.proofs.Common.{◌≡◌, ◌==◌, true, false, length, arith}
use Rattle.std.proofs.lemmas.Bool.Decides.{nat_tests}
use Rattle.hub_reach.specs.Reach.{reach}
use Rattle.hub_reach.proofs.reach.reaches.Goals as goal

pub returns-then-len-gt0 : goal.returns-then-len-gt0
unfolding reach
returns-then-len-gt0 c =
    let some : (length c.args.path.now == 0) ≡ false = grind (arith, nat_tests) in
    rw (some, c.len.ensures.valid) c.is_kept.ensures

pub returns-else-len-gt0 : goal.returns-else-len-gt0
unfolding reach
returns-else-len-gt0 c =
    let none : (length c.args.path.now == 0) ≡ true = grind (arith, nat_tests) in
    rw none (grind (arith, nat_tests))

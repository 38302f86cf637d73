use Rattle.std.proofs.Common.{◌≡◌, length}
use Rattle.std.specs.Option.{option_map}
use Rattle.hub_hosts.specs.Words as words
use Rattle.hub_hosts.proofs.words.behind_last_arrow.Given as goal

abbrev pub invariant-loop-others : goal.invariant-loop-others
invariant-loop-others l =
    words.behind_arrow (option_map (λ t. t.now) l.found) l.rest ≡ words.behind_last_arrow l.fn.text

abbrev pub decreases-loop-others : goal.decreases-loop-others
decreases-loop-others l = length l.rest

use Rattle.std.proofs.Common.{◌≡◌, ◌∙◌, ◌&&◌, not, sym}
use Rattle.hub_reach.proofs.walker_ends.WalkerEnds.ignore.Goals as goal
use Rattle.hub_automaton.specs.Spots.{some_match}

pub returns-then-meets : goal.returns-then-meets
returns-then-meets c = λ ls a t e at.
    let first : c.meets.result ≡ some_match ls t 0 a.ignore_end = c.meets.ensures ls t 0 a.ignore_end at e.ignored in
    let other : c.meets-then-meets.result ≡ some_match ls t a.ignore_end a.ignorenot_end = c.meets-then-meets.ensures ls t a.ignore_end a.ignorenot_end at e.excepted in
    (λ j. sym c.if-meets.true j && not c.meets-then-meets.result) ∙ (λ j. first j && not (other j))

pub returns-else-meets : goal.returns-else-meets
returns-else-meets c = λ ls a t e at.
    let first : c.meets.result ≡ some_match ls t 0 a.ignore_end = c.meets.ensures ls t 0 a.ignore_end at e.ignored in
    c.if-meets.false ∙ ((λ j. sym c.if-meets.false j && not (some_match ls t a.ignore_end a.ignorenot_end)) ∙ (λ j. first j && not (some_match ls t a.ignore_end a.ignorenot_end)))

use Rattle.std.proofs.Common.{◌∙◌, sym}
use Rattle.hub_rounds.proofs.clique.clash.Goals as goal

-- The last return. At the other two the result is `false`, and the clause says nothing.
pub returns : goal.returns
returns c = λ is.
    let own = c.in-Some-get.own.now in
    let at = c.in-Some-get.ensures.lookup in
    (own, (c.in-Some.line, at.3.0, sym at.1), sym c.names_both.ensures ∙ is)

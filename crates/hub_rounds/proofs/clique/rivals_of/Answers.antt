use Rattle.std.proofs.Common.{List, ℕ, sym, subst}
use Rattle.hub_rounds.specs.Numbered.{AreAllRivals}
use Rattle.hub_rounds.proofs.clique.rivals_of.Goals as goal

pub returns-clause-whole : goal.returns-clause-whole
returns-clause-whole c = subst (λ (ns : List ℕ). AreAllRivals c.args.lines.now c.args.placed.now ns) (sym c.from_vec.ensures) c.in_ok-join_each.ensures.whole

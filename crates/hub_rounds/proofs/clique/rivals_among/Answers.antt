use Rattle.std.proofs.Common.{List, ℕ, sym, subst}
use Rattle.hub_rounds.specs.Numbered.{AreRivalNumbers}
use Rattle.hub_rounds.proofs.Rivals.{no-rivals}
use Rattle.hub_rounds.proofs.clique.rivals_among.Goals as goal

pub loop-profile-init : goal.loop-profile-init
loop-profile-init c = subst (λ (ns : List ℕ). AreRivalNumbers c.args.lines.now c.args.placed.now ns) (sym c.new-rivals.ensures.items) (no-rivals c.args.lines.now c.args.placed.now)

use Rattle.hub_unison.specs.ReadingOf.{is_read_back}
use Rattle.hub_nested.specs.Lifted.{fixed_at, just}
use Rattle.hub_nested.proofs.SaidParts.{fixed-some, leaves, none-if}
use Rattle.hub_nested.proofs.said.fixed_at.Goals as goal

pub returns-in-Some : goal.returns-in-Some
returns-in-Some c = fixed-some c.args.side c.args.path.now c.in-Some.spec c.in_ok-spec.field-0 c.in-Some.is c.in_ok-spec.ensures

pub returns-in-None : goal.returns-in-None
returns-in-None c =
    let x = c.args.path.now in
    leaves (is_read_back (just x)) (fixed_at c.args.side x)
    (none-if (is_read_back (just x)) (just x) c.in_ok-spec.field-0 c.in-None.is c.in_ok-spec.ensures)

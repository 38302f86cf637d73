use Rattle.hub_path.specs.declared.side.Side.TheVariants.{Left, Right}
use Rattle.hub_unison.specs.ReadingOf.{is_read_back}
use Rattle.hub_nested.specs.Lifted.{fixed_at, just}
use Rattle.hub_nested.specs.Said.{both_fixed}
use Rattle.hub_nested.proofs.SaidParts.{leaves, none-if}
use Rattle.hub_nested.proofs.said.both_fixed.Goals as goal

pub returns-in_default : goal.returns-in_default
returns-in_default c =
    let x = c.args.path.now in
    leaves (is_read_back (just x)) (both_fixed x)
    (none-if (is_read_back (just x)) (fixed_at Left x) c.in_ok-left.field-0 c.in_default.is c.in_ok-left.ensures)

pub returns-in_default-2 : goal.returns-in_default-2
returns-in_default-2 c =
    let x = c.args.path.now in
    leaves (is_read_back (just x)) (both_fixed x)
    (none-if (is_read_back (just x)) (fixed_at Right x) c.in_ok-right.field-0 c.in_default-2.is c.in_ok-right.ensures)

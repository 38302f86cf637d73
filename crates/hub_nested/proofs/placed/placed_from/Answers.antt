use Rattle.hub_nested.proofs.Meetings.{placed-some}
use Rattle.hub_nested.proofs.placed.placed_from.Goals as goal

pub returns-in_ok-copy-in-Some : goal.returns-in_ok-copy-in-Some
returns-in_ok-copy-in-Some c =
    placed-some c.args.side c.args.root.now c.in_ok-copy-in-Some.field-0 c.args.aside c.args.names.now c.args.profile.now
    c.in-Some.said c.placed.result c.in_ok-said.field-0 c.in_ok-copy-in-Some.ensures c.in-Some.is c.in_ok-said.ensures
    c.placed.ensures

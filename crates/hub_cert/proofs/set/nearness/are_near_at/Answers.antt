use Rattle.std.proofs.Common.{◌∙◌, sym}
use Rattle.hub_cert.proofs.NearRows.{compared, told}
use Rattle.hub_cert.proofs.set.nearness.are_near_at.Goals as goal

pub returns-in-Some : goal.returns-in-Some
returns-in-Some c =
    told c.args.lists.now c.args.rows.now c.args.first c.args.first c.args.second c.in-Some.is_near c.requires.rows (sym c.entry_at.ensures ∙ c.in-Some.is)

pub returns-in-None : goal.returns-in-None
returns-in-None c =
    compared c.args.lists.now c.args.first c.args.second c.index-lists-first.result c.index-lists-second.result c.are_near.result c.index-lists-first.is c.index-lists-second.is c.are_near.ensures

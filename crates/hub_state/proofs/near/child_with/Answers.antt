use Rattle.std.proofs.Common.{sym, ◌∙◌}
use Rattle.hub_state.proofs.Folders.{is_read_from}
use Rattle.hub_state.proofs.near.child_with.Goals as goal

pub returns-then-eq : goal.returns-then-eq
returns-then-eq c =
    is_read_from c.args.folder.now c.args.name c.in_ok-path.path c.as_str.result.now c.args.text.now c.in_ok-path.ensures c.requires c.as_str.ensures.valid c.as_str.ensures.text (sym c.eq.ensures ∙ c.if-eq.true)

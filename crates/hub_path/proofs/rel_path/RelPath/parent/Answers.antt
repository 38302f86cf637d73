use Rattle.std.proofs.Common.{◌-◌, length, take, ap, ◌∙◌}
use Rattle.hub_path.specs.Path.{Path, is_name}
use Rattle.hub_path.proofs.PathFacts.{list_all-take, take-parent}
use Rattle.hub_path.proofs.rel_path.RelPath.parent.Goals as goal

pub sharing-requires : goal.sharing-requires
sharing-requires c =
    rw (c.in_ok-names-in-len1-up.ensures, c.names.ensures.names) (list_all-take is_name _ c.args.self.now c.names.ensures.valid)

pub returns-in_ok-sharing-in-len1-up-clause-parent :
    goal.returns-in_ok-sharing-in-len1-up-clause-parent
returns-in_ok-sharing-in-len1-up-clause-parent c =
    let front : Path → Path = λ p. take (length p - 1) p in
    c.in_ok-sharing-in-len1-up.ensures ∙ (c.in_ok-names-in-len1-up.ensures ∙ (ap front c.names.ensures.names ∙ take-parent c.args.self.now))

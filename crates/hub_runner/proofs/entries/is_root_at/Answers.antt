use Rattle.std.proofs.Common.{◌∙◌, ap, sym}
use Rattle.hub_path.specs.Path.{path_eq}
use Rattle.hub_profile.specs.Parts.{some_passes}
use Rattle.hub_runner.proofs.entries.is_root_at.Goals as goal

pub returns : goal.returns
returns c = c.eq.ensures ∙ ap (some_passes (path_eq c.args.root.now)) (sym c.root.ensures.value)

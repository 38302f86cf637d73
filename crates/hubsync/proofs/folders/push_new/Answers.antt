use Rattle.std.proofs.Common.{◌∙◌, ap, sym}
use Rattle.std.specs.List.{list_any}
use Rattle.hub_path.specs.Path.{path_eq}
use Rattle.hubsync.proofs.FolderFacts.{there}
use Rattle.hubsync.proofs.folders.push_new.Goals as goal

pub returns-then-has-clause-added : goal.returns-then-has-clause-added
returns-then-has-clause-added c =
    there c.args.folders.now.items c.args.folder
    (ap (list_any (λ f. path_eq f c.args.folder)) (sym c.as_slice.ensures.value) ∙ (sym c.has.ensures ∙ c.if-has.true))

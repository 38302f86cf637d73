use Rattle.std.proofs.Common.{◌∙◌, ◌&&◌, ap}
use Rattle.std.specs.List.{list_any}
use Rattle.hub_folder.specs.Folders.{sets_root}
use Rattle.hub_folder.specs.Told.{file_told, includes_told}
use Rattle.hub_folder.proofs.ToldFacts.{root-any}
use Rattle.hub_folder.proofs.told.leaves_out.Goals as goal

pub returns-then-has_root : goal.returns-then-has_root
returns-then-has_root c =
    c.includes.ensures
    ∙ ap (λ b. b && includes_told (file_told c.args.other.now) c.args.one.now)
    (c.if-has_root.ensures ∙ ap (list_any (λ l. sets_root l.text.now)) c.as_slice.ensures.value ∙ root-any c.args.other.now)

pub returns-else-has_root : goal.returns-else-has_root
returns-else-has_root c =
    c.if-has_root.false
    ∙ ap (λ b. b && includes_told (file_told c.args.other.now) c.args.one.now)
    (c.if-has_root.ensures ∙ ap (list_any (λ l. sets_root l.text.now)) c.as_slice.ensures.value ∙ root-any c.args.other.now)

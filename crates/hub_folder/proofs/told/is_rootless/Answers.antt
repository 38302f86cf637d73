use Rattle.std.proofs.Common.{◌∙◌, ◌&&◌, not, ap}
use Rattle.std.specs.List.{list_any}
use Rattle.hub_folder.specs.Folders.{says_something, sets_root}
use Rattle.hub_folder.specs.Told.{file_told, includes_told}
use Rattle.hub_folder.proofs.ToldFacts.{without-root-any}
use Rattle.hub_folder.proofs.told.is_rootless.Goals as goal

pub returns-then-is_without_root : goal.returns-then-is_without_root
returns-then-is_without_root c =
    ap not c.is_included.ensures
    ∙ ap (λ b. b && not (list_any (includes_told (file_told c.args.one.now)) c.args.told.now))
    (c.if-is_without_root.ensures
    ∙ ap (λ ls. not (list_any (λ l. sets_root l.text.now) ls) && list_any (λ l. says_something l.text.now) ls) c.as_slice.ensures.value
    ∙ without-root-any c.args.one.now)

pub returns-else-is_without_root : goal.returns-else-is_without_root
returns-else-is_without_root c =
    c.if-is_without_root.false
    ∙ ap (λ b. b && not (list_any (includes_told (file_told c.args.one.now)) c.args.told.now))
    (c.if-is_without_root.ensures
    ∙ ap (λ ls. not (list_any (λ l. sets_root l.text.now) ls) && list_any (λ l. says_something l.text.now) ls) c.as_slice.ensures.value
    ∙ without-root-any c.args.one.now)

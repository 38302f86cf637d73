use Rattle.std.proofs.Common.{◌∙◌, ◌&&◌, ap, bytes_eq}
use Rattle.std.specs.List.{list_any}
use Rattle.hub_folder.specs.Folders.{have_file}
use Rattle.hub_folder.specs.Told.{lines_told}
use Rattle.hub_folder.proofs.ToldFacts.{file-any}
use Rattle.hub_folder.proofs.told.includes.Goals as goal

pub returns-then-ne : goal.returns-then-ne
returns-then-ne c =
    c.has_file.ensures ∙ ap (list_any (λ l. bytes_eq l.file.now c.args.name.now)) c.as_slice.ensures.value ∙ file-any c.args.name.now c.args.other.now
    ∙ ap (λ b. b && have_file c.args.name.now (lines_told c.args.other.now)) c.if-ne.ensures

use Rattle.std.proofs.Common.{◌≡◌, ap, ◌∙◌}
use Rattle.hub_path.specs.Path.{parent}
use Rattle.hub_path.specs.Reading.{names_fault}
use Rattle.hub_state.proofs.Folders.{parent_fine}
use Rattle.hub_state.proofs.near.folder_of.Goals as goal

pub returns-in-Some : goal.returns-in-Some
returns-in-Some c =
    let is : c.in-Some.folder ≡ parent c.args.path.now = rw c.in-Some.is at c.in_ok-folder.ensures.parent in
    ap (names_fault 0) is ∙ parent_fine c.args.path.now c.requires

use Rattle.std.proofs.Common.{◌≡◌, length}
use Rattle.hub_folder.specs.Folders as folders
use Rattle.hub_folder.proofs.root.without_blanks.Given as goal

abbrev pub invariant-loop-rest : goal.invariant-loop-rest
invariant-loop-rest l = folders.without_blanks l.rest ≡ folders.without_blanks l.fn.text

abbrev pub decreases-loop-rest : goal.decreases-loop-rest
decreases-loop-rest l = length l.rest

use Rattle.std.proofs.Common.{◌≡◌, List, ◌++◌}
use Rattle.std.specs.FinMap as fin
use Rattle.hub_path.specs.Path.{Path}
use Rattle.hub_tree.specs.declared.contents.Mark.{Mark}
use Rattle.hub_schedule.proofs.Merging.{IsTaken}
use Rattle.hub_schedule.proofs.ends.take_marks.Given as goal

abbrev pub invariant-loop-path : goal.invariant-loop-path
invariant-loop-path l =
    (es : List (Path × Mark)) × (es ++ l.path-iterator ≡ fin.entries l.paths) × IsTaken l.profile l.next es l.initial.merged l.merged

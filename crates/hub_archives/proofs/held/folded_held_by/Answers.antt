use Rattle.hub_archives.proofs.KeepingFolded.{held_folded}
use Rattle.hub_archives.proofs.held.folded_held_by.Goals as goal

pub returns : goal.returns
returns c M folds same =
    held_folded c.readings_of_folded_lines_hold_in_unison.ensures c.args.profile c.in_ok-reading.reading M c.args.folders.now c.held_in.result folds same
    c.in_ok-reading.ensures.value c.in_ok-reading.ensures.wide c.held_in.ensures

use Rattle.hub_serve.proofs.Unsafe.{breach-unsafe, overlap-unsafe}
use Rattle.hub_serve.proofs.laws.what_is_shown_is_not_safe.Goals as goal

pub returns : goal.returns
returns c =
    let listed = c.goals_are_listed_once.ensures.listed in
    let unsafe = c.shown_paths_make_a_set_unsafe.ensures in
    record { overlap = overlap-unsafe listed unsafe; breach = breach-unsafe listed unsafe }

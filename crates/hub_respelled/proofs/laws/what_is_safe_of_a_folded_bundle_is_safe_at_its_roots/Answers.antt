use Rattle.hub_folded.specs.Table.{unicode}
use Rattle.hub_respelled.specs.Members.{folds_in}
use Rattle.hub_respelled.specs.Respelled.{said_roots}
use Rattle.hub_respelled.proofs.SaidRoots.{have-roots, hold-at-roots}
use Rattle.hub_respelled.proofs.laws.what_is_safe_of_a_folded_bundle_is_safe_at_its_roots.Goals as goal

pub returns-clause-clashes : goal.returns-clause-clashes
returns-clause-clashes c bundle text f Vs same by all =
    c.roots_that_are_told_apart_are_roots_of_their_own.ensures.clashes unicode (said_roots f.said.own) Vs
    (have-roots f.said.own (folds_in f.said.sections) Vs same) f.told
    (c.what_is_safe_of_a_folded_bundle_is_safe.ensures.clashes bundle text f Vs same by all)

pub returns-clause-kept : goal.returns-clause-kept
returns-clause-kept c bundle text f Vs same by all =
    c.roots_that_are_told_apart_are_roots_of_their_own.ensures.kept unicode (said_roots f.said.own) Vs
    f.said.own.rules (have-roots f.said.own (folds_in f.said.sections) Vs same)
    (hold-at-roots f.said.own) f.told
    (c.what_is_safe_of_a_folded_bundle_is_safe.ensures.kept bundle text f Vs same by all)

use Rattle.std.proofs.Common.{sym, ap, ◌∙◌}
use Rattle.std.proofs.lemmas.Result.{IfOk-weaker}
use Rattle.hub_reconcile.specs.forms.Fates.{source}
use Rattle.hub_reconcile.specs.Picture.{told_by}
use Rattle.hub_reconcile.specs.Sync.{of_side}
use Rattle.hub_reconcile.proofs.Fated.{fate_of_some, fate_of_none}
use Rattle.hub_reconcile.proofs.fate.fate_of.Goals as goal

pub returns-in-Some : goal.returns-in-Some
returns-in-Some c =
    let V = c.args.picture.now in
    IfOk-weaker c.fate_from.result _ _
    (λ f h. h ∙ fate_of_some V.profile.now V.archive.now (of_side (told_by V.left.now) (told_by V.right.now)) c.args.item.now c.args.below.now c.requires.rows c.requires.below c.requires.whole c.in-Some.from
    (sym (c.in-Some.ensures ∙ ap (λ P. source P c.args.item.now c.args.below.now) c.profile.ensures)))
    c.fate_from.ensures

pub returns-in-None : goal.returns-in-None
returns-in-None c =
    let V = c.args.picture.now in
    fate_of_none V.profile.now V.archive.now (of_side (told_by V.left.now) (told_by V.right.now)) c.args.item.now c.args.below.now c.requires.rows c.requires.below c.requires.whole
    (sym (c.in-None.ensures ∙ ap (λ P. source P c.args.item.now c.args.below.now) c.profile.ensures))

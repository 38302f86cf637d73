use Rattle.std.proofs.Common.{◌∙◌, ap, subst, sym, true}
use Rattle.hub_mend.specs.Additions.{safe_line}
use Rattle.hub_serve.specs.Told.{IsMendedAs}
use Rattle.hub_serve.proofs.mend.report_on_safe.Goals as goal

pub returns-in-Ok-clause-told : goal.returns-in-Ok-clause-told
returns-in-Ok-clause-told c = λ reading bytes said.
    c.report_with.ensures.told reading bytes
    (subst (IsMendedAs reading bytes c.args.pieces.now true) (sym (c.as_str.ensures.value ∙ c.in-Ok.ensures ∙ ap safe_line c.in-Some.ensures)) said)

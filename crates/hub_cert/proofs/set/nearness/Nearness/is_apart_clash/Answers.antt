use Rattle.std.proofs.Common.{◌∙◌, Some, None, ap, sym}
use Rattle.hub_cert.specs.Apart.{is_apart_goal}
use Rattle.hub_cert.specs.declared.goal.Goal.TheVariants.{Clash}
use Rattle.hub_cert.proofs.NearRows.{clash-told}
use Rattle.hub_cert.proofs.set.nearness.Nearness.is_apart_clash.Goals as goal

pub returns-in-Some : goal.returns-in-Some
returns-in-Some c = λ place.
    let w = c.args.writer in
    let o = c.args.other in
    clash-told c.self.inside.set.now w o place c.as_slice.result.now (Some c.in-Some.is_near) c.if-writer-other.false (c.as_slice.ensures ∙ c.self.invariant) (sym c.entry_at.ensures ∙ c.in-Some.is)
    ∙ ap (λ S. is_apart_goal S (Clash w o place)) c.self.view_is

pub returns-in-None : goal.returns-in-None
returns-in-None c = λ place.
    let w = c.args.writer in
    let o = c.args.other in
    clash-told c.self.inside.set.now w o place c.as_slice.result.now None c.if-writer-other.false (c.as_slice.ensures ∙ c.self.invariant) (sym c.entry_at.ensures ∙ c.in-None.is)
    ∙ ap (λ S. is_apart_goal S (Clash w o place)) c.self.view_is

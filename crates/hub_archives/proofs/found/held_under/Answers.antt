use Rattle.std.proofs.Common.{◌∙◌, ap, sym}
use Rattle.hub_profile.specs.Reading.{profile_in}
use Rattle.hub_archives.proofs.Sections.{held_for}
use Rattle.hub_archives.proofs.found.held_under.Goals as goal

pub returns-in-Ok : goal.returns-in-Ok
returns-in-Ok c =
    held_for c.args.folders.now c.args.section.now c.in-Profile.name c.in-Ok.profile c.held_by.result
    (sym c.heading.ensures ∙ c.in-Profile.is)
    (ap (λ b. profile_in c.in-Profile.name b) (sym c.bytes.ensures)
    ∙ (ap (λ n. profile_in n c.bytes.result.now) (sym c.in_ok-copy.ensures) ∙ c.in-Ok.ensures.ok)) c.held_by.ensures

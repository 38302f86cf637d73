use Rattle.std.proofs.Common.{◌∙◌, ◌==◌, ap, Some, None}
use Rattle.std.specs.Str.Pattern.{FindsChar}
use Rattle.hub_profile.specs.Lines.{trimmed}
use Rattle.hub_text.specs.laws.TextCuts.{parted, finds_by}
use Rattle.hub_profile.proofs.line.name_and_value.Goals as goal

pub returns-in_err-name : goal.returns-in_err-name
returns-in_err-name c =
    rw c.from_residual.ensures (parted (λ d. d == 61) (FindsChar 61) (finds_by 61) c.args.line.now None c.utf8.line c.in_err-name.ensures.cases).0

pub returns : goal.returns
returns c =
    let cut = parted (λ d. d == 61) (FindsChar 61) (finds_by 61) c.args.line.now (Some (c.in_ok-name.name, c.in_ok-name.value)) c.utf8.line c.in_ok-name.ensures.cases in
    (cut.0, c.trimmed.ensures ∙ ap trimmed cut.1, c.trimmed-2.ensures ∙ ap trimmed cut.2)

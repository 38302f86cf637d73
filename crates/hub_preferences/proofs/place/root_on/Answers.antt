use Rattle.std.proofs.Common.{◌≡◌, refl, sym, ap, subst, ◌∙◌}
use Rattle.std.specs.Prelude.{IfOk}
use Rattle.std.specs.Str.{chars}
use Rattle.std.proofs.lemmas.Bool.{false_from_ne_true}
use Rattle.std.proofs.lemmas.Str.{is_utf8-from_IsUtf8, IsUtf8-from_is_utf8}
use Rattle.hub_profile.specs.Lines.{trimmed_line}
use Rattle.hub_preferences.specs.Places as spec
use Rattle.hub_preferences.proofs.place.root_on.Goals as goal

pub returns-in-Ok : goal.returns-in-Ok
returns-in-Ok c =
    let l = c.args.line.now in
    let text = c.in-Ok.ensures.cases in
    let here : spec.root_in_text (chars c.line_text.result.now) ≡ spec.root_in_text (trimmed_line (chars l)) = ap spec.root_in_text (c.line_text.ensures ∙ ap (λ t. trimmed_line (chars t)) text.0) in
    let whole : spec.root_on l ≡ spec.root_in_text (trimmed_line (chars l)) = rw (is_utf8-from_IsUtf8 l text.1) refl in
    subst (λ e. IfOk c.root_in_text.result (λ o. o ≡ e)) (here ∙ sym whole) c.root_in_text.ensures

pub returns-in-Err : goal.returns-in-Err
returns-in-Err c =
    let l = c.args.line.now in
    rw (false_from_ne_true _ (λ h. c.in-Err.ensures.cases.0 (IsUtf8-from_is_utf8 l h))) refl

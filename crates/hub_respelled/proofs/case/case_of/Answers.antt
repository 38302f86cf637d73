use Rattle.std.proofs.Common.{◌≡◌, refl, sym, ap, ◌∙◌}
use Rattle.std.specs.Str.{chars}
use Rattle.std.proofs.lemmas.Bool.{false_from_ne_true}
use Rattle.std.proofs.lemmas.Str.{is_utf8-from_IsUtf8, IsUtf8-from_is_utf8}
use Rattle.hub_profile.specs.Lines.{trimmed_line}
use Rattle.hub_respelled.specs.Case.{case_of, case_of_text}
use Rattle.hub_respelled.proofs.case.case_of.Goals as goal

pub returns-in-Ok : goal.returns-in-Ok
returns-in-Ok c =
    let l = c.args.line.now in
    let text = c.in-Ok.ensures.cases in
    let here : case_of_text (chars c.line_text.result.now) ≡ case_of_text (trimmed_line (chars l)) = ap case_of_text (c.line_text.ensures ∙ ap (λ t. trimmed_line (chars t)) text.0) in
    let whole : case_of l ≡ case_of_text (trimmed_line (chars l)) = rw (is_utf8-from_IsUtf8 l text.1) refl in
    c.case_of_text.ensures ∙ (here ∙ sym whole)

pub returns-in-Err : goal.returns-in-Err
returns-in-Err c =
    let l = c.args.line.now in
    rw (false_from_ne_true _ (λ h. c.in-Err.ensures.cases.0 (IsUtf8-from_is_utf8 l h))) refl

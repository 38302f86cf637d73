use Rattle.std.proofs.Common.{◌≡◌, refl, sym, ap, subst, ◌∙◌}
use Rattle.std.specs.Prelude.{IfOk}
use Rattle.std.specs.Str.{chars}
use Rattle.std.proofs.lemmas.Bool.{false_from_ne_true}
use Rattle.std.proofs.lemmas.Str.{is_utf8-from_IsUtf8, IsUtf8-from_is_utf8}
use Rattle.hub_profile.specs.Lines.{trimmed_line}
use Rattle.hub_preferences.specs.Kinds.{kind_of, kind_of_text}
use Rattle.hub_preferences.proofs.kind.kind_of.Goals as goal

pub returns-in-Ok : goal.returns-in-Ok
returns-in-Ok c =
    let l = c.args.line.now in
    let text = c.in-Ok.ensures.cases in
    let here : kind_of_text c.args.roots.now (chars c.line_text.result.now) ≡ kind_of_text c.args.roots.now (trimmed_line (chars l)) = ap (kind_of_text c.args.roots.now) (c.line_text.ensures ∙ ap (λ t. trimmed_line (chars t)) text.0) in
    let whole : kind_of c.args.roots.now l ≡ kind_of_text c.args.roots.now (trimmed_line (chars l)) = rw (is_utf8-from_IsUtf8 l text.1) refl in
    subst (λ e. IfOk c.kind_of_text.result (λ k. k ≡ e)) (here ∙ sym whole) c.kind_of_text.ensures

pub returns-in-Err : goal.returns-in-Err
returns-in-Err c =
    let l = c.args.line.now in
    rw (false_from_ne_true _ (λ h. c.in-Err.ensures.cases.0 (IsUtf8-from_is_utf8 l h))) refl

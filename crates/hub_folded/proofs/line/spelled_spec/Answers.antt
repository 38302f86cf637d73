use Rattle.std.proofs.Common.{◌∙◌, string_bytes, sym}
use Rattle.hub_glob.specs.Specification.{Specification}
use Rattle.hub_folded.proofs.LineText.{read-none, read-other, read-some, value-read}
use Rattle.hub_folded.proofs.line.spelled_spec.Goals as goal

pub returns-in_default : goal.returns-in_default
returns-in_default c =
    let s : Specification = record { kind = c.args.kind; pattern = c.args.pattern.now } in
    let said = value-read s c.as_str.result.now (string_bytes c.in_ok-line.line) _ c.in_ok-spec.field-0 c.as_str.utf8 c.in_ok-line.ensures c.as_str.ensures.value c.line_text.ensures c.in_ok-spec.ensures in
    read-none s c.in_ok-spec.field-0 c.in_default.is said

pub returns-then-is_made_of : goal.returns-then-is_made_of
returns-then-is_made_of c =
    let s : Specification = record { kind = c.args.kind; pattern = c.args.pattern.now } in
    let said = value-read s c.as_str.result.now (string_bytes c.in_ok-line.line) _ c.in_ok-spec.field-0 c.as_str.utf8 c.in_ok-line.ensures c.as_str.ensures.value c.line_text.ensures c.in_ok-spec.ensures in
    read-some s c.in-Some.spec c.in_ok-spec.field-0 c.in-Some.is said (sym c.is_made_of.ensures ∙ c.if-is_made_of.true)

pub returns : goal.returns
returns c =
    let s : Specification = record { kind = c.args.kind; pattern = c.args.pattern.now } in
    let said = value-read s c.as_str.result.now (string_bytes c.in_ok-line.line) _ c.in_ok-spec.field-0 c.as_str.utf8 c.in_ok-line.ensures c.as_str.ensures.value c.line_text.ensures c.in_ok-spec.ensures in
    read-other s c.in-Some.spec c.in_ok-spec.field-0 c.in-Some.is said (sym c.is_made_of.ensures ∙ c.if-is_made_of.false)

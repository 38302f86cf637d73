use Rattle.std.proofs.Common.{◌∙◌, string_bytes, sym}
use Rattle.hub_glob.specs.Specification.{Specification}
use Rattle.hub_unison.proofs.ReadBack.{read-none, read-other, read-some, spelled-text}
use Rattle.hub_unison.proofs.spare.spec_of.Goals as goal

pub returns-in_default : goal.returns-in_default
returns-in_default c =
    let s : Specification = record { kind = c.args.kind; pattern = c.args.pattern.now } in
    let spelled = spelled-text s c.as_str.result.now (string_bytes c.in_ok-text.text) c.in_ok-spec.field-0 c.as_str.utf8 c.in_ok-text.ensures c.as_str.ensures.value c.in_ok-spec.ensures in
    read-none s c.in_ok-spec.field-0 c.in_default.is spelled

pub returns-then-is_made_of : goal.returns-then-is_made_of
returns-then-is_made_of c =
    let s : Specification = record { kind = c.args.kind; pattern = c.args.pattern.now } in
    let spelled = spelled-text s c.as_str.result.now (string_bytes c.in_ok-text.text) c.in_ok-spec.field-0 c.as_str.utf8 c.in_ok-text.ensures c.as_str.ensures.value c.in_ok-spec.ensures in
    read-some s c.in-Some.spec c.in_ok-spec.field-0 c.in-Some.is spelled (sym c.is_made_of.ensures ∙ c.if-is_made_of.true)

pub returns : goal.returns
returns c =
    let s : Specification = record { kind = c.args.kind; pattern = c.args.pattern.now } in
    let spelled = spelled-text s c.as_str.result.now (string_bytes c.in_ok-text.text) c.in_ok-spec.field-0 c.as_str.utf8 c.in_ok-text.ensures c.as_str.ensures.value c.in_ok-spec.ensures in
    read-other s c.in-Some.spec c.in_ok-spec.field-0 c.in-Some.is spelled (sym c.is_made_of.ensures ∙ c.if-is_made_of.false)

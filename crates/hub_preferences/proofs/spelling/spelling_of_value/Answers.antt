use Rattle.std.proofs.Common.{◌∙◌, ◌++◌, codes, sym, ap, string_bytes}
use Rattle.std.specs.Str.{chars}
use Rattle.hub_preferences.proofs.SpelledNames.{no_spelling, has_spelling}
use Rattle.hub_preferences.proofs.spelling.spelling_of_value.Goals as goal

pub returns-then-not-can_stand_for : goal.returns-then-not-can_stand_for
returns-then-not-can_stand_for c =
    let names = rw c.in-Some.is at c.in_ok-names.ensures in
    no_spelling (chars c.args.value.now) c.as_str.result.now names.0 (c.as_str.ensures.value ∙ names.1)
    (sym c.can_stand_for.ensures ∙ c.if-not-can_stand_for.true)

pub returns : goal.returns
returns c =
    let names = rw c.in-Some.is at c.in_ok-names.ensures in
    has_spelling (chars c.args.value.now) c.as_str.result.now (string_bytes c.in_ok-path_line.field-0)
    (sym c.begins_with.ensures ∙ c.if-begins_with.false) names.0 (c.as_str.ensures.value ∙ names.1)
    (sym c.can_stand_for.ensures ∙ c.if-not-can_stand_for.false)
    (c.in_ok-path_line.ensures ∙ ap (λ t. codes "path = " ++ t) (c.as_str-2.ensures.value ∙ sym c.as_str.ensures.value))

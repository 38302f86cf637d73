use Rattle.std.proofs.Common.{◌∙◌, ◌++◌, length, sym, ap, lit<, refl, string_bytes}
use Rattle.std.specs.Str.{chars}
use Rattle.std.proofs.lemmas.List.{length_push}
use Rattle.std.proofs.lemmas.Iterator.Consumers.{YieldsList-turn, YieldsList-end}
use Rattle.hub_text.specs.laws.TextParts.{part-chars, length-parts}
use Rattle.hub_path.specs.Path.{path_of}
use Rattle.hub_path.specs.laws.Parts.{parts_of_text}
use Rattle.hub_preferences.proofs.SpelledNames.{skipped, more, none, whole}
use Rattle.hub_preferences.proofs.spelling.names_of.Goals as goal

pub loop-part-init : goal.loop-part-init
loop-part-init c = record { bytes = c.new-names.ensures.bytes; places = refl }

pub loop-part-preserved-then-is_nothing : goal.loop-part-preserved-then-is_nothing
loop-part-preserved-then-is_nothing c =
    let same = c.into_iter-part-iterator.ensures.into_iter_gives in
    let turn = YieldsList-turn (parts_of_text c.args.value.now same c.split-part-items.ensures.text c.split-part-items.ensures.has_more c.split-part-items.ensures.pattern) c.loop-part.yielded _ c.loop-part.yielded_by _ _ c.in-Some.part c.in-Some.is c.next.ensures.steps in
    let at = part-chars 47 c.args.value.now (length c.loop-part.yielded) c.in-Some.part.now (lit< tt) c.utf8.value turn.0 turn.1 in
    rw (length_push c.loop-part.yielded c.in-Some.part)
    (skipped (path_of (chars c.args.value.now)) (length c.loop-part.yielded) (chars c.in-Some.part.now) (string_bytes c.loop-part.names) c.loop-part.invariant at.0 at.1 (sym c.is_nothing.ensures ∙ c.if-is_nothing.true))

pub returns-in_default : goal.returns-in_default
returns-in_default c =
    let same = c.into_iter-part-iterator.ensures.into_iter_gives in
    let turn = YieldsList-turn (parts_of_text c.args.value.now same c.split-part-items.ensures.text c.split-part-items.ensures.has_more c.split-part-items.ensures.pattern) c.loop-part.yielded _ c.loop-part.yielded_by _ _ c.in-Some.part c.in-Some.is c.next.ensures.steps in
    let at = part-chars 47 c.args.value.now (length c.loop-part.yielded) c.in-Some.part.now (lit< tt) c.utf8.value turn.0 turn.1 in
    none (path_of (chars c.args.value.now)) (length c.loop-part.yielded) (chars c.in-Some.part.now) at.0 at.1 (sym c.is_nothing.ensures ∙ c.if-is_nothing.false)
    (sym c.in_default.is ∙ c.in_ok-name.ensures.name)

pub loop-part-preserved : goal.loop-part-preserved
loop-part-preserved c =
    let same = c.into_iter-part-iterator.ensures.into_iter_gives in
    let turn = YieldsList-turn (parts_of_text c.args.value.now same c.split-part-items.ensures.text c.split-part-items.ensures.has_more c.split-part-items.ensures.pattern) c.loop-part.yielded _ c.loop-part.yielded_by _ _ c.in-Some.part c.in-Some.is c.next.ensures.steps in
    let at = part-chars 47 c.args.value.now (length c.loop-part.yielded) c.in-Some.part.now (lit< tt) c.utf8.value turn.0 turn.1 in
    rw (length_push c.loop-part.yielded c.in-Some.part)
    (more (path_of (chars c.args.value.now)) (length c.loop-part.yielded) (chars c.in-Some.part.now) c.in-Some-2.name (string_bytes c.loop-part.names)
    (string_bytes c.push_str.new.self) (string_bytes c.push.new.self) c.loop-part.invariant at.0 at.1 (sym c.is_nothing.ensures ∙ c.if-is_nothing.false)
    (sym c.in-Some-2.is ∙ c.in_ok-name.ensures.name)
    (c.in_ok-push_str.ensures.bytes ∙ ap (λ t. string_bytes c.loop-part.names ++ t) c.text.ensures.text) c.in_ok-push.ensures.bytes)

pub returns : goal.returns
returns c =
    let same = c.into_iter-part-iterator.ensures.into_iter_gives in
    let end = YieldsList-end (parts_of_text c.args.value.now same c.split-part-items.ensures.text c.split-part-items.ensures.has_more c.split-part-items.ensures.pattern) c.loop-part.yielded _ c.loop-part.yielded_by _ _ c.in-None.is c.next.ensures.steps in
    whole (path_of (chars c.args.value.now)) (length c.loop-part.yielded) (string_bytes c.loop-part.names) c.loop-part.invariant (end.1 ∙ sym (length-parts 47 c.args.value.now (lit< tt) c.utf8.value))

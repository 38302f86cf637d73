use Rattle.std.proofs.Common.{length, sym, ◌∙◌, lit<}
use Rattle.std.specs.Str.{chars}
use Rattle.std.proofs.lemmas.List.{length_push}
use Rattle.std.proofs.lemmas.Iterator.Consumers.{YieldsList-turn, YieldsList-end}
use Rattle.hub_text.specs.laws.TextParts.{part-chars, length-parts}
use Rattle.hub_path.specs.Path.{path_of}
use Rattle.hub_path.proofs.PathFacts.{all-names, names-more, no-path, whole-path}
use Rattle.hub_path.specs.laws.Parts.{parts_of_text}
use Rattle.hub_path.proofs.rel_path.RelPath.from_text.Goals as goal

pub loop-part-preserved : goal.loop-part-preserved
loop-part-preserved c =
    let same = c.into_iter-part-iterator.ensures.into_iter_gives in
    let turn = YieldsList-turn (parts_of_text c.args.text.now same c.split-part-items.ensures.text c.split-part-items.ensures.has_more c.split-part-items.ensures.pattern) c.loop-part.yielded _ c.loop-part.yielded_by _ _ c.in-Some.part c.in-Some.is c.next.ensures.steps in
    let at = part-chars 47 c.args.text.now (length c.loop-part.yielded) c.in-Some.part.now (lit< tt) c.utf8.text turn.0 turn.1 in
    rw (length_push c.loop-part.yielded c.in-Some.part, c.in_ok-push-in-Some-2.ensures.items)
    (names-more (path_of (chars c.args.text.now)) c.loop-part.names.items (length c.loop-part.yielded) (chars c.in-Some.part.now) c.in-Some-2.name c.loop-part.invariant at.0 at.1 (sym c.in-Some-2.is ∙ c.in_ok-name.ensures.name))

pub returns-in-None-2-clause-path : goal.returns-in-None-2-clause-path
returns-in-None-2-clause-path c =
    let same = c.into_iter-part-iterator.ensures.into_iter_gives in
    let turn = YieldsList-turn (parts_of_text c.args.text.now same c.split-part-items.ensures.text c.split-part-items.ensures.has_more c.split-part-items.ensures.pattern) c.loop-part.yielded _ c.loop-part.yielded_by _ _ c.in-Some.part c.in-Some.is c.next.ensures.steps in
    let at = part-chars 47 c.args.text.now (length c.loop-part.yielded) c.in-Some.part.now (lit< tt) c.utf8.text turn.0 turn.1 in
    no-path (chars c.args.text.now) (length c.loop-part.yielded) (chars c.in-Some.part.now) at.0 at.1 (sym c.in-None-2.is ∙ c.in_ok-name.ensures.name)

pub returns-clause-path : goal.returns-clause-path
returns-clause-path c =
    let same = c.into_iter-part-iterator.ensures.into_iter_gives in
    let end = YieldsList-end (parts_of_text c.args.text.now same c.split-part-items.ensures.text c.split-part-items.ensures.has_more c.split-part-items.ensures.pattern) c.loop-part.yielded _ c.loop-part.yielded_by _ _ c.in-None.is c.next.ensures.steps in
    rw c.in_ok-with_text.ensures (whole-path (chars c.args.text.now) c.loop-part.names.items (length c.loop-part.yielded) c.loop-part.invariant (end.1 ∙ sym (length-parts 47 c.args.text.now (lit< tt) c.utf8.text))).0

pub with_text-requires-clause-text : goal.with_text-requires-clause-text
with_text-requires-clause-text c =
    let same = c.into_iter-part-iterator.ensures.into_iter_gives in
    let end = YieldsList-end (parts_of_text c.args.text.now same c.split-part-items.ensures.text c.split-part-items.ensures.has_more c.split-part-items.ensures.pattern) c.loop-part.yielded _ c.loop-part.yielded_by _ _ c.in-None.is c.next.ensures.steps in
    all-names (path_of (chars c.args.text.now)) c.loop-part.names.items (length c.loop-part.yielded) c.loop-part.invariant (end.1 ∙ sym (length-parts 47 c.args.text.now (lit< tt) c.utf8.text))

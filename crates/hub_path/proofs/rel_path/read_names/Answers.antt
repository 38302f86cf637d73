use Rattle.std.proofs.Common.{◌≡◌, ◌==◌, true, false, length, inl, inr, ⊎_elim, sym, ◌∙◌, lit<}
use Rattle.std.specs.Str.{chars}
use Rattle.std.proofs.lemmas.List.{length_push}
use Rattle.std.proofs.lemmas.Result.{err_from_is_err_and}
use Rattle.std.proofs.lemmas.Bool.{eq-eqb, ne_eqb}
use Rattle.std.proofs.lemmas.Iterator.Consumers.{YieldsList-turn, YieldsList-end}
use Rattle.hub_text.specs.laws.TextParts.{part-chars, length-parts}
use Rattle.hub_path.specs.Path.{path_of}
use Rattle.hub_path.specs.declared.rel_path.TheConstants.{PATH_NAMES}
use Rattle.hub_path.specs.laws.ReadNames.{fault-deep, fault-name, read-more, read-all}
use Rattle.hub_path.specs.laws.Parts.{parts_of_text}
use Rattle.hub_path.proofs.rel_path.read_names.Goals as goal

pub loop-part-preserved : goal.loop-part-preserved
loop-part-preserved c =
    let same = c.into_iter-part-iterator.ensures.into_iter_gives in
    let turn = YieldsList-turn (parts_of_text c.args.text.now same c.split-part-items.ensures.text c.split-part-items.ensures.has_more c.split-part-items.ensures.pattern) c.loop-part.yielded _ c.loop-part.yielded_by _ _ c.in-Some.part c.in-Some.is c.next.ensures.steps in
    let at = part-chars 47 c.args.text.now (length c.loop-part.yielded) c.in-Some.part.now (lit< tt) c.utf8.text turn.0 turn.1 in
    let few : (length c.loop-part.yielded == PATH_NAMES) ≡ false = ne_eqb (length c.loop-part.yielded) PATH_NAMES (λ e. c.if-len-eq-PATH_NAMES.false (c.len.ensures ∙ c.loop-part.names.ok.0 ∙ c.loop-part.invariant.count_is ∙ e)) in
    rw (length_push c.loop-part.yielded c.in-Some.part, c.in_ok-push.ensures.items)
    (read-more (path_of (chars c.args.text.now)) c.loop-part.names.items (length c.loop-part.yielded) (chars c.in-Some.part.now) _ c.loop-part.invariant at.0 at.1 few c.in_ok-name.ensures.ok c.in_ok-name.ensures.valid)

pub returns-then-len-eq-PATH_NAMES-clause-err : goal.returns-then-len-eq-PATH_NAMES-clause-err
returns-then-len-eq-PATH_NAMES-clause-err c =
    let same = c.into_iter-part-iterator.ensures.into_iter_gives in
    let turn = YieldsList-turn (parts_of_text c.args.text.now same c.split-part-items.ensures.text c.split-part-items.ensures.has_more c.split-part-items.ensures.pattern) c.loop-part.yielded _ c.loop-part.yielded_by _ _ c.in-Some.part c.in-Some.is c.next.ensures.steps in
    let at = part-chars 47 c.args.text.now (length c.loop-part.yielded) c.in-Some.part.now (lit< tt) c.utf8.text turn.0 turn.1 in
    let full : (length c.loop-part.yielded == PATH_NAMES) ≡ true = eq-eqb (length c.loop-part.yielded) PATH_NAMES (sym c.loop-part.invariant.count_is ∙ sym c.loop-part.names.ok.0 ∙ sym c.len.ensures ∙ c.if-len-eq-PATH_NAMES.true) in
    inr (fault-deep (path_of (chars c.args.text.now)) c.loop-part.names.items (length c.loop-part.yielded) (chars c.in-Some.part.now) c.loop-part.invariant at.0 at.1 full)

pub returns-in_err-name-clause-err : goal.returns-in_err-name-clause-err
returns-in_err-name-clause-err c =
    let same = c.into_iter-part-iterator.ensures.into_iter_gives in
    let turn = YieldsList-turn (parts_of_text c.args.text.now same c.split-part-items.ensures.text c.split-part-items.ensures.has_more c.split-part-items.ensures.pattern) c.loop-part.yielded _ c.loop-part.yielded_by _ _ c.in-Some.part c.in-Some.is c.next.ensures.steps in
    let at = part-chars 47 c.args.text.now (length c.loop-part.yielded) c.in-Some.part.now (lit< tt) c.utf8.text turn.0 turn.1 in
    let few : (length c.loop-part.yielded == PATH_NAMES) ≡ false = ne_eqb (length c.loop-part.yielded) PATH_NAMES (λ e. c.if-len-eq-PATH_NAMES.false (c.len.ensures ∙ c.loop-part.names.ok.0 ∙ c.loop-part.invariant.count_is ∙ e)) in
    let fault = err_from_is_err_and c.from_residual.result c.from_residual.ensures.1 in
    rw (fault.1, fault.2)
    (⊎_elim (λ memory. inl memory)
    (λ bad. inr (fault-name (path_of (chars c.args.text.now)) c.loop-part.names.items (length c.loop-part.yielded) (chars c.in-Some.part.now) _ c.loop-part.invariant at.0 at.1 few bad))
    c.in_err-name.ensures.err)

pub returns-clause-ok : goal.returns-clause-ok
returns-clause-ok c =
    let same = c.into_iter-part-iterator.ensures.into_iter_gives in
    let end = YieldsList-end (parts_of_text c.args.text.now same c.split-part-items.ensures.text c.split-part-items.ensures.has_more c.split-part-items.ensures.pattern) c.loop-part.yielded _ c.loop-part.yielded_by _ _ c.in-None.is c.next.ensures.steps in
    read-all (path_of (chars c.args.text.now)) c.loop-part.names.items (length c.loop-part.yielded) c.loop-part.invariant (end.1 ∙ sym (length-parts 47 c.args.text.now (lit< tt) c.utf8.text))

use Rattle.std.proofs.Common.{◌≡◌, ◌∙◌, ◌==◌, false, true, chars, sym, arith}
use Rattle.std.proofs.lemmas.Iterator.{YieldsList-from_chars}
use Rattle.std.proofs.lemmas.Iterator.Consumers.{YieldsList-turn, YieldsList-end}
use Rattle.std.proofs.lemmas.List.{map-id}
use Rattle.hub_fronts.proofs.Fronted.{turn-differs, turn-end, turn-same}
use Rattle.hub_fronts.proofs.fronts.begins_like.Goals as goal

pub returns-then-literal-character : goal.returns-then-literal-character
returns-then-literal-character c =
    let t = YieldsList-turn (YieldsList-from_chars c.args.text.now c.utf8.text cc) c.loop-character.yielded _ c.loop-character.yielded_by _ _ c.in-Some.character c.in-Some.is c.next.ensures.steps in
    let differs : (c.in-Some-first_literal.literal == c.in-Some.character) ≡ false = grind (arith, c.if-literal-character.true) in
    turn-differs c.loop-character.rest.now c.in-Some-first_literal.literal c.in-Some.character c.loop-character.yielded (chars c.args.text.now) _
    (sym c.first_literal.ensures ∙ c.in-Some-first_literal.is) differs t c.loop-character.invariant

pub loop-character-preserved : goal.loop-character-preserved
loop-character-preserved c =
    let t = YieldsList-turn (YieldsList-from_chars c.args.text.now c.utf8.text cc) c.loop-character.yielded _ c.loop-character.yielded_by _ _ c.in-Some.character c.in-Some.is c.next.ensures.steps in
    let agrees : (c.in-Some-first_literal.literal == c.in-Some.character) ≡ true = grind (arith, c.if-literal-character.false) in
    turn-same c.loop-character.rest.now c.behind_first-rest.result.now c.in-Some-first_literal.literal c.in-Some.character c.loop-character.yielded (chars c.args.text.now) _
    (sym c.first_literal.ensures ∙ c.in-Some-first_literal.is) agrees c.behind_first-rest.ensures t c.loop-character.invariant

pub returns : goal.returns
returns c =
    let all = YieldsList-end (YieldsList-from_chars c.args.text.now c.utf8.text cc) c.loop-character.yielded _ c.loop-character.yielded_by _ _ c.in-None.is c.next.ensures.steps in
    let read : c.loop-character.yielded ≡ chars c.args.text.now = sym (map-id c.loop-character.yielded) ∙ all.0 in
    turn-end c.loop-character.rest.now c.loop-character.yielded (chars c.args.text.now) _ (sym read) c.loop-character.invariant

use Rattle.std.proofs.Common.{◌≡◌, ◌==◌, [], ◌∷◌, ◌++◌, length, drop, true, false, chars, sym, ap, ◌∙◌, arith, eq-eqb}
use Rattle.std.specs.Str.Iter.{chars_rest}
use Rattle.std.proofs.lemmas.Iterator.{YieldsList-from_chars}
use Rattle.std.proofs.lemmas.Iterator.Consumers.{YieldsList-turn, YieldsList-end}
use Rattle.std.proofs.lemmas.List.{drop_all}
use Rattle.std.proofs.lemmas.Bool.Decides.{nat_tests}
use Rattle.hub_glob.specs.Reading as reading
use Rattle.hub_text.specs.laws.TextChars.{next_character}
use Rattle.hub_glob.proofs.Readings.{token_escaped, token_stray, token_slash, token_plain, token_end, token_all}
use Rattle.hub_glob.proofs.reading.read_tokens.Goals.{then-escaped-2+in_ok-push-4, else-escaped-2}
use Rattle.hub_glob.proofs.reading.read_tokens.Goals as goal

pub returns-then-not-is_special : goal.returns-then-not-is_special
returns-then-not-is_special c =
    let t = YieldsList-turn (YieldsList-from_chars c.args.pattern.now c.utf8.pattern (ap chars_rest c.into_iter-c-iterator.ensures.into_iter_gives ∙ c.chars-c-items.ensures.rest)) c.loop-c.yielded _ c.loop-c.yielded_by _ _ c.in-Some.c c.in-Some.is c.next.ensures.steps in
    let e = next_character (chars c.args.pattern.now) c.loop-c.yielded c.in-Some.c t in
    let cs = chars c.args.pattern.now in
    let ts = c.loop-c.tokens.items in
    let old = drop (length c.loop-c.yielded) cs in
    let more = drop (length (c.loop-c.yielded ++ c.in-Some.c ∷ [])) cs in
    let plain : reading.is_special c.in-Some.c ≡ false = grind (arith, c.if-not-is_special.ensures, c.if-not-is_special.true, c.is_special.ensures) in
    c.in_ok-push.ensures.items ∙ token_stray ts c.in-Some.c old more cs plain e (ap (λ b. ts ++ reading.tokens b old) (sym c.if-escaped.true) ∙ c.loop-c.invariant)

pub loop-c-preserved-then-escaped : goal.loop-c-preserved-then-escaped
loop-c-preserved-then-escaped c =
    let t = YieldsList-turn (YieldsList-from_chars c.args.pattern.now c.utf8.pattern (ap chars_rest c.into_iter-c-iterator.ensures.into_iter_gives ∙ c.chars-c-items.ensures.rest)) c.loop-c.yielded _ c.loop-c.yielded_by _ _ c.in-Some.c c.in-Some.is c.next.ensures.steps in
    let e = next_character (chars c.args.pattern.now) c.loop-c.yielded c.in-Some.c t in
    let cs = chars c.args.pattern.now in
    let ts = c.loop-c.tokens.items in
    let old = drop (length c.loop-c.yielded) cs in
    let more = drop (length (c.loop-c.yielded ++ c.in-Some.c ∷ [])) cs in
    let special : reading.is_special c.in-Some.c ≡ true = grind (arith, c.if-not-is_special.ensures, c.if-not-is_special.false, c.is_special.ensures) in
    ap (λ us. us ++ reading.tokens false more) c.in_ok-push-2.ensures.items ∙ token_escaped ts c.in-Some.c old more cs special e (ap (λ b. ts ++ reading.tokens b old) (sym c.if-escaped.true) ∙ c.loop-c.invariant)

pub loop-c-preserved-then-c-eq92 : goal.loop-c-preserved-then-c-eq92
loop-c-preserved-then-c-eq92 c =
    let t = YieldsList-turn (YieldsList-from_chars c.args.pattern.now c.utf8.pattern (ap chars_rest c.into_iter-c-iterator.ensures.into_iter_gives ∙ c.chars-c-items.ensures.rest)) c.loop-c.yielded _ c.loop-c.yielded_by _ _ c.in-Some.c c.in-Some.is c.next.ensures.steps in
    let e = next_character (chars c.args.pattern.now) c.loop-c.yielded c.in-Some.c t in
    let cs = chars c.args.pattern.now in
    let ts = c.loop-c.tokens.items in
    let old = drop (length c.loop-c.yielded) cs in
    let more = drop (length (c.loop-c.yielded ++ c.in-Some.c ∷ [])) cs in
    let slash : (c.in-Some.c == 92) ≡ true = eq-eqb c.in-Some.c 92 c.if-c-eq92.true in
    token_slash ts c.in-Some.c old more cs slash e (ap (λ b. ts ++ reading.tokens b old) (sym c.if-escaped.false) ∙ c.loop-c.invariant)

pub loop-c-preserved : goal.loop-c-preserved
loop-c-preserved c =
    let t = YieldsList-turn (YieldsList-from_chars c.args.pattern.now c.utf8.pattern (ap chars_rest c.into_iter-c-iterator.ensures.into_iter_gives ∙ c.chars-c-items.ensures.rest)) c.loop-c.yielded _ c.loop-c.yielded_by _ _ c.in-Some.c c.in-Some.is c.next.ensures.steps in
    let e = next_character (chars c.args.pattern.now) c.loop-c.yielded c.in-Some.c t in
    let cs = chars c.args.pattern.now in
    let ts = c.loop-c.tokens.items in
    let old = drop (length c.loop-c.yielded) cs in
    let more = drop (length (c.loop-c.yielded ++ c.in-Some.c ∷ [])) cs in
    let other : (c.in-Some.c == 92) ≡ false = grind (arith, nat_tests, c.if-c-eq92.false) in
    (λ i. c.in_ok-push-3.ensures.items i ++ reading.tokens (c.if-escaped.false i) more) ∙ token_plain ts c.in-Some.c old more cs other e (ap (λ b. ts ++ reading.tokens b old) (sym c.if-escaped.false) ∙ c.loop-c.invariant)

pub returns : goal.returns
returns c =
    let t = YieldsList-end (YieldsList-from_chars c.args.pattern.now c.utf8.pattern (ap chars_rest c.into_iter-c-iterator.ensures.into_iter_gives ∙ c.chars-c-items.ensures.rest)) c.loop-c.yielded _ c.loop-c.yielded_by _ _ c.in-None.is c.next.ensures.steps in
    let cs = chars c.args.pattern.now in
    let rest = drop (length c.loop-c.yielded) cs in
    let none : rest ≡ [] = drop_all (length c.loop-c.yielded) cs (omega (arith, t.1)) in
    elim c.if-escaped-2.branch [
      | then-escaped-2+in_ok-push-4 w ↦ ap (λ v. v.items) w.tokens-is ∙ w.in_ok-push-4.ensures.items ∙ token_end c.loop-c.tokens.items c.loop-c.escaped rest cs w.if-escaped-2.true none c.loop-c.invariant
      | else-escaped-2 w ↦ ap (λ v. v.items) w.tokens-is ∙ token_all c.loop-c.tokens.items c.loop-c.escaped rest cs w.if-escaped-2.false none c.loop-c.invariant
    ]

use Rattle.std.proofs.Common.{◌≡◌, [], ◌∷◌, ◌++◌, length, drop, chars, ap, ◌∙◌, arith, true, false}
use Rattle.std.specs.Str.Iter.{chars_rest}
use Rattle.std.proofs.lemmas.Iterator.{YieldsList-from_chars}
use Rattle.std.proofs.lemmas.Iterator.Consumers.{YieldsList-turn, YieldsList-end}
use Rattle.std.proofs.lemmas.List.{drop_all}
use Rattle.hub_text.specs.laws.TextChars.{next_character}
use Rattle.hub_folded.specs.Table.{all_stand, stands}
use Rattle.hub_folded.proofs.Known.{knows-same, next-stands, none-left, one-fails}
use Rattle.hub_folded.proofs.fold.knows.Goals as goal

pub returns-then-not-stands : goal.returns-then-not-stands
returns-then-not-stands c =
    let t = YieldsList-turn (YieldsList-from_chars c.args.name.now c.utf8.name (ap chars_rest c.into_iter-c-iterator.ensures.into_iter_gives ∙ c.chars-c-items.ensures.rest)) c.loop-c.yielded _ c.loop-c.yielded_by _ _ c.in-Some.c c.in-Some.is c.next.ensures.steps in
    let cs = chars c.args.name.now in
    let e = next_character cs c.loop-c.yielded c.in-Some.c t in
    let fails : stands c.in-Some.c c.loop-c.bare ≡ false =
    grind (arith, c.if-not-stands.ensures, c.if-not-stands.true, c.stands.ensures) in
    one-fails c.in-Some.c c.loop-c.bare (drop (length c.loop-c.yielded) cs)
    (drop (length (c.loop-c.yielded ++ c.in-Some.c ∷ [])) cs) (all_stand false cs) e fails c.loop-c.invariant
    ∙ knows-same cs

pub loop-c-preserved : goal.loop-c-preserved
loop-c-preserved c =
    let t = YieldsList-turn (YieldsList-from_chars c.args.name.now c.utf8.name (ap chars_rest c.into_iter-c-iterator.ensures.into_iter_gives ∙ c.chars-c-items.ensures.rest)) c.loop-c.yielded _ c.loop-c.yielded_by _ _ c.in-Some.c c.in-Some.is c.next.ensures.steps in
    let cs = chars c.args.name.now in
    let e = next_character cs c.loop-c.yielded c.in-Some.c t in
    let more = drop (length (c.loop-c.yielded ++ c.in-Some.c ∷ [])) cs in
    let holds : stands c.in-Some.c c.loop-c.bare ≡ true =
    grind (arith, c.if-not-stands.ensures, c.if-not-stands.false, c.stands.ensures) in
    ap (λ b. all_stand b more) c.is_bare_letter-bare.ensures
    ∙ next-stands c.in-Some.c c.loop-c.bare (drop (length c.loop-c.yielded) cs) more (all_stand false cs) e
    holds c.loop-c.invariant

pub returns : goal.returns
returns c =
    let t = YieldsList-end (YieldsList-from_chars c.args.name.now c.utf8.name (ap chars_rest c.into_iter-c-iterator.ensures.into_iter_gives ∙ c.chars-c-items.ensures.rest)) c.loop-c.yielded _ c.loop-c.yielded_by _ _ c.in-None.is c.next.ensures.steps in
    let cs = chars c.args.name.now in
    let rest = drop (length c.loop-c.yielded) cs in
    let none : rest ≡ [] = drop_all (length c.loop-c.yielded) cs (omega (arith, t.1)) in
    none-left c.loop-c.bare rest (all_stand false cs) none c.loop-c.invariant ∙ knows-same cs

use Rattle.std.proofs.Common.{◌≡◌, [], ◌∷◌, ◌++◌, length, drop, chars, ap, ◌∙◌, arith, string_bytes, encode_utf8_all}
use Rattle.std.specs.List.{flat_map}
use Rattle.std.specs.Str.Iter.{chars_rest}
use Rattle.std.proofs.lemmas.Iterator.{YieldsList-from_chars}
use Rattle.std.proofs.lemmas.Iterator.Consumers.{YieldsList-turn, YieldsList-end}
use Rattle.std.proofs.lemmas.List.{drop_all}
use Rattle.hub_text.specs.laws.TextChars.{next_character}
use Rattle.hub_folded.specs.Table.{folded_character}
use Rattle.hub_folded.proofs.Texts.{all-written, next-written, unicode-folds}
use Rattle.hub_folded.proofs.fold.fold_name.Goals as goal

pub loop-c-preserved : goal.loop-c-preserved
loop-c-preserved c =
    let t = YieldsList-turn (YieldsList-from_chars c.args.name.now c.utf8.name (ap chars_rest c.into_iter-c-iterator.ensures.into_iter_gives ∙ c.chars-c-items.ensures.rest)) c.loop-c.yielded _ c.loop-c.yielded_by _ _ c.in-Some.c c.in-Some.is c.next.ensures.steps in
    let cs = chars c.args.name.now in
    let e = next_character cs c.loop-c.yielded c.in-Some.c t in
    next-written folded_character (string_bytes c.loop-c.folded) (string_bytes c.push_folded.new.text) c.in-Some.c
    (drop (length c.loop-c.yielded) cs) (drop (length (c.loop-c.yielded ++ c.in-Some.c ∷ [])) cs)
    (encode_utf8_all (flat_map folded_character cs)) e c.in_ok-push_folded.ensures c.loop-c.invariant

pub returns : goal.returns
returns c =
    let t = YieldsList-end (YieldsList-from_chars c.args.name.now c.utf8.name (ap chars_rest c.into_iter-c-iterator.ensures.into_iter_gives ∙ c.chars-c-items.ensures.rest)) c.loop-c.yielded _ c.loop-c.yielded_by _ _ c.in-None.is c.next.ensures.steps in
    let cs = chars c.args.name.now in
    let rest = drop (length c.loop-c.yielded) cs in
    let none : rest ≡ [] = drop_all (length c.loop-c.yielded) cs (omega (arith, t.1)) in
    all-written folded_character (string_bytes c.loop-c.folded) rest (encode_utf8_all (flat_map folded_character cs)) none c.loop-c.invariant
    ∙ ap encode_utf8_all (unicode-folds cs)

use Rattle.std.proofs.Common.{◌<◌, ◌∙◌, sym, ap, subst, inr, refl, length, arith}
use Rattle.hub_automaton.specs.Alphabet.{with_character, IsAlphabet}
use Rattle.hub_automaton.specs.declared.alphabet.TheConstants.{MENTIONED_CHARACTERS}
use Rattle.hub_automaton.proofs.Alphabets.{found, put_new, mentioned_at, with_there, alphabet-with}
use Rattle.hub_automaton.proofs.mentions.mention.Goals as goal

pub returns-then-len-ge-MENTIONED_CHARACTERS-clause-err : goal.returns-then-len-ge-MENTIONED_CHARACTERS-clause-err
returns-then-len-ge-MENTIONED_CHARACTERS-clause-err c =
    let ms = c.args.mentioned.now.items in
    let x = c.args.character in
    let m = put_new ms c.deref.result.now x c.in-Err.place c.deref.ensures.value c.requires.ascends (sym c.if-is_left_out.ensures) c.in-Err.ensures.position in
    let many : MENTIONED_CHARACTERS < length (with_character ms x) =
    omega (arith, m.1, ap length c.deref.ensures.value, c.deref.ensures.len, c.len.ensures, c.if-len-ge-MENTIONED_CHARACTERS.true) in
    inr (refl, many)

pub returns-in-Ok-clause-ok : goal.returns-in-Ok-clause-ok
returns-in-Ok-clause-ok c =
    let ms = c.args.mentioned.now.items in
    let f = found ms c.deref.result.now c.args.character c.in-Ok.field-0 c.deref.ensures.value c.requires.ascends c.in-Ok.ensures.position in
    with_there ms c.args.character (mentioned_at ms c.in-Ok.field-0 c.args.character f.0 f.1)

pub returns-in_ok-insert-in-Err-clause-ok : goal.returns-in_ok-insert-in-Err-clause-ok
returns-in_ok-insert-in-Err-clause-ok c =
    let m = put_new c.args.mentioned.now.items c.deref.result.now c.args.character c.in-Err.place c.deref.ensures.value c.requires.ascends (sym c.if-is_left_out.ensures) c.in-Err.ensures.position in
    c.in_ok-insert-in-Err.ensures.items ∙ m.0

pub returns-in_ok-insert-in-Err-clause-alphabet : goal.returns-in_ok-insert-in-Err-clause-alphabet
returns-in_ok-insert-in-Err-clause-alphabet c =
    let ms = c.args.mentioned.now.items in
    let x = c.args.character in
    let m = put_new ms c.deref.result.now x c.in-Err.place c.deref.ensures.value c.requires.ascends (sym c.if-is_left_out.ensures) c.in-Err.ensures.position in
    subst IsAlphabet (sym (c.in_ok-insert-in-Err.ensures.items ∙ m.0))
    (alphabet-with ms x c.ranges.character.0 c.requires
    (omega (arith, m.1, ap length c.deref.ensures.value, c.deref.ensures.len, c.len.ensures, c.if-len-ge-MENTIONED_CHARACTERS.false)))

use Rattle.std.proofs.Common.{◌≡◌, ◌++◌, [], ◌∷◌, length, drop, chars, subst, arith}
use Rattle.std.proofs.lemmas.Result.{err_from_is_err_and}
use Rattle.std.proofs.lemmas.Iterator.{YieldsList-from_chars}
use Rattle.std.proofs.lemmas.Iterator.Consumers.{YieldsList-turn, YieldsList-end}
use Rattle.std.proofs.lemmas.List.{drop_all}
use Rattle.hub_text.specs.laws.TextChars.{next_character}
use Rattle.hub_path.specs.laws.NameFacts.{name_chars}
use Rattle.hub_automaton.specs.Alphabet as alphabet
use Rattle.hub_automaton.specs.laws.Adding.{mention_step, mention_refused}
use Rattle.hub_automaton.proofs.Alphabets.{mention_end}
use Rattle.hub_automaton.proofs.mentions.NameMentioning.put_in.Goals as goal

pub returns-in_err-put_in-clause-err : goal.returns-in_err-put_in-clause-err
returns-in_err-put_in-clause-err c =
    let t = YieldsList-turn (YieldsList-from_chars c.text.result.now c.text.utf8 cc) c.loop-character.yielded _ c.loop-character.yielded_by _ _ c.in-Some.character c.in-Some.is c.next.ensures.steps in
    let n = c.args.self.now in
    let same = name_chars n c.text.result.now c.text.ensures.text c.text.ensures.valid in
    let x = c.in-Some.character in
    let p = err_from_is_err_and c.from_residual.result c.from_residual.ensures.1 in
    rw (p.1, p.2)
    (mention_refused (x ∷ []) (drop (length c.loop-character.yielded) n) (drop (length (c.loop-character.yielded ++ x ∷ [])) n) c.loop-character.mentioned.items c.args.mentioned.now.items n
    c.in_err-put_in.field-0.0 (subst (λ cs. drop (length c.loop-character.yielded) cs ≡ x ∷ drop (length (c.loop-character.yielded ++ x ∷ [])) cs) same (next_character (chars c.text.result.now) c.loop-character.yielded x t))
    c.loop-character.invariant.0 c.in_err-put_in.ensures.err)

pub loop-character-preserved : goal.loop-character-preserved
loop-character-preserved c =
    let t = YieldsList-turn (YieldsList-from_chars c.text.result.now c.text.utf8 cc) c.loop-character.yielded _ c.loop-character.yielded_by _ _ c.in-Some.character c.in-Some.is c.next.ensures.steps in
    let n = c.args.self.now in
    let same = name_chars n c.text.result.now c.text.ensures.text c.text.ensures.valid in
    let x = c.in-Some.character in (
      mention_step (x ∷ []) (drop (length c.loop-character.yielded) n) (drop (length (c.loop-character.yielded ++ x ∷ [])) n) c.loop-character.mentioned.items c.put_in.new.mentioned.items
          (alphabet.with_characters c.args.mentioned.now.items n)
          (subst (λ cs. drop (length c.loop-character.yielded) cs ≡ x ∷ drop (length (c.loop-character.yielded ++ x ∷ [])) cs) same (next_character (chars c.text.result.now) c.loop-character.yielded x t))
          c.in_ok-put_in.ensures.ok c.loop-character.invariant.0,
      c.in_ok-put_in.ensures.alphabet,
    )

pub returns-clause-ok : goal.returns-clause-ok
returns-clause-ok c =
    let t = YieldsList-end (YieldsList-from_chars c.text.result.now c.text.utf8 cc) c.loop-character.yielded _ c.loop-character.yielded_by _ _ c.in-None.is c.next.ensures.steps in
    let n = c.args.self.now in
    let same = name_chars n c.text.result.now c.text.ensures.text c.text.ensures.valid in
    mention_end (drop (length c.loop-character.yielded) n) c.loop-character.mentioned.items (alphabet.with_characters c.args.mentioned.now.items n)
    (subst (λ cs. drop (length c.loop-character.yielded) cs ≡ []) same (drop_all (length c.loop-character.yielded) (chars c.text.result.now) (omega (arith, t.1)))) c.loop-character.invariant.0

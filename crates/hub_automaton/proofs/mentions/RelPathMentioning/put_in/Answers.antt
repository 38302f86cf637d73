use Rattle.std.proofs.Common.{◌+◌, drop}
use Rattle.std.proofs.lemmas.Result.{err_from_is_err_and}
use Rattle.hub_automaton.specs.Alphabet as alphabet
use Rattle.hub_automaton.specs.laws.Adding.{mention_step, mention_refused}
use Rattle.hub_automaton.proofs.Alphabets.{names_drop}
use Rattle.hub_automaton.proofs.mentions.RelPathMentioning.put_in.Goals as goal

pub returns-in_err-put_in-clause-err : goal.returns-in_err-put_in-clause-err
returns-in_err-put_in-clause-err c =
    let xs = c.args.self.now in
    let i = c.loop-i.i in
    let p = err_from_is_err_and c.from_residual.result c.from_residual.ensures.1 in
    rw (p.1, p.2)
    (mention_refused c.name.result.now (alphabet.path_characters (drop i xs)) (alphabet.path_characters (drop (i + 1) xs)) c.loop-i.mentioned.items c.args.mentioned.now.items (alphabet.path_characters xs)
    c.in_err-put_in.field-0.0 (names_drop xs i c.name.result.now c.name.ensures.name) c.loop-i.invariant.0 c.in_err-put_in.ensures.err)

pub loop-i-preserved : goal.loop-i-preserved
loop-i-preserved c =
    let xs = c.args.self.now in
    let i = c.loop-i.i in (
      mention_step c.name.result.now (alphabet.path_characters (drop i xs)) (alphabet.path_characters (drop (i + 1) xs)) c.loop-i.mentioned.items c.put_in.new.mentioned.items
          (alphabet.with_characters c.args.mentioned.now.items (alphabet.path_characters xs)) (names_drop xs i c.name.result.now c.name.ensures.name) c.in_ok-put_in.ensures.ok c.loop-i.invariant.0,
      c.in_ok-put_in.ensures.alphabet,
    )

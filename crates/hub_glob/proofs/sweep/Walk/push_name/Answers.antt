use Rattle.std.proofs.Common.{◌≡◌, chars, ap, ◌∙◌, sym}
use Rattle.std.proofs.lemmas.Iterator.{YieldsList-from_chars}
use Rattle.std.proofs.lemmas.Iterator.Consumers.{YieldsList-end}
use Rattle.std.proofs.lemmas.List.{map-id}
use Rattle.hub_glob.specs.Sweep as sweep
use Rattle.hub_glob.proofs.Paths.{push_more, push_matched}
use Rattle.hub_glob.proofs.sweep.Walk.push_name.Goals as goal

pub loop-character-preserved : goal.loop-character-preserved
loop-character-preserved c =
    push_more c.args.parts.now c.args.self.now c.loop-character.self c.push.new.self c.loop-character.yielded c.in-Some.character c.push.ensures.pushed c.loop-character.invariant

pub returns-clause-matched : goal.returns-clause-matched
returns-clause-matched c =
    let all = YieldsList-end (YieldsList-from_chars c.args.name.now c.utf8.name cc) c.loop-character.yielded _ c.loop-character.yielded_by _ _ c.in-None.is c.next.ensures.steps in
    let read : c.loop-character.yielded ≡ chars c.args.name.now = sym (map-id c.loop-character.yielded) ∙ all.0 in
    push_matched c.args.parts.now c.args.self.now c.loop-character.self (chars c.args.name.now) 47 c.push-2.result c.push-2.ensures.matched
    (c.loop-character.invariant ∙ ap (sweep.pushed_all c.args.parts.now c.args.self.now) read)

pub returns-clause-pushed : goal.returns-clause-pushed
returns-clause-pushed c =
    let all = YieldsList-end (YieldsList-from_chars c.args.name.now c.utf8.name cc) c.loop-character.yielded _ c.loop-character.yielded_by _ _ c.in-None.is c.next.ensures.steps in
    let read : c.loop-character.yielded ≡ chars c.args.name.now = sym (map-id c.loop-character.yielded) ∙ all.0 in
    push_more c.args.parts.now c.args.self.now c.loop-character.self c.push-2.new.self (chars c.args.name.now) 47 c.push-2.ensures.pushed
    (c.loop-character.invariant ∙ ap (sweep.pushed_all c.args.parts.now c.args.self.now) read)

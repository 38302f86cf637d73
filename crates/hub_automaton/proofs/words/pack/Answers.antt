use Rattle.std.proofs.Common.{ap, ◌∙◌, rules}
use Rattle.hub_automaton.specs.Words as words
use Rattle.hub_automaton.proofs.WordLoops.{pack_step}
use Rattle.hub_automaton.proofs.words.pack.Goals as goal

pub loop-rest-preserved : goal.loop-rest-preserved
loop-rest-preserved c =
    pack_step c.loop-rest.rest.now c.split_at.result.1.now c.word.result c.min.result c.loop-rest.packed.items c.push.new.self.items (words.packed c.args.bits.now)
    (search rules) c.min.ensures (c.word.ensures ∙ ap words.word c.split_at.ensures.front) c.split_at.ensures.back c.in_ok-push.ensures.items c.loop-rest.invariant

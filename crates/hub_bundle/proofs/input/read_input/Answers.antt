use Rattle.std.proofs.Common.{◌<◌, arith, length, rules}
use Rattle.hub_text.specs.laws.Reads.{read-whole, taken-length}
use Rattle.hub_bundle.specs.declared.input.TheConstants.{READ_TURNS}
use Rattle.hub_bundle.proofs.input.read_input.Goals as goal

pub returns-then-count-eq0-clause-whole : goal.returns-then-count-eq0-clause-whole
returns-then-count-eq0-clause-whole g c =
    let start = g.R.Read.remaining c.args.input.now.device in
    let before = g.R.Read.remaining c.loop.input.device in
    let after = g.R.Read.remaining c.read.new.self.device in
    let room : 0 < length c.read.new.buffer = search rules in
    read-whole start before after c.loop.bytes.items c.read.new.buffer c.in-Ok.count c.loop.invariant.read c.in-Ok.ensures.bytes.0 c.if-count-eq0.true
    (c.in-Ok.ensures.bytes.1 c.if-count-eq0.true room)

pub returns-clause-turns_spent : goal.returns-clause-turns_spent
returns-clause-turns_spent g c =
    λ spent. taken-length (g.R.Read.remaining c.args.input.now.device) (g.R.Read.remaining c.loop.input.device) c.loop.bytes.items READ_TURNS
    c.loop.invariant.read (omega (arith, c.loop-test.false, c.loop.invariant.none_empty))

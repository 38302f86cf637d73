use Rattle.std.proofs.Common.{rules, ◌≡◌, ℕ, ◌+◌, ◌*◌, ◌≤◌, List, [], ◌++◌, length, take, inr, refl, arith, length-append}
use Rattle.std.proofs.lemmas.List.{length-take}
use Rattle.std.proofs.lemmas.Grind.{common_steps}
use Rattle.std.proofs.KnownBytes.{Consumes-nil, Consumes-trans}
use Rattle.hub_state.proofs.Blocks.{stands-same, within-block}
use Rattle.hub_text.specs.laws.Reads.{taken-length}
use Rattle.hub_state.proofs.reader.read_blocks.Goals as goal

pub loop-init : goal.loop-init
loop-init g c = (
  [],
  c.requires.continues,
  Consumes-nil (g.R.Read.remaining c.args.input.now.device),
  omega arith,
  c.requires.within,
  c.requires.unfailed,
  omega arith,
  refl,
)

pub loop-preserved : goal.loop-preserved
loop-preserved g c =
    let start = g.R.Read.remaining c.args.input.now.device in
    let before = g.R.Read.remaining c.loop.input.device in
    let after = g.R.Read.remaining c.read.new.self.device in
    let block : List ℕ = take c.in-Ok.count c.read.new.buffer in
    let read = c.loop.invariant.0 in
    let many : length block ≡ c.in-Ok.count = search rules in
    let few : c.in-Ok.count ≤ 4096 = omega (arith, many, length-take c.in-Ok.count c.read.new.buffer) in (
      read ++ block,
      stands-same read _ block c.take_block-taken.new.prefix c.take_block-taken.result (c.take_block-taken.ensures.stands read c.loop.invariant.1) (grind (arith, common_steps)),
      Consumes-trans start before after read block c.loop.invariant.2 c.in-Ok.ensures.bytes.0,
      omega (arith, length-append read block, many, c.loop.invariant.3, c.if-count-eq0.false),
      within-block c.loop.taken c.take_block-taken.result c.loop.prefix c.take_block-taken.new.prefix (1 + 4096 * c.loop.counter) (1 + 4096 * (c.loop.counter + 1)) _ block c.loop.invariant.4 c.take_block-taken.ensures.within c.take_block-taken.ensures.stopped (grind (arith, common_steps)) (omega (arith, few, many)),
      search rules,
      omega (arith, c.in-Ok.ensures.reads, c.loop.invariant.6),
      search rules,
    )

pub returns-clause-faults : goal.returns-clause-faults
returns-clause-faults g c =
    inr (
      refl,
      taken-length (g.R.Read.remaining c.args.input.now.device) (g.R.Read.remaining c.loop.input.device) c.loop.invariant.0 c.args.turns c.loop.invariant.2
          (omega (arith, c.loop-test.false, c.loop.invariant.3)),
    )

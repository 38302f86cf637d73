use Rattle.std.proofs.Common.{◌+◌, ◌∙◌, arith}
use Rattle.hub_glob.specs.declared.path_spec.Kind.TheVariants as kinds
use Rattle.hub_automaton.proofs.Takings.{choice_begins, pieces_end, pieces_next}
use Rattle.hub_automaton.proofs.takers.take_choice.Goals as goal

pub loop-i-init : goal.loop-i-init
loop-i-init c = (
  c.requires.many,
  λ kind new h. choice_begins c.args.alphabet.now c.args.takers.now new c.args.place (c.args.place + 1 + 0) kind c.args.choice.now (omega arith) h,
)

pub loop-i-preserved : goal.loop-i-preserved
loop-i-preserved c =
    let i = c.loop-i.i in
    let here = c.args.place + 1 + i in
    let next = c.args.place + 1 + (i + 1) in
    let one = c.take_piece.ensures in (
      (one kinds.Path).many ∙ c.loop-i.invariant.0,
      λ kind new h. c.loop-i.invariant.1 kind new
          (pieces_next c.args.alphabet.now c.loop-i.takers c.take_piece.new.takers new here next kind c.args.choice.now i c.index-choice-i.result c.loop-i-test.true c.index-choice-i.is (omega arith)
          (one kind) h),
    )

pub returns : goal.returns
returns c = λ kind.
    let i = c.loop-i.i in
    c.loop-i.invariant.1 kind c.loop-i.takers (pieces_end c.args.alphabet.now c.loop-i.takers (c.args.place + 1 + i) kind c.args.choice.now i c.loop-i-test.false)

use Rattle.std.proofs.Common.{◌≡◌, ◌+◌, ◌-◌, ◌*◌, length, drop, sym, ◌∙◌, arith}
use mir.Val.{bool_byte}
use Rattle.std.specs.Prelude.{slice_index_or, false}
use Rattle.hub_automaton.specs.Words as words
use Rattle.hub_automaton.proofs.WordLoops.{word_step, word_part}
use Rattle.hub_automaton.proofs.words.word.Goals as goal

pub overflow_mul-word : goal.overflow_mul-word
overflow_mul-word c =
    let bs = c.args.bits.now in
    let i = c.loop-i.i in
    let b = slice_index_or bs (length bs - 1 - i) false in
    let next = word_part bs (i + 1) c.requires (omega (arith, c.loop-i-test.true)) in
    omega (arith, next, word_step bs i c.loop-i-test.true, c.loop-i.invariant)

pub overflow_add-word : goal.overflow_add-word
overflow_add-word c =
    let bs = c.args.bits.now in
    let i = c.loop-i.i in
    let next = word_part bs (i + 1) c.requires (omega (arith, c.loop-i-test.true)) in
    omega (arith, next, word_step bs i c.loop-i-test.true, c.loop-i.invariant, c.from.ensures)

pub loop-i-preserved : goal.loop-i-preserved
loop-i-preserved c =
    let bs = c.args.bits.now in
    let i = c.loop-i.i in
    (λ j. 2 * c.loop-i.invariant j + c.from.ensures j) ∙ (let e : 2 * words.word (drop (length bs - i) bs) + bool_byte (slice_index_or bs (length bs - 1 - i) false) ≡ bool_byte (slice_index_or bs (length bs - 1 - i) false) + 2 * words.word (drop (length bs - i) bs) = omega arith in e) ∙ sym (word_step bs i c.loop-i-test.true)

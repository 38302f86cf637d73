use Rattle.std.proofs.Common.{◌≡◌, ◌≢◌, ◌==◌, ◌<◌, [], false, arith, sym, ap, ◌∙◌}
use Rattle.std.specs.Prelude.{Some, slice_set}
use Rattle.std.proofs.lemmas.Bool.Decides.{nat_tests}
use Rattle.std.proofs.lemmas.List.{get_or_read}
use Rattle.hub_automaton.specs.Alphabet.{class_count, class_of, sample}
use Rattle.hub_automaton.specs.Words.{with_bit}
use Rattle.hub_automaton.proofs.Takings.{no_class, not_named, taken_in}
use Rattle.hub_automaton.proofs.takers.take_character.Goals as goal

pub returns-then-sample-character : goal.returns-then-sample-character
returns-then-sample-character c =
    let ms = c.args.alphabet.now in
    let d = c.args.character in
    let n = c.number.result in
    let old = c.args.takers.now in
    let of_d : class_of ms d ≡ Some n = cc (c.class_of.ensures.class, c.in-Some.is, c.number.ensures) in
    let is : sample ms n ≡ d = grind (arith, nat_tests, c.sample.ensures, c.if-sample-character.true, c.number.ensures) in
    let slash : (d == 47) ≡ false = grind (arith, nat_tests, c.if-character-eq47.false) in
    let low : n < class_count ms = omega (arith, c.in-Some.ensures.below, c.number.ensures) in
    let read = get_or_read old n c.index-takers-number.result (omega (arith, low, c.requires.many)) c.index-takers-number.is [] in
    taken_in ms old (slice_set old n c.set_bit.new.self) c.args.place d n c.requires.alphabet c.requires.many slash of_d is low
    (ap (slice_set old n) (c.set_bit.ensures ∙ ap (with_bit 0 c.args.place) (sym c.index-takers-number.is ∙ read)))

pub returns-else-sample-character : goal.returns-else-sample-character
returns-else-sample-character c =
    let ms = c.args.alphabet.now in
    let d = c.args.character in
    let n = c.in-Some.class in
    let of_d : class_of ms d ≡ Some n = cc (c.class_of.ensures.class, c.in-Some.is) in
    let other : sample ms n ≢ d = λ e. grind (arith, nat_tests, c.sample.ensures, c.if-sample-character.false, e) in
    not_named ms c.args.takers.now c.args.place d n c.requires.alphabet of_d other

pub returns-in_default : goal.returns-in_default
returns-in_default c =
    let ms = c.args.alphabet.now in
    let d = c.args.character in
    no_class ms c.args.takers.now c.args.place d c.requires.alphabet (sym c.class_of.ensures.class ∙ c.in_default.is)

use Rattle.std.proofs.Common.{◌≡◌, ◌*◌, ◌/◌, ◌%◌, ◌^◌, ◌<◌, ◌==◌, ◌||◌, get_or, ap, ◌∙◌, arith, subst, sym}
use Rattle.std.specs.Prelude.{slice_index_or, slice_set}
use Rattle.std.specs.Int.RustNames.{bit_or}
use Rattle.std.proofs.lemmas.List.{get_or_read}
use Rattle.hub_automaton.specs.ClassSets.{has, room}
use Rattle.hub_automaton.proofs.ClassSets.{insert_law}
use Rattle.hub_automaton.proofs.class_set.ClassSet.insert.Goals as goal

pub returns-clause-has : goal.returns-clause-has
returns-clause-has c = λ k.
    let s = c.self.inside.words.items in
    let class = c.args.class in
    let within : class < room s = subst (λ xs. class < room xs) (sym c.self.view_is) c.requires in
    let old = c.index_mut.result.now in
    let word : old ≡ slice_index_or s (class / 64) 0 =
    get_or_read s (class / 64) old (omega (arith, within)) (c.index_mut.ensures.value ∙ ap (λ n. get_or s (n / 64) old) c.number-2.ensures) 0 in
    let w = bit_or old (1 * 2 ^ (c.number.result % 64) % 2 ^ 64) in
    (λ i. has (slice_set s (c.number-2.ensures i / 64) w) k)
    ∙ insert_law s class w within (λ i. bit_or (word i) (1 * 2 ^ (c.number.ensures i % 64) % 2 ^ 64)) k
    ∙ ap (λ xs. has xs k || k == class) c.self.view_is

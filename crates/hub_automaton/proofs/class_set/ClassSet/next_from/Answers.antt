use Rattle.std.proofs.Common.{◌≡◌, ◌/◌, ◌%◌, ◌^◌, ◌<◌, get_or, sym, ap, ◌∙◌, subst, arith, rules, ℕ, length, ◌*◌, ◌+◌, List}
use Rattle.std.specs.Prelude.{slice_index_or, MatchOption}
use Rattle.std.proofs.lemmas.List.{get_or_read}
use Rattle.hub_automaton.specs.ClassSets.{room, HasNone, IsLowest, IsNextClass}
use Rattle.hub_automaton.proofs.ClassSets.{next_in_word, lowest_in_word, rest_none, found_later}
use Rattle.hub_automaton.proofs.class_set.ClassSet.next_from.Goals as goal

pub overflow_add-number : goal.overflow_add-number
overflow_add-number c =
    let low = lowest_in_word c.index.result.now (c.number.result % 64) c.lowest.result (search rules) c.lowest.ensures in
    omega (arith, low, c.number.ensures, c.number-then-rest-ne0.ensures)

pub returns-then-rest-ne0 : goal.returns-then-rest-ne0
returns-then-rest-ne0 c =
    let s = c.self.inside.words.items in
    let k = c.args.class in
    let w = c.index.result.now in
    let within : k / 64 < length s = omega (arith, c.if-first-len.false, c.len.ensures, c.number-first.ensures) in
    let word : slice_index_or s (k / 64) 0 ≡ w = sym (get_or_read s (k / 64) w within (c.index.ensures ∙ ap (λ n. get_or s (n / 64) w) c.number-first.ensures) 0) in
    let lowest : IsLowest (w / 2 ^ (k % 64)) c.lowest.result = subst (λ n. IsLowest (w / 2 ^ (n % 64)) c.lowest.result) c.number.ensures c.lowest.ensures in
    let next = next_in_word s k w c.lowest.result within word (search rules) lowest in
    let at : c.new.result ≡ k + c.lowest.result = c.new.ensures ∙ ap (λ n. n + c.lowest.result) c.number-then-rest-ne0.ensures in
    subst (λ (xs : List ℕ). IsNextClass xs k c.new.result) c.self.view_is (subst (λ n. IsNextClass s k n) (sym at) next)

pub returns : goal.returns
returns c =
    let s = c.self.inside.words.items in
    let k = c.args.class in
    let w = c.index.result.now in
    let within : k / 64 < length s = omega (arith, c.if-first-len.false, c.len.ensures, c.number-first.ensures) in
    let word : slice_index_or s (k / 64) 0 ≡ w = sym (get_or_read s (k / 64) w within (c.index.ensures ∙ ap (λ n. get_or s (n / 64) w) c.number-first.ensures) 0) in
    let none = rest_none s k w word (ap (λ n. w / 2 ^ (n % 64)) (sym c.number.ensures) ∙ c.if-rest-ne0.false) in
    let later = subst (λ n. MatchOption c.next_in_words.result (HasNone c.args.self.now (64 * (n / 64 + 1)) (room c.args.self.now)) (IsNextClass c.args.self.now (64 * (n / 64 + 1)))) c.number-first.ensures c.next_in_words.ensures in
    found_later c.args.self.now k (64 * (k / 64 + 1)) c.next_in_words.result (omega arith) (subst (λ (xs : List ℕ). HasNone xs k (64 * (k / 64 + 1))) c.self.view_is none) later

use Rattle.std.proofs.Common.{◌≡◌, ◌||◌, length, sym, ap, ◌∙◌, arith}
use Rattle.hub_automaton.specs.ClassSets.{has}
use Rattle.hub_automaton.proofs.ClassSets.{Joined, joined_law}
use Rattle.hub_automaton.proofs.class_set.ClassSet.join.Goals as goal

pub returns-clause-has : goal.returns-clause-has
returns-clause-has c = λ k.
    let old = c.self.inside.words.items in
    let other = c.other.inside.words.items in
    let new = c.loop-i.self-inside.words.items in
    let long : length other ≡ length old = ap length c.other.view_is ∙ c.requires ∙ ap length (sym c.self.view_is) in
    let h = c.loop-i.invariant in
    let all : Joined old other new (length old) = record { long = h.long; before = λ j l. h.before j (omega arith); after = λ j l. h.after j (omega arith) } in
    joined_law old other new all long k ∙ (λ i. has (c.self.view_is i) k || has (c.other.view_is i) k)

use Rattle.std.proofs.Common.{◌≡◌, ◌<◌, ◌==◌, ◌||◌, inl, inr, length, sym, ap, ◌∙◌, arith, le_refl}
use Rattle.std.specs.Prelude.{slice_index_or}
use Rattle.std.proofs.lemmas.Bool.{cases_eq}
use Rattle.std.proofs.lemmas.List.{get_or_read}
use Rattle.hub_automaton.specs.laws.ClassSet.{grown-twice}
use Rattle.hub_automaton.specs.ClassSets.{IsListed}
use Rattle.hub_automaton.proofs.ClassSets.{grown_insert, inserted}
use Rattle.hub_automaton.proofs.class_set.ClassSet.insert_between.Goals as goal

pub loop-i-preserved : goal.loop-i-preserved
loop-i-preserved c =
    let old = c.loop-i.self in
    let new = c.insert.new.self in
    let cs = c.args.classes.now in
    let i = c.loop-i.i in
    let class = c.index-classes-i.result in
    let within : i < length cs = omega (arith, c.loop-i-test.true, c.min-i-end.ensures) in
    let at : slice_index_or cs i 0 ≡ class = sym (get_or_read cs i class within c.index-classes-i.is 0) in (
      c.insert.ensures.room ∙ c.loop-i.invariant.0,
      λ n f. grown-twice c.args.self.now old new n n n (c.loop-i.invariant.1 n f)
          (grown_insert old new n class (omega (arith, f i within, at)) c.insert.ensures.room c.insert.ensures.has)
          (le_refl n) (le_refl n),
      λ k h. elim (cases_eq h.place i) [
        | inl same ↦ inserted old new k class (sym h.is ∙ ap (λ j. slice_index_or cs j 0) same ∙ at) c.insert.ensures.has
        | inr other ↦
            let before : IsListed cs c.args.from i k = record { place = h.place; within = h.within; first = h.first; last = omega (arith, h.last, other); is = h.is } in
            c.insert.ensures.has k ∙ ap (λ b. b || k == class) (c.loop-i.invariant.2 k before)
      ],
    )

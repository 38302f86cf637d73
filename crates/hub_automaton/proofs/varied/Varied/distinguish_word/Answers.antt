use Rattle.std.proofs.Common.{◌≡◌, ◌+◌, inl, inr, ap, ◌∙◌, subst, arith, le_refl}
use Rattle.std.specs.Int.{bit_at}
use Rattle.std.proofs.lemmas.Bool.{cases_eq}
use Rattle.std.proofs.lemmas.Nat.Bits.{bit_at-zero}
use Rattle.hub_automaton.specs.laws.ClassSet.{grown-twice}
use Rattle.hub_automaton.specs.ClassSets.{room}
use Rattle.hub_automaton.specs.Varied.{IsOfSpot}
use Rattle.hub_automaton.proofs.Listings.{cleared}
use Rattle.hub_automaton.proofs.varied.Varied.distinguish_word.Goals as goal

pub loop-rest-smaller : goal.loop-rest-smaller
loop-rest-smaller c = (cleared c.loop-rest.rest c.lowest-place.result c.lowest-place.ensures.within c.lowest-place.ensures.set).0

pub loop-rest-preserved : goal.loop-rest-preserved
loop-rest-preserved c =
    let old = c.args.splits.now in
    let mid = c.loop-rest.splits in
    let new = c.distinguish_spot.new.splits in
    let place = c.lowest-place.result in
    let grows = c.distinguish_spot.ensures.grown (room old) c.requires.few in
    let others = (cleared c.loop-rest.rest place c.lowest-place.ensures.within c.lowest-place.ensures.set).1 in (
      grows.room ∙ c.loop-rest.invariant.0,
      λ n f. grown-twice old mid new n n n (c.loop-rest.invariant.1 n f) (c.distinguish_spot.ensures.grown n f) (le_refl n) (le_refl n),
      λ b k l set gone h. elim (cases_eq b place) [
        | inl same ↦ c.distinguish_spot.ensures.told k (subst (λ j. IsOfSpot c.args.self.now (c.args.first + j) k) same h)
        | inr other ↦ grows.kept k (c.loop-rest.invariant.2 b k l set (λ still. gone (others b l other ∙ still)) h)
      ],
    )

pub returns-clause-told : goal.returns-clause-told
returns-clause-told c = λ b k l set h.
    let none : bit_at c.loop-rest.rest b ≡ 0 = ap (λ r. bit_at r b) c.loop-rest-test.false ∙ bit_at-zero b in
    c.loop-rest.invariant.2 b k l set (λ still. omega (arith, none, still)) h

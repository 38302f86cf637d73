use Rattle.std.proofs.Common.{◌≡◌, ◌+◌, ◌*◌, ◌%◌, ◌^◌, inl, inr, length, refl, sym, ap, ◌∙◌, subst, arith, le_refl}
use Rattle.std.specs.Prelude.{slice_index_or}
use Rattle.std.specs.Int.{bit_at}
use Rattle.std.specs.Int.RustNames.{bit_or}
use Rattle.std.proofs.lemmas.Bool.{cases_eq}
use lib.Bits.{bit_and}
use Rattle.hub_automaton.specs.laws.ClassSet.{grown-twice}
use Rattle.hub_automaton.specs.ClassSets.{room}
use Rattle.hub_automaton.specs.Varied.{IsOfSpot, active_at}
use Rattle.hub_automaton.proofs.RowMoves.{before-next}
use Rattle.hub_automaton.proofs.varied.Varied.distinguish_row.Goals as goal

pub loop-i-preserved : goal.loop-i-preserved
loop-i-preserved c =
    let set = c.args.self.now in
    let row = c.args.row.now in
    let old = c.args.splits.now in
    let mid = c.loop-i.splits in
    let new = c.distinguish_word.new.splits in
    let n = c.loop-i.i in
    let grows = c.distinguish_word.ensures.grown (room old) c.requires.few in
    let active : bit_and (bit_or (slice_index_or row n 0 * 2 ^ 1 % 2 ^ 64) c.loop-i.here) (slice_index_or c.as_slice-varying.result.now n 0) ≡ active_at set row n =
    λ j. bit_and (bit_or (slice_index_or row n 0 * 2 ^ 1 % 2 ^ 64) (c.loop-i.invariant.1 j)) (slice_index_or (c.as_slice-varying.ensures j) n 0) in (
      grows.room ∙ c.loop-i.invariant.0,
      before-next row n (slice_index_or row n 0) refl,
      λ m f. grown-twice old mid new m m m (c.loop-i.invariant.2 m f) (c.distinguish_word.ensures.grown m f) (le_refl m) (le_refl m),
      λ i b k l m on h. elim (cases_eq i n) [
        | inl same ↦
            c.distinguish_word.ensures.told b k m (subst (λ w. bit_at w b ≡ 1) (sym active) (subst (λ j. bit_at (active_at set row j) b ≡ 1) same on))
            (subst (λ j. IsOfSpot set (64 * j + b) k) same h)
        | inr other ↦ grows.kept k (c.loop-i.invariant.3 i b k (omega arith) m on h)
      ],
    )

pub returns-clause-told : goal.returns-clause-told
returns-clause-told c = λ i b k l m on h.
    let long = ap length c.as_slice-varying.ensures in
    c.loop-i.invariant.3 i b k (omega (arith, l, long, c.loop-i-test.false, c.min-i-end.ensures)) m on h

use Rattle.std.proofs.Common.{◌∙◌, arith, sym}
use Rattle.hub_folded.specs.Table.{unicode}
use Rattle.hub_folded.proofs.FirstPlaces.{apart-there, first-within, fits-there}
use Rattle.hub_folded.proofs.roots.apart_at.Goals as goal

pub offset_bounds-roots-first : goal.offset_bounds-roots-first
offset_bounds-roots-first c =
    omega (
      arith,
      first-within unicode c.args.path.now c.in_ok-first.field-0.now c.args.roots.now
          (sym (c.requires c.args.path.now) ∙ sym c.in_ok-first.ensures.value),
    )

pub bounds-roots-first : goal.bounds-roots-first
bounds-roots-first c =
    first-within unicode c.args.path.now c.in_ok-first.field-0.now c.args.roots.now
    (sym (c.requires c.args.path.now) ∙ sym c.in_ok-first.ensures.value)

pub returns-then-is_within : goal.returns-then-is_within
returns-then-is_within c =
    fits-there unicode c.args.roots.now c.args.root.now c.args.path.now c.in_ok-first.field-0.now
    c.index-roots-first.result (sym (c.requires c.args.path.now) ∙ sym c.in_ok-first.ensures.value)
    c.index-roots-first.is (sym c.is_within.ensures ∙ c.if-is_within.true)

pub returns : goal.returns
returns c =
    apart-there unicode c.args.roots.now c.args.root.now c.args.path.now c.in_ok-first.field-0.now
    c.index-roots-first.result (sym (c.requires c.args.path.now) ∙ sym c.in_ok-first.ensures.value)
    c.index-roots-first.is (sym c.is_within.ensures ∙ c.if-is_within.false)

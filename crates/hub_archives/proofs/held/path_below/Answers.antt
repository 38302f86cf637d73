use Rattle.std.proofs.Common.{◌∙◌, ◌++◌, ◌∷◌, [], ap, length, slice_get, sym, take}
use Rattle.std.proofs.Math.Numerals.{add-one}
use Rattle.hub_archives.proofs.Below.{front, one_more}
use Rattle.hub_archives.proofs.held.path_below.Goals as goal

pub loop-number-init : goal.loop-number-init
loop-number-init c =
    ap (λ n. take n c.args.folder.now) (c.len-number.ensures.len ∙ ap length c.path.ensures)
    ∙ (front c.args.root.now c.args.folder.now (sym c.is_within.ensures ∙ c.if-not-is_within.false)
    ∙ ap (λ p. c.args.root.now ++ p) (sym c.top-path.ensures))

pub loop-number-preserved : goal.loop-number-preserved
loop-number-preserved c =
    ap (λ n. take n c.args.folder.now) (add-one c.loop-number.number)
    ∙ (one_more c.args.root.now c.args.folder.now c.loop-number.path c.loop-number.number c.name.result.now c.loop-number.invariant
    (ap (λ f. slice_get f c.loop-number.number) (sym c.path-names.ensures) ∙ c.name.ensures.name)
    ∙ ap (λ p. c.args.root.now ++ p) (ap (λ n. c.loop-number.path ++ n ∷ []) (sym c.in_ok-copy.ensures) ∙ sym c.in_ok-path.ensures))

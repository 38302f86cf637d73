use Rattle.std.proofs.Common.{◌∙◌, sym, ap, arith}
use Rattle.hub_path.specs.Path.{path_eq}
use Rattle.hub_path.specs.declared.side.Side.TheVariants.{Left, Right}
use Rattle.hub_cert.proofs.Forbids.{no-root, root-at, root-is}
use Rattle.hub_cert.proofs.set.forbidden.side_of.Goals as goal

pub returns-then-eq-clause-side : goal.returns-then-eq-clause-side
returns-then-eq-clause-side c =
    let left = root-at c.args.profile.now c.roots-roots.result.now 0 c.index-roots-0.result c.roots-roots.ensures.valid c.roots-roots.ensures.value (omega arith) c.index-roots-0.is in
    root-is c.args.profile.now c.args.root.now c.index-roots-0.result Left left (ap (path_eq c.args.root.now) c.index-roots-0.is ∙ (sym c.eq.ensures ∙ c.if-eq.true))

pub returns-then-eq-2-clause-side : goal.returns-then-eq-2-clause-side
returns-then-eq-2-clause-side c =
    let right = root-at c.args.profile.now c.roots-roots.result.now 1 c.index-roots-1.result c.roots-roots.ensures.valid c.roots-roots.ensures.value (omega arith) c.index-roots-1.is in
    root-is c.args.profile.now c.args.root.now c.index-roots-1.result Right right (ap (path_eq c.args.root.now) c.index-roots-1.is ∙ (sym c.eq-2.ensures ∙ c.if-eq-2.true))

pub returns-clause-some : goal.returns-clause-some
returns-clause-some c = λ own.
    let P = c.args.profile.now in
    let r = c.args.root.now in
    let rs = c.roots-roots.result.now in
    let left = root-at P rs 0 c.index-roots-0.result c.roots-roots.ensures.valid c.roots-roots.ensures.value (omega arith) c.index-roots-0.is in
    let right = root-at P rs 1 c.index-roots-1.result c.roots-roots.ensures.valid c.roots-roots.ensures.value (omega arith) c.index-roots-1.is in
    absurd
    (no-root P r c.index-roots-0.result c.index-roots-1.result c.roots-roots.ensures.valid left right (ap (path_eq r) c.index-roots-0.is ∙ (sym c.eq.ensures ∙ c.if-eq.false)) (ap (path_eq r) c.index-roots-1.is ∙ (sym c.eq-2.ensures ∙ c.if-eq-2.false)) own)

-- Profiles are told apart by their parts.
use Rattle.std.specs.Prelude.{◌&&◌, Bool}
use Rattle.std.specs.Bool.{beq}
use Rattle.hub_text.specs.Exact.{IsExact}
use Rattle.hub_text.specs.laws.Exact.{both_exact, bool_exact, nat_exact, items_exact, option_exact}
use Rattle.hub_path.specs.declared.side.Side.{Side}
use Rattle.hub_glob.specs.Specification.{Specification}
use Rattle.hub_profile.specs.declared.bars.Bars.{Bars}
use Rattle.hub_profile.specs.declared.partial.Partial.{Partial}
use Rattle.hub_profile.specs.Exact.{parts_eq}

pub bars_exact : IsExact (λ (x y : Bars). beq x.create y.create
    && (beq x.update y.update && beq x.delete y.delete))
bars_exact x y =
    let all = both_exact (bool_exact x.create y.create)
    (both_exact (bool_exact x.update y.update) (bool_exact x.delete y.delete)) in (
      λ e i. let p = all.0 e in record { create = p.0 i; update = p.1.0 i; delete = p.1.1 i },
      λ e. all.1 (λ i. (e i).create, (λ i. (e i).update, λ i. (e i).delete)),
    )

pub partial_exact : {D : Side → Side → Bool} {B : Bars → Bars → Bool} {S : Specification
    → Specification → Bool} → IsExact D → IsExact B → IsExact S
    → IsExact (λ (x y : Partial). D x.side y.side && (B x.bars y.bars && S x.spec y.spec))
partial_exact side bars spec x y =
    let all = both_exact (side x.side y.side)
    (both_exact (bars x.bars y.bars) (spec x.spec y.spec)) in (
      λ e i. let p = all.0 e in record { side = p.0 i; bars = p.1.0 i; spec = p.1.1 i },
      λ e. all.1 (λ i. (e i).side, (λ i. (e i).bars, λ i. (e i).spec)),
    )

pub parts_exact : {S : Specification → Specification → Bool} {D : Side → Side → Bool} {B : Bars
    → Bars → Bool} {L : Partial → Partial → Bool}
    → IsExact S → IsExact D → IsExact B → IsExact L → IsExact (parts_eq S D B L)
parts_exact spec side bars partial P Q =
    let paths = items_exact (items_exact (items_exact nat_exact)) in
    let roots = both_exact (items_exact nat_exact P.name Q.name) (paths P.roots Q.roots) in
    let kept = both_exact roots (paths P.paths Q.paths) in
    let patterns = both_exact (both_exact kept (items_exact spec P.ignore Q.ignore))
    (items_exact spec P.ignorenot Q.ignorenot) in
    let sides = both_exact (both_exact patterns (option_exact side P.force Q.force))
    (option_exact side P.prefer Q.prefer) in
    let barred = both_exact sides (items_exact bars P.bars Q.bars) in
    let all = both_exact barred (items_exact partial P.partial Q.partial) in (
      λ e i.
          let p = all.0 e in
          record {
            name = p.0.0.0.0.0.0.0.0 i;
            roots = p.0.0.0.0.0.0.0.1 i;
            paths = p.0.0.0.0.0.0.1 i;
            ignore = p.0.0.0.0.0.1 i;
            ignorenot = p.0.0.0.0.1 i;
            force = p.0.0.0.1 i;
            prefer = p.0.0.1 i;
            bars = p.0.1 i;
            partial = p.1 i;
          },
      λ e. all.1 ((
        (
          (
            (
              (
                (((λ i. (e i).name, λ i. (e i).roots), λ i. (e i).paths), λ i. (e i).ignore),
                λ i.
                    (e i).ignorenot,
              ),
              λ i. (e i).force,
            ),
            λ i. (e i).prefer,
          ),
          λ i. (e i).bars,
        ),
        λ i. (e i).partial,
      )),
    )

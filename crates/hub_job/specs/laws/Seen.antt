-- Sights are told apart by their parts.
use Rattle.std.specs.Prelude.{◌&&◌, Bool, nat_eq}
use Rattle.std.specs.Bool.{beq}
use Rattle.std.specs.Cmp.Lexicographic.{pointwise}
use Rattle.hub_text.specs.Exact.{IsExact}
use Rattle.hub_text.specs.laws.Exact.{both_exact, bool_exact, items_exact, nat_exact}
use Rattle.hub_tree.specs.declared.contents.Mark.{Mark}
use Rattle.hub_reconcile.specs.Sight.{Sight}

pub sight_exact : {E : Mark → Mark → Bool} → IsExact E
    → IsExact (λ (s t : Sight). E s.mark t.mark && pointwise (pointwise nat_eq) s.names t.names
    && beq s.others t.others)
sight_exact f s t =
    let three = both_exact
    (both_exact (f s.mark t.mark) (items_exact (items_exact nat_exact) s.names t.names))
    (bool_exact s.others t.others) in (
      λ e i. record {
        mark = (three.0 e).0.0 i;
        names = (three.0 e).0.1 i;
        others = (three.0 e).1 i;
      },
      λ e. three.1 ((λ i. (e i).mark, λ i. (e i).names), λ i. (e i).others),
    )

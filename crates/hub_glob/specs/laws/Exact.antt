-- Specifications are told apart by their kinds and their patterns.
use Rattle.std.specs.Prelude.{◌&&◌, Bool}
use Rattle.std.specs.Cmp.Lexicographic.{pointwise}
use Rattle.hub_text.specs.Exact.{IsExact}
use Rattle.hub_text.specs.laws.Exact.{both_exact, items_exact}
use Rattle.hub_glob.specs.declared.piece.Part.{Part}
use Rattle.hub_glob.specs.declared.path_spec.Kind.{Kind}
use Rattle.hub_glob.specs.Specification.{Specification}

pub specification_exact : {E : Kind → Kind → Bool} {F : Part → Part → Bool} → IsExact E → IsExact F
    → IsExact (λ (s t : Specification). E s.kind t.kind && pointwise F s.pattern t.pattern)
specification_exact f g s t =
    let two = both_exact (f s.kind t.kind) (items_exact g s.pattern t.pattern) in (
      λ e i. record { kind = (two.0 e).0 i; pattern = (two.0 e).1 i },
      λ e. two.1
          (λ i. (e i).kind, λ i. (e i).pattern),
    )

-- The folded lines of a profile, in its three cases.
use Rattle.std.proofs.Common.{◌≡◌, List, [], ◌∙◌}
use Rattle.hub_path.specs.Path.{Path}
use Rattle.hub_glob.specs.Specification.{Specification}
use Rattle.hub_profile.specs.declared.partial.Partial.{Partial}
use Rattle.hub_profile.specs.Parts.{Parts}
use Rattle.hub_folded.specs.Fold.{Folding}
use Rattle.hub_folded.specs.Lines.{folded_tops, spread}

pub by-spread : (F : Folding) (P C K : Parts) (tops old : List Path)
    (ignore ignorenot : List Specification) (partial : List Partial) → K ≡ record P { paths = tops }
    → C ≡ record K { ignore = ignore; ignorenot = ignorenot; partial = partial } → old ≡ P.paths
    → tops ≡ folded_tops F old → ignore ≡ [] → ignorenot ≡ [] → partial ≡ [] → C ≡ spread F P
by-spread F P C K tops old ignore ignorenot partial kept e values top one two none =
    e
    ∙ ((λ i. record (kept i) { ignore = one i; ignorenot = two i; partial = none i })
    ∙ ((λ i. record P { paths = top i; ignore = []; ignorenot = []; partial = [] })
    ∙ (λ i. record P { paths = folded_tops F (values i); ignore = []; ignorenot = []; partial = [] })))

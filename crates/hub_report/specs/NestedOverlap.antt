-- The line of an overlap in Unison. Its paths are counted from the root of the one that writes. The
-- other profile may have that root, or one nested with it.
use Rattle.std.specs.Prelude.{ℕ, List, [], ◌∷◌, ◌++◌, length, drop, slice_get, Option, Some, None, codes, if◌then◌else◌}
use Rattle.std.specs.List.{find}
use Rattle.hub_path.specs.Path.{Path, is_over, root_bytes}
use Rattle.hub_profile.specs.Parts.{Parts, at_side, has_root}
use Rattle.hub_cert.specs.Set.{Members}
use Rattle.hub_cert.specs.declared.fault.CheckFault.{CheckFault}
use Rattle.hub_cert.specs.declared.fault.CheckFault.TheVariants as fault
use Rattle.hub_cert.specs.declared.goal.Place.{Place}
use Rattle.hub_cert.specs.declared.goal.Place.TheVariants.{Replica, Archive}
use Rattle.hub_report.specs.Refusal.{breach_line, joined, name_at, path_text, shown_place_of}

-- What the other profile reaches at that root.
abbrev pub reached_here : Path → List ℕ
reached_here path = joined (codes " reaches " ∷ path_text path ∷ codes "\n" ∷ [])

-- What it reaches at a root of its own: a path, or nothing but the root itself.
abbrev pub reached_at : Path → Path → List ℕ
reached_at s [] = joined (codes " has its root at " ∷ root_bytes s ∷ codes "\n" ∷ [])
reached_at s (n ∷ q) =
    joined (codes " reaches " ∷ path_text (n ∷ q) ∷ codes " at " ∷ root_bytes s ∷ codes "\n" ∷ [])

-- A path from the top of the file system, at the root of these that is over it.
abbrev pub reached_below : Path → Option Path → Path → List ℕ
reached_below whole None path = reached_here path
reached_below whole (Some s) path = reached_at s (drop (length s) whole)

abbrev pub reached_from : Path → Parts → Path → List ℕ
reached_from r O path =
    if has_root O r then reached_here path
    else reached_below (r ++ path) (find (λ s. is_over s (r ++ path)) O.roots) path

-- The writer's root at a replica.
abbrev pub root_at_place : Option Parts → Place → Option Path
root_at_place (Some W) (Replica side) = at_side W.roots side
root_at_place _ _ = None

abbrev pub reached_by : Option Path → Option Parts → Path → List ℕ
reached_by (Some r) (Some O) path = reached_from r O path
reached_by _ _ path = reached_here path

abbrev pub unison_overlap : List Parts → ℕ → ℕ → Place → Path → Path → List ℕ
unison_overlap Ps writer other place held path =
    joined (codes "overlap: " ∷ name_at Ps writer ∷ codes " writes " ∷ path_text held
    ∷ codes " at " ∷ shown_place_of (slice_get Ps writer) place ∷ codes ", " ∷ name_at Ps other
    ∷ reached_by (root_at_place (slice_get Ps writer) place) (slice_get Ps other) path ∷ [])

-- The line of a fault that shows a path, or nothing for another fault.
abbrev pub unison_shown : Members → CheckFault → List ℕ
unison_shown S (fault.Overlap w o place held path) = unison_overlap S.profiles w o place held path
unison_shown S (fault.Breach p r path) = breach_line S p r path
unison_shown S _ = []

-- Which profiles keep out what Unison has in a folder.
use Rattle.std.specs.Prelude.{◌≡◌, ◌++◌, ◌&&◌, not, ℕ, Bool, false, List, slice_get, Some, IsTrue}
use Rattle.std.specs.List.{list_any}
use Rattle.hub_path.specs.Path.{Path, is_over}
use Rattle.hub_profile.specs.Parts.{Parts, has_root}
use Rattle.hub_reach.specs.Reach.{reach}
use Rattle.hub_unison.specs.Matching.{IsMatching, Matching}
use Rattle.hub_unison.specs.ReadingOf.{cautious_of}
use Rattle.hub_unison.specs.UnisonReach.{reach_by}
use Rattle.hub_unison.specs.Written.{IsWrittenAs, Written}

-- By a profile with these lines Unison reaches nothing at or below the path, however it matches
-- paths.
abbrev pub ReachesNothingAt : Written → Path → Type 0
ReachesNothingAt W x =
    (m : Matching) (q : Path) → IsMatching m → IsTrue (is_over x q) → reach_by m W q ≡ false

-- If the folder is a root of the profile or lies in one, Unison reaches nothing there, whatever
-- lines say the profile.
abbrev pub KeepsOut : Path → Parts → Type 0
KeepsOut folder P =
    (W : Written) (r x : Path) → IsWrittenAs W P → IsTrue (has_root P r) → folder ≡ r ++ x
    → ReachesNothingAt W x

-- The same of several folders.
abbrev pub AllKeepOut : List Path → Parts → Type 0
AllKeepOut folders P = (i : ℕ) (f : Path) → slice_get folders i ≡ Some f → KeepsOut f P

-- A reading keeps a folder out: it doesn't reach its path, and keeps no value at or below it.
abbrev pub keeps_out : Parts → Path → Bool
keeps_out C x = not (reach C x) && not (list_any (λ k. is_over x k) C.paths)

-- The folder has this path below the root, and the reading doesn't keep it out; and the same below a
-- root of the reading.
abbrev pub IsHeldBelow : Path → Path → Parts → Path → Type 0
IsHeldBelow r folder C x = (folder ≡ r ++ x) × (keeps_out C x ≡ false)

abbrev pub IsHeldAt : Path → Parts → Path → Type 0
IsHeldAt folder C x = (r : Path) × IsTrue (has_root C r) × IsHeldBelow r folder C x

-- The same of the cautious reading of a profile and one of these folders.
abbrev pub IsHeldBy : List Path → Parts → ℕ → Path → Type 0
IsHeldBy folders P i x =
    (f : Path) × (slice_get folders i ≡ Some f) × IsHeldAt f (cautious_of P) x

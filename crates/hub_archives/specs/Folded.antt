-- Which profiles keep out what Unison has in a folder, where names fold.
use Rattle.std.specs.Prelude.{◌≡◌, ◌++◌, ℕ, true, false, List, slice_get, Some, IsTrue}
use Rattle.hub_path.specs.Path.{Path}
use Rattle.hub_profile.specs.Parts.{Parts, has_root}
use Rattle.hub_unison.specs.Matching.{IsMatching, Matching}
use Rattle.hub_unison.specs.ReadingOf.{cautious_of}
use Rattle.hub_unison.specs.Written.{IsWrittenAs}
use Rattle.hub_folded.specs.InUnison.{IsNormOf, Lined, Norm, over_up_to, reach_at}
use Rattle.hub_folded.specs.Lines.{folded_member}
use Rattle.hub_folded.specs.Table.{unicode}
use Rattle.hub_folded.specs.declared.member.Member.{Member}
use Rattle.hub_archives.specs.Seen.{keeps_out_folded}
use Rattle.hub_archives.specs.declared.found.HeldArchives.{HeldArchives}

-- By a profile with these lines Unison reaches nothing that is at or below the path up to folding,
-- whatever unknown names and lines fold to, and however it matches paths.
abbrev pub ReachesNothingFolded : Lined → Path → Type 0
ReachesNothingFolded V x =
    (N : Norm) (m : Matching) (q : Path) → IsNormOf unicode N → IsMatching m
    → IsTrue (over_up_to N x q) → reach_at N m V q ≡ false

-- If the folder is a root of the profile or lies in one, Unison reaches nothing there on a host whose
-- names fold, whatever lines say the profile.
abbrev pub KeepsOutFolded : Path → Parts → Type 0
KeepsOutFolded folder P =
    (V : Lined) (r x : Path) → V.folds ≡ true → IsWrittenAs V.written P → IsTrue (has_root P r)
    → folder ≡ r ++ x → ReachesNothingFolded V x

-- The same of several folders, if the names of the member fold; and of each member.
abbrev pub IsFoldedKeptOut : List Path → Member → Type 0
IsFoldedKeptOut folders M =
    (j : ℕ) (f : Path) → M.folds ≡ true → slice_get folders j ≡ Some f → KeepsOutFolded f M.parts

abbrev pub FoldedKeptOut : List Path → List Member → Type 0
FoldedKeptOut folders Ms =
    (i : ℕ) (M : Member) → slice_get Ms i ≡ Some M → IsFoldedKeptOut folders M

-- The names of the member fold, and one of the folders has this path below a root of its profile. The
-- cautious reading of its folded lines doesn't keep out the folded path, or it isn't known that each
-- name of the path folds to a name.
abbrev pub IsFoldedHeldBy : List Path → Member → ℕ → Path → Type 0
IsFoldedHeldBy folders M j x =
    (M.folds ≡ true) × ((f r : Path) × (slice_get folders j ≡ Some f) × IsTrue (has_root M.parts r)
    × (f ≡ r ++ x) × (keeps_out_folded (cautious_of (folded_member unicode M)) x ≡ false))

-- The same of one of several members.
abbrev pub IsFoldedHeld : List Path → List Member → HeldArchives → Type 0
IsFoldedHeld folders Ms h =
    (M : Member) × (slice_get Ms h.section ≡ Some M) × IsFoldedHeldBy folders M h.folder h.path

-- Readings of profiles that hold for Unison where names fold.
use Rattle.std.specs.Prelude.{◌≡◌, ℕ, true, List, length, map, slice_get, Some, IsTrue}
use Rattle.hub_path.specs.Path.{Path}
use Rattle.hub_profile.specs.Parts.{Parts}
use Rattle.hub_profile.specs.declared.rule.Rule.{Rule}
use Rattle.hub_reach.specs.Reach.{reach, write}
use Rattle.hub_reach.specs.Safe as safe
use Rattle.hub_unison.specs.Matching.{Matching, IsMatching}
use Rattle.hub_unison.specs.ReadingOf.{reading_of}
use Rattle.hub_unison.specs.Rules.{AreReadForUnison, forbidden}
use Rattle.hub_unison.specs.Shared.{ShareNoArchive}
use Rattle.hub_unison.specs.Written.{AreWrittenAs, Written}
use Rattle.hub_folded.specs.Fold.{Folding, IsTextual}
use Rattle.hub_folded.specs.InUnison.{FoldedBreach, IsNormOf, IsSafeFolded, KeepsRulesFolded, Lined, Norm, norm_path, reach_at, write_at}
use Rattle.hub_folded.specs.Lines.{fold_rule, folded_rules, folded_set, know_rules}
use Rattle.hub_folded.specs.Seen.{AreRootsApart, IsSafeAsOne, IsSafeAtRoots, KeepsRulesAsSeen}
use Rattle.hub_folded.specs.declared.member.Member.{Member}

-- The readings hold for Unison, whatever lines the profiles are written in.
abbrev pub AreReadAsWritten : List Parts → List Rule → List Parts → Type 0
AreReadAsWritten Ps Rs Cs =
    (Ws : List Written) → AreWrittenAs Ws Ps → AreReadForUnison Ws Rs Cs

-- A reading of V beside these rules. What Unison reaches and writes at a path, it reaches and
-- writes at the folded path; and whatever rule Unison may break by V, the reading breaches folded.
pub record IsFoldedReading (F : Folding) (N : Norm) (Rs : List Rule) (V : Lined) (C : Parts)
    : Type 0 where
  pub name : C.name ≡ V.written.parts.name
  pub roots : C.roots ≡ V.written.parts.roots
  pub reach : (m : Matching) → IsMatching m → (p : Path) → IsTrue (reach_at N m V p)
      → IsTrue (reach C (norm_path N p))
  pub write : (m : Matching) → IsMatching m → (r p : Path) → IsTrue (write_at N m V r p)
      → IsTrue (write C r (norm_path N p))
  pub breaches : (m : Matching) → IsMatching m → (k : ℕ) (R : Rule) → slice_get Rs k ≡ Some R
      → FoldedBreach F N m V R → safe.Breach C (forbidden (fold_rule F R))

-- Readings of some profiles, one each, if Unison folds by N.
pub record AreReadBy (F : Folding) (N : Norm) (Vs : List Lined) (Rs : List Rule) (Cs : List Parts)
    : Type 0 where
  pub count : length Cs ≡ length Vs
  pub each : (i : ℕ) (V : Lined) → slice_get Vs i ≡ Some V
      → (C : Parts) × (slice_get Cs i ≡ Some C) × IsFoldedReading F N Rs V C

-- The same whatever Unison folds by.
abbrev pub AreReadFolded : Folding → List Lined → List Rule → List Parts → Type 0
AreReadFolded F Vs Rs Cs = (N : Norm) → IsNormOf F N → AreReadBy F N Vs Rs Cs

-- The readings of the folded profiles of a set beside its folded rules.
abbrev pub readings_of : Folding → List Member → List Rule → List Parts
readings_of F Ms Rs = map (reading_of (folded_rules F Ms Rs)) (folded_set F Ms)

-- If these are a safe set beside the folded rules, none of the profiles breaks a rule, as it is
-- folded or as it stands. If no two of them have the same two roots, either, no two of the profiles
-- clash: neither up to folding, nor at names that are one, nor at roots that may be one folder.
pub record IsSafeWhereRead (F : Folding) (Vs : List Lined) (Rs : List Rule) (Cs : List Parts)
    (Ss : List Rule) : Type 0 where
  pub kept : safe.IsSafe Cs (map forbidden Ss) → KeepsRulesFolded F Vs Rs
  pub seen : IsTextual F → know_rules F Rs ≡ true → safe.IsSafe Cs (map forbidden Ss)
      → KeepsRulesAsSeen F Vs Rs
  pub clashes : safe.IsSafe Cs (map forbidden Ss) → ShareNoArchive Cs → IsSafeFolded F Vs
  pub one : safe.IsSafe Cs (map forbidden Ss) → ShareNoArchive Cs → IsSafeAsOne F Vs
  pub roots : AreRootsApart F Vs → safe.IsSafe Cs (map forbidden Ss) → ShareNoArchive Cs
      → IsSafeAtRoots F Vs

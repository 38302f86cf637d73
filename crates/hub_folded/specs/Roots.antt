-- Roots that are spelled in two ways where names fold, and what holds where none is.
use Rattle.std.specs.Prelude.{◌≡◌, ◌≢◌, ℕ, false, List, slice_get, Some, IsTrue}
use Rattle.hub_path.specs.Path.{Path, is_over}
use Rattle.hub_profile.specs.Parts.{has_root}
use Rattle.hub_profile.specs.declared.rule.Rule.{Rule}
use Rattle.hub_unison.specs.Matching.{Matching, IsMatching}
use Rattle.hub_folded.specs.Fold.{Folding, fold_path, knows_path}
use Rattle.hub_folded.specs.InUnison.{FoldedBreach, FoldedClashAt, IsNormOf, Lined, Norm, norm_path}

-- Unison folds no root, and roots are compared as they are spelled. But on the disk of a host whose
-- names fold, two of them may be one folder, or one may lie in the other. They are told apart if
-- each known root that is over a known root up to folding is over it as both are spelled.
abbrev pub AreToldApart : Folding → List Path → Type 0
AreToldApart F rs =
    (i j : ℕ) (r s : Path) → slice_get rs i ≡ Some r → slice_get rs j ≡ Some s
    → IsTrue (knows_path F r) → IsTrue (knows_path F s)
    → IsTrue (is_over (fold_path F r) (fold_path F s)) → IsTrue (is_over r s)

-- The roots with these numbers are not: the first one is over the second one up to folding alone.
-- So a folder is spelled in two ways.
abbrev pub IsSpelledTwice : Folding → List Path → ℕ → ℕ → Type 0
IsSpelledTwice F rs i j =
    (r s : Path) × (slice_get rs i ≡ Some r) × (slice_get rs j ≡ Some s)
    × IsTrue (knows_path F r) × IsTrue (knows_path F s)
    × IsTrue (is_over (fold_path F r) (fold_path F s)) × (is_over r s ≡ false)

-- The root is one of these. So are all roots of some profiles, and those of some rules.
abbrev pub IsOneOf : List Path → Path → Type 0
IsOneOf rs r = (k : ℕ) × (slice_get rs k ≡ Some r)

abbrev pub HaveRootsIn : List Path → List Lined → Type 0
HaveRootsIn rs Vs =
    (i : ℕ) (V : Lined) (r : Path) → slice_get Vs i ≡ Some V → IsTrue (has_root V.written.parts r)
    → IsOneOf rs r

abbrev pub HoldAtRootsIn : List Path → List Rule → Type 0
HoldAtRootsIn rs Rs = (k : ℕ) (R : Rule) → slice_get Rs k ≡ Some R → IsOneOf rs R.root

-- No two different known roots of the profiles are nested up to folding.
abbrev pub AreKnownRootsApart : Folding → List Lined → Type 0
AreKnownRootsApart F Vs =
    (i j : ℕ) (V W : Lined) (r s : Path) → slice_get Vs i ≡ Some V → slice_get Vs j ≡ Some W
    → IsTrue (has_root V.written.parts r) → IsTrue (has_root W.written.parts s)
    → IsTrue (knows_path F r) → IsTrue (knows_path F s)
    → IsTrue (is_over (fold_path F r) (fold_path F s)) → r ≡ s

-- Two profiles clash at known roots that are one up to folding.
abbrev pub ClashOfKnownRoots : Folding → Norm → Matching → Matching → Lined → Lined → Type 0
ClashOfKnownRoots F N m n V W =
    (r s : Path) × IsTrue (knows_path F r) × IsTrue (knows_path F s)
    × IsTrue (has_root V.written.parts r) × IsTrue (has_root W.written.parts s)
    × (norm_path N r ≡ norm_path N s) × FoldedClashAt N m n V W r

abbrev pub IsSafeAtKnownRoots : Folding → List Lined → Type 0
IsSafeAtKnownRoots F Vs =
    (N : Norm) → IsNormOf F N → (m n : Matching) → IsMatching m → IsMatching n → (i j : ℕ)
    (V W : Lined) → slice_get Vs i ≡ Some V → slice_get Vs j ≡ Some W → i ≢ j
    → ¬ (ClashOfKnownRoots F N m n V W)

-- By V, Unison may do what the rule forbids at a known root of V that is one with the rule's own,
-- which is known, up to folding: what the rule would forbid at the root as V spells it.
abbrev pub BreachAtKnownRoot : Folding → Norm → Matching → Lined → Rule → Type 0
BreachAtKnownRoot F N m V R =
    (r : Path) × IsTrue (knows_path F r) × IsTrue (knows_path F R.root)
    × (norm_path N r ≡ norm_path N R.root) × FoldedBreach F N m V (record R { root = r })

abbrev pub KeepsRulesAtKnownRoots : Folding → List Lined → List Rule → Type 0
KeepsRulesAtKnownRoots F Vs Rs =
    (N : Norm) → IsNormOf F N → (m : Matching) → IsMatching m → (i k : ℕ) (V : Lined) (R : Rule)
    → slice_get Vs i ≡ Some V → slice_get Rs k ≡ Some R → ¬ (BreachAtKnownRoot F N m V R)

-- What the reader of a set sees: names that are one, a rule's own pattern, and roots.
use Rattle.std.specs.Prelude.{◌≡◌, ◌≢◌, ◌⊎◌, ℕ, Bool, true, false, ◌&&◌, List, [], ◌∷◌, slice_get, Some, IsTrue}
use Rattle.hub_path.specs.Path.{Name, Path, is_over}
use Rattle.hub_glob.specs.Glob.{matches}
use Rattle.hub_profile.specs.Parts.{has_root}
use Rattle.hub_profile.specs.declared.rule.Rule.{Rule}
use Rattle.hub_reach.specs.Safe.{share_archive}
use Rattle.hub_unison.specs.Matching.{Matching, IsMatching}
use Rattle.hub_folded.specs.Fold.{Folding, fold_path, knows_path}
use Rattle.hub_folded.specs.InUnison.{FoldedClashAt, IsNormOf, Lined, Norm, is_path_up_to, may_at, norm_path, over_up_to, reach_at, write_at}

-- Names that Unison takes as one, by any relation of which no more is asked than that such names
-- fold to one; and which paths are then over others.
abbrev pub over_as_one : (Name → Name → Bool) → Path → Path → Bool
over_as_one one [] q = true
over_as_one one (n ∷ p) [] = false
over_as_one one (n ∷ p) (k ∷ q) = one n k && over_as_one one p q

abbrev pub FoldTogether : (Name → Name → Bool) → Norm → Type 0
FoldTogether one N = (n k : Name) → IsTrue (one n k) → N.name n ≡ N.name k

-- Two profiles clash at names that are one.
abbrev pub ClashAsOneAt : (Name → Name → Bool) → Norm → Matching → Matching → Lined → Lined → Path
    → Type 0
ClashAsOneAt one N m n V W r =
    (p q : Path) × IsTrue (over_as_one one p q) × IsTrue (write_at N m V r p)
    × IsTrue (reach_at N n W q)

abbrev pub ClashAsOne : (Name → Name → Bool) → Norm → Matching → Matching → Lined → Lined → Type 0
ClashAsOne one N m n V W =
    ((r : Path) × IsTrue (has_root V.written.parts r) × IsTrue (has_root W.written.parts r)
    × ClashAsOneAt one N m n V W r) ⊎ IsTrue (share_archive V.written.parts W.written.parts)

abbrev pub IsSafeAsOne : Folding → List Lined → Type 0
IsSafeAsOne F Vs =
    (one : Name → Name → Bool) (N : Norm) → IsNormOf F N → FoldTogether one N
    → (m n : Matching) → IsMatching m → IsMatching n → (i j : ℕ) (V W : Lined)
    → slice_get Vs i ≡ Some V → slice_get Vs j ≡ Some W → i ≢ j → ¬ (ClashAsOne one N m n V W)

-- A rule as its reader sees it forbids changes at each known path that its own pattern matches.
abbrev pub SeenBreach : Folding → Norm → Matching → Lined → Rule → Type 0
SeenBreach F N m V R =
    (p q : Path) × IsTrue (has_root V.written.parts R.root) × IsTrue (is_path_up_to N q)
    × IsTrue (over_up_to N p q) × IsTrue (reach_at N m V p)
    × IsTrue (may_at N m V R.root p R.verb)
    × IsTrue (knows_path F q) × IsTrue (matches R.spec q)

abbrev pub KeepsRulesAsSeen : Folding → List Lined → List Rule → Type 0
KeepsRulesAsSeen F Vs Rs =
    (N : Norm) → IsNormOf F N → (m : Matching) → IsMatching m → (i k : ℕ) (V : Lined) (R : Rule)
    → slice_get Vs i ≡ Some V → slice_get Rs k ≡ Some R → ¬ (SeenBreach F N m V R)

-- Unison folds no root, but two roots may be one folder on the disk of a host whose names fold. The
-- roots of a set are apart up to folding if each is known, and no two different ones are nested
-- when they are folded.
pub record AreRootsApart (F : Folding) (Vs : List Lined) : Type 0 where
  pub known : (i : ℕ) (V : Lined) (r : Path) → slice_get Vs i ≡ Some V
      → IsTrue (has_root V.written.parts r) → IsTrue (knows_path F r)
  pub apart : (i j : ℕ) (V W : Lined) (r s : Path) → slice_get Vs i ≡ Some V
      → slice_get Vs j ≡ Some W → IsTrue (has_root V.written.parts r)
      → IsTrue (has_root W.written.parts s) → IsTrue (is_over (fold_path F r) (fold_path F s))
      → r ≡ s

-- Two profiles clash at roots that are one up to folding.
abbrev pub ClashOfRoots : Norm → Matching → Matching → Lined → Lined → Type 0
ClashOfRoots N m n V W =
    (r s : Path) × IsTrue (has_root V.written.parts r) × IsTrue (has_root W.written.parts s)
    × (norm_path N r ≡ norm_path N s) × FoldedClashAt N m n V W r

abbrev pub IsSafeAtRoots : Folding → List Lined → Type 0
IsSafeAtRoots F Vs =
    (N : Norm) → IsNormOf F N → (m n : Matching) → IsMatching m → IsMatching n → (i j : ℕ)
    (V W : Lined) → slice_get Vs i ≡ Some V → slice_get Vs j ≡ Some W → i ≢ j
    → ¬ (ClashOfRoots N m n V W)

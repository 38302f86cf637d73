-- Clashes and breaches where roots may be nested: paths are counted from the top of the file
-- system.
use Rattle.std.specs.Prelude.{◌≡◌, ◌≢◌, ◌⊎◌, ◌&&◌, ◌++◌, ℕ, Bool, List, length, drop, slice_get, Some, IsTrue}
use Rattle.hub_path.specs.Path.{Path, is_over}
use Rattle.hub_profile.specs.Parts.{Parts}
use Rattle.hub_reach.specs.Reach.{reach, write, may_at, has_root}
use Rattle.hub_reach.specs.Safe.{Rule, Overlap, share_archive}

-- P writes a path at its root r over one that Q reaches at its root s.
abbrev pub ClashAt : Parts → Parts → Path → Path → Type 0
ClashAt P Q r s =
    (p q : Path) × IsTrue (is_over (r ++ p) (s ++ q)) × IsTrue (write P r p) × IsTrue (reach Q q)

-- P does so at some root of each, equal or nested; or, in the archive of both, it reaches such a
-- path.
abbrev pub WideClash : Parts → Parts → Type 0
WideClash P Q =
    ((r s : Path) × IsTrue (has_root P r) × IsTrue (has_root Q s) × ClashAt P Q r s)
    ⊎ (IsTrue (share_archive P Q) × Overlap (reach P) Q)

-- What a profile reaches, and writes at its root r, as paths below an upper root. Its own root is
-- at x there.
abbrev pub reach_from : Path → Parts → Path → Bool
reach_from x P p = is_over x p && reach P (drop (length x) p)

abbrev pub write_from : Path → Parts → Path → Path → Bool
write_from x P r p = is_over x p && write P r (drop (length x) p)

-- P, at the upper root r, writes over what Q reaches at x there.
abbrev pub UpperClash : Parts → Path → Parts → Path → Type 0
UpperClash P r Q x =
    (p q : Path) × IsTrue (is_over p q) × IsTrue (write P r p) × IsTrue (reach_from x Q q)

-- P, at its root s, which is at x below the root of Q, writes over what Q reaches.
abbrev pub LowerClash : Parts → Path → Path → Parts → Type 0
LowerClash P s x Q =
    (p q : Path) × IsTrue (is_over p q) × IsTrue (write_from x P s p) × IsTrue (reach Q q)

-- P may do what the rule forbids: at p below its root r, which is q below the rule's root.
abbrev pub WideBreach : Parts → Rule → Type 0
WideBreach P R =
    (r p q : Path) × IsTrue (has_root P r) × (r ++ p ≡ R.root ++ q) × IsTrue (reach P p)
    × IsTrue (may_at P r p R.verb) × IsTrue (R.matches q)

-- No two profiles clash, and no profile breaches a rule, wherever the roots lie.
pub record IsSafeAnywhere (profiles : List Parts) (rules : List Rule) : Type 0 where
  pub no_clash : (i j : ℕ) (P Q : Parts) → slice_get profiles i ≡ Some P
      → slice_get profiles j ≡ Some Q → i ≢ j → ¬ (WideClash P Q)
  pub no_breach : (i k : ℕ) (P : Parts) (R : Rule) → slice_get profiles i ≡ Some P
      → slice_get rules k ≡ Some R → ¬ (WideBreach P R)

-- When profiles may run at the same time.
use Rattle.std.specs.Prelude.{◌≡◌, ◌≢◌, ◌⊎◌, ℕ, Bool, List, ◌++◌, map, IsTrue, slice_get, Some}
use Rattle.std.specs.List.{list_all, flat_map}
use Rattle.hub_path.specs.Path.{Path, is_over}
use Rattle.hub_profile.specs.Parts.{Parts}
use Rattle.hub_profile.specs.declared.verb.Verb.{Verb}
use Rattle.hub_reach.specs.Reach.{reach, may_at, write, has_root}

-- A rule forbids changes of one kind at a root, on the paths that it matches.
pub record Rule : Type 0 where
  pub root : Path
  pub verb : Verb
  pub matches : Path → Bool

-- One of these paths is over one that the profile reaches.
abbrev pub Overlap : (Path → Bool) → Parts → Type 0
Overlap these Q = (p q : Path) × IsTrue (is_over p q) × IsTrue (these p) × IsTrue (reach Q q)

-- The same two roots, in either order: then both have one archive.
abbrev pub share_archive : Parts → Parts → Bool
share_archive P Q = list_all (has_root Q) P.roots

-- At a root of both P writes a path over one that Q reaches; or, in the archive of both, it reaches
-- such a path.
abbrev pub Clash : Parts → Parts → Type 0
Clash P Q =
    ((r : Path) × IsTrue (has_root P r) × IsTrue (has_root Q r) × Overlap (write P r) Q)
    ⊎ (IsTrue (share_archive P Q) × Overlap (reach P) Q)

-- P may do what the rule forbids, at the rule's root and at a path that it reaches and the rule
-- matches.
abbrev pub Breach : Parts → Rule → Type 0
Breach P R =
    (p : Path) × IsTrue (has_root P R.root) × IsTrue (reach P p)
    × IsTrue (may_at P R.root p R.verb) × IsTrue (R.matches p)

abbrev pub all_roots : List Parts → List Rule → List Path
all_roots Ps Rs = flat_map (λ P. P.roots) Ps ++ map (λ R. R.root) Rs

-- Of all roots, no two different ones are nested; no two different profiles clash; no profile
-- breaches a rule.
pub record IsSafe (profiles : List Parts) (rules : List Rule) : Type 0 where
  pub apart : (i j : ℕ) (r s : Path) → slice_get (all_roots profiles rules) i ≡ Some r
      → slice_get (all_roots profiles rules) j ≡ Some s → IsTrue (is_over r s) → r ≡ s
  pub no_clash : (i j : ℕ) (P Q : Parts) → slice_get profiles i ≡ Some P
      → slice_get profiles j ≡ Some Q → i ≢ j → ¬ (Clash P Q)
  pub no_breach : (i k : ℕ) (P : Parts) (R : Rule) → slice_get profiles i ≡ Some P
      → slice_get rules k ≡ Some R → ¬ (Breach P R)

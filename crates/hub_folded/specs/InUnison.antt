-- What Unison reaches and writes where names fold.
use Rattle.std.specs.Prelude.{◌≡◌, ◌≢◌, ◌⊎◌, ℕ, Bool, ◌&&◌, List, [], map, slice_get, Option, Some, None, IsTrue, if◌then◌else◌}
use Rattle.hub_path.specs.Path.{Name, Path, is_over, is_path}
use Rattle.hub_glob.specs.Glob.{matches}
use Rattle.hub_glob.specs.Specification.{Specification}
use Rattle.hub_profile.specs.Parts.{has_root}
use Rattle.hub_profile.specs.declared.rule.Rule.{Rule}
use Rattle.hub_profile.specs.declared.verb.Verb.{Verb}
use Rattle.hub_reach.specs.Safe.{share_archive}
use Rattle.hub_unison.specs.Lines.{LineText, line_spec}
use Rattle.hub_unison.specs.Matching.{Matching, IsMatching}
use Rattle.hub_unison.specs.Rules.{may_item}
use Rattle.hub_unison.specs.UnisonReach.{reach_by, write_by, written_roots}
use Rattle.hub_unison.specs.Written.{IsWrittenAs, Written}
use Rattle.hub_folded.specs.Fold.{Folding, fold_name, knows}
use Rattle.hub_folded.specs.declared.member.Member.{Member}
use Rattle.hub_folded.specs.Lines.{fold_spec, knows_line, line_of}

-- What Unison folds by: what it makes of a name, and of a line that matches paths. A line is
-- matched with folded paths as the text that it is folded to would be matched.
pub record Norm : Type 0 where
  pub name : Name → Name
  pub line : LineText → LineText

-- All that is assumed of it: what is known. What other names and lines fold to isn't.
pub record IsNormOf (F : Folding) (N : Norm) : Type 0 where
  pub names : (n : Name) → IsTrue (knows F n) → N.name n ≡ fold_name F n
  pub lines : (l : LineText) (s : Specification) → line_spec l ≡ Some s → IsTrue (knows_line F s)
      → line_spec (N.line l) ≡ Some (fold_spec F s)

-- There is such a one: a folding folds names, and lines that can be said.
abbrev pub folded_line : Folding → Option Specification → LineText
folded_line F None = []
folded_line F (Some s) = line_of (fold_spec F s)

abbrev pub norm_of : Folding → Norm
norm_of F = record { name = fold_name F; line = λ l. folded_line F (line_spec l) }

-- Paths fold name by name.
abbrev pub norm_path : Norm → Path → Path
norm_path N p = map N.name p

-- One path is over another one up to folding.
abbrev pub over_up_to : Norm → Path → Path → Bool
over_up_to N p q = is_over (norm_path N p) (norm_path N q)

-- A profile with its paths and lines folded by Unison.
abbrev pub normed : Norm → Written → Written
normed N W =
    record {
      parts = record W.parts { paths = map (norm_path N) W.parts.paths };
      ignore = map N.line W.ignore;
      ignorenot = map N.line W.ignorenot;
      partial = map N.line W.partial;
    }

-- A profile as its lines say it to Unison, and whether its host's names fold.
pub record Lined : Type 0 where
  pub folds : Bool
  pub written : Written

abbrev pub member_of : Lined → Member
member_of V = record { folds = V.folds; parts = V.written.parts }

-- The lines of each profile spell what it specifies.
abbrev pub AreSpelled : List Lined → Type 0
AreSpelled Vs =
    (i : ℕ) (V : Lined) → slice_get Vs i ≡ Some V → IsWrittenAs V.written V.written.parts

-- A path whose folded names are names. Unison also synchronizes names that fold to nothing, to
-- dots, or to a forbidden character (observed with Unison 2.52.1): of these nothing is said.
abbrev pub is_path_up_to : Norm → Path → Bool
is_path_up_to N p = is_path p && is_path (norm_path N p)

-- What Unison reaches and writes at a path: on a host whose names fold, by folded lines at the
-- folded path; elsewhere, by the lines at the path.
abbrev pub reach_at : Norm → Matching → Lined → Path → Bool
reach_at N m V p =
    is_path_up_to N p
    && (if V.folds then reach_by m (normed N V.written) (norm_path N p) else reach_by m V.written p)

abbrev pub write_at : Norm → Matching → Lined → Path → Path → Bool
write_at N m V r p =
    is_path_up_to N p
    && (if V.folds then write_by m (normed N V.written) r (norm_path N p)
    else write_by m V.written r p)

-- What may be done at the path of an item.
abbrev pub may_at : Norm → Matching → Lined → Path → Path → Verb → Bool
may_at N m V r p verb =
    if V.folds then may_item m (normed N V.written) r (norm_path N p) verb
    else may_item m V.written r p verb

-- At the root, a run with V writes a path over one that a run with W reaches, up to folding. Each
-- run has a matching of its own; both fold in the same way.
abbrev pub FoldedClashAt : Norm → Matching → Matching → Lined → Lined → Path → Type 0
FoldedClashAt N m n V W r =
    (p q : Path) × IsTrue (over_up_to N p q) × IsTrue (write_at N m V r p)
    × IsTrue (reach_at N n W q)

-- Two runs clash at a root of both, or have the same two roots.
abbrev pub FoldedClash : Norm → Matching → Matching → Lined → Lined → Type 0
FoldedClash N m n V W =
    ((r : Path) × IsTrue (has_root V.written.parts r) × IsTrue (has_root W.written.parts r)
    × FoldedClashAt N m n V W r) ⊎ IsTrue (share_archive V.written.parts W.written.parts)

-- By V, Unison may do what the rule forbids: at a path that the rule's folded pattern matches when
-- it is folded, at or below that of an item.
abbrev pub FoldedBreach : Folding → Norm → Matching → Lined → Rule → Type 0
FoldedBreach F N m V R =
    (p q : Path) × IsTrue (has_root V.written.parts R.root) × IsTrue (is_path_up_to N q)
    × IsTrue (over_up_to N p q) × IsTrue (reach_at N m V p)
    × IsTrue (may_at N m V R.root p R.verb)
    × IsTrue (matches (fold_spec F R.spec) (norm_path N q))

-- No two different roots of the profiles are nested, and no two of the profiles clash, whatever
-- Unison folds by, and however each run matches.
pub record IsSafeFolded (F : Folding) (Vs : List Lined) : Type 0 where
  pub apart : (i j : ℕ) (r s : Path)
      → slice_get (written_roots (map (λ V. V.written) Vs)) i ≡ Some r
      → slice_get (written_roots (map (λ V. V.written) Vs)) j ≡ Some s
      → IsTrue (is_over r s) → r ≡ s
  pub no_clash : (N : Norm) → IsNormOf F N → (m n : Matching) → IsMatching m → IsMatching n
      → (i j : ℕ) (V W : Lined) → slice_get Vs i ≡ Some V → slice_get Vs j ≡ Some W → i ≢ j
      → ¬ (FoldedClash N m n V W)

-- By none of them Unison breaks a rule.
abbrev pub KeepsRulesFolded : Folding → List Lined → List Rule → Type 0
KeepsRulesFolded F Vs Rs =
    (N : Norm) → IsNormOf F N → (m : Matching) → IsMatching m → (i k : ℕ) (V : Lined) (R : Rule)
    → slice_get Vs i ≡ Some V → slice_get Rs k ≡ Some R → ¬ (FoldedBreach F N m V R)

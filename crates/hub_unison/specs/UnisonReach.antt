-- What Unison reaches and writes, however it matches patterns within what is known.
use Rattle.std.specs.Prelude.{◌≡◌, ◌≢◌, ◌⊎◌, ℕ, Bool, not, ◌&&◌, ◌||◌, nat_le, List, length, take, codes, if◌then◌else◌, IsTrue, slice_get, Some}
use Rattle.std.specs.List.{list_any, flat_map, zip}
use Rattle.hub_path.specs.Path.{Path, name_eq, is_over, is_path, prefixes, parent, last_name}
use Rattle.hub_profile.specs.declared.verb.Verb.{Verb}
use Rattle.hub_profile.specs.declared.partial.Partial.{Partial}
use Rattle.hub_profile.specs.declared.verb.Verb.TheVariants.{Create, Update, Delete}
use Rattle.hub_profile.specs.Parts.{Parts, is_root_at, has_root}
use Rattle.hub_reach.specs.Reach.{covers, may, reach, write}
use Rattle.hub_reach.specs.Safe.{share_archive}
use Rattle.hub_unison.specs.Lines.{LineText}
use Rattle.hub_unison.specs.Matching.{Matching, IsMatching}
use Rattle.hub_unison.specs.Written.{Written}

-- A kept value whose last name is `*` stands for all that is below its parent.
abbrev pub is_starred : Path → Bool
is_starred s = name_eq (last_name s) (codes "*")

-- Whether a path lies at or below one of those that a kept value stands for, and which one that is.
abbrev pub lies_in : Path → Path → Bool
lies_in s p = if is_starred s then is_over (parent s) p && nat_le (length s) (length p) else is_over s p

abbrev pub start : Path → Path → Path
start s p = if is_starred s then take (length s) p else s

abbrev pub ignores : Matching → Written → Path → Bool
ignores m W q = list_any (λ l. m l q) W.ignore && not (list_any (λ l. m l q) W.ignorenot)

abbrev pub opens : Matching → Written → Path → Path → Bool
opens m W s p = not (list_any (λ q. is_over s q && ignores m W q) (prefixes p))

-- The paths that Unison may reach.
unfoldable pub reach_by : Matching → Written → Path → Bool
reach_by m W p = is_path p && list_any (λ s. lies_in s p && opens m W (start s p) p) W.parts.paths

-- A line that bars changes on some paths forbids the change at the path. It stands beside its bar.
abbrev pub bars_by : Matching → Parts → Path → Verb → Path → Partial × LineText → Bool
bars_by m P r verb p b = is_root_at P r b.0.side && covers verb b.0.bars && m b.1 p

abbrev pub some_bars : Matching → Written → Path → Path → Verb → Bool
some_bars m W r p verb = list_any (bars_by m W.parts r verb p) (zip W.parts.partial W.partial)

abbrev pub may_by : Matching → Written → Path → Path → Verb → Bool
may_by m W r p verb = may W.parts r verb && not (some_bars m W r p verb)

abbrev pub writes_by : Matching → Written → Path → Path → Bool
writes_by m W r p =
    has_root W.parts r && (may_by m W r p Create || may_by m W r p Update || may_by m W r p Delete)

-- The paths of items that Unison may carry out at a root.
abbrev pub write_by : Matching → Written → Path → Path → Bool
write_by m W r p = writes_by m W r p && reach_by m W p

-- At the root, a run with V writes a path over one that a run with W reaches. Each run has a matching
-- of its own.
abbrev pub UnisonClashAt : Matching → Matching → Written → Written → Path → Type 0
UnisonClashAt m n V W r =
    (p q : Path) × IsTrue (is_over p q) × IsTrue (write_by m V r p) × IsTrue (reach_by n W q)

-- Two runs at once clash at a root of both, or have the same two roots. These have one archive, and
-- spoil it whatever paths they reach: of 40 such pairs each brought a deleted file back (observed with
-- Unison 2.52.1).
abbrev pub UnisonClash : Matching → Matching → Written → Written → Type 0
UnisonClash m n V W =
    ((r : Path) × IsTrue (has_root V.parts r) × IsTrue (has_root W.parts r)
    × UnisonClashAt m n V W r) ⊎ IsTrue (share_archive V.parts W.parts)

-- A cautious reading of a profile reaches and writes at least what Unison may.
pub record IsCautious (W : Written) (C : Parts) : Type 0 where
  pub name : C.name ≡ W.parts.name
  pub roots : C.roots ≡ W.parts.roots
  pub reach : (m : Matching) → IsMatching m → (p : Path) → IsTrue (reach_by m W p)
      → IsTrue (reach C p)
  pub write : (m : Matching) → IsMatching m → (r p : Path) → IsTrue (write_by m W r p)
      → IsTrue (write C r p)

-- The cautious readings of some profiles, one each.
pub record AreCautious (Ws : List Written) (Cs : List Parts) : Type 0 where
  pub count : length Cs ≡ length Ws
  pub each : (i : ℕ) (W : Written) → slice_get Ws i ≡ Some W
      → (C : Parts) × (slice_get Cs i ≡ Some C) × IsCautious W C

abbrev pub written_roots : List Written → List Path
written_roots Ws = flat_map (λ W. W.parts.roots) Ws

-- Of all roots of the profiles, no two different ones are nested. No two of the profiles clash,
-- however the run of each matches paths.
pub record IsSafeInUnison (Ws : List Written) : Type 0 where
  pub apart : (i j : ℕ) (r s : Path) → slice_get (written_roots Ws) i ≡ Some r
      → slice_get (written_roots Ws) j ≡ Some s → IsTrue (is_over r s) → r ≡ s
  pub no_clash : (m n : Matching) → IsMatching m → IsMatching n → (i j : ℕ) (V W : Written)
      → slice_get Ws i ≡ Some V → slice_get Ws j ≡ Some W → i ≢ j → ¬ (UnisonClash m n V W)

-- Clashes and breaches in Unison where roots may be nested.
use Rattle.std.specs.Prelude.{◌≡◌, ◌≢◌, ◌⊎◌, ◌++◌, ℕ, List, slice_get, Some, IsTrue}
use Rattle.hub_path.specs.Path.{Path, is_over, is_path}
use Rattle.hub_glob.specs.Glob.{matches}
use Rattle.hub_profile.specs.Parts.{has_root}
use Rattle.hub_profile.specs.declared.rule.Rule.{Rule}
use Rattle.hub_reach.specs.Safe.{share_archive}
use Rattle.hub_unison.specs.Matching.{Matching, IsMatching}
use Rattle.hub_unison.specs.Rules.{may_item}
use Rattle.hub_unison.specs.UnisonReach.{reach_by, write_by}
use Rattle.hub_unison.specs.Written.{Written}

-- Two runs at once clash at a root of each, equal or nested, or have the same two roots. Each run
-- has a matching of its own.
abbrev pub UnisonWideClash : Matching → Matching → Written → Written → Type 0
UnisonWideClash m n V W =
    ((r s p q : Path) × IsTrue (has_root V.parts r) × IsTrue (has_root W.parts s)
    × IsTrue (is_over (r ++ p) (s ++ q)) × IsTrue (write_by m V r p) × IsTrue (reach_by n W q))
    ⊎ IsTrue (share_archive V.parts W.parts)

-- No two of the profiles clash in Unison, wherever their roots lie.
abbrev pub IsSafeAnywhereInUnison : List Written → Type 0
IsSafeAnywhereInUnison Ws =
    (m n : Matching) → IsMatching m → IsMatching n → (i j : ℕ) (V W : Written)
    → slice_get Ws i ≡ Some V → slice_get Ws j ≡ Some W → i ≢ j → ¬ (UnisonWideClash m n V W)

-- By W, Unison may do what the rule forbids: at q below the root r, which is t below the rule's
-- root, and at or below the path p of an item.
abbrev pub UnisonWideBreach : Matching → Written → Rule → Type 0
UnisonWideBreach m W R =
    (r p q t : Path) × IsTrue (has_root W.parts r) × IsTrue (is_path q) × IsTrue (is_over p q)
    × (r ++ q ≡ R.root ++ t) × IsTrue (reach_by m W p) × IsTrue (may_item m W r p R.verb)
    × IsTrue (matches R.spec t)

-- By none of the profiles Unison breaks one of the rules, wherever the roots lie.
abbrev pub KeepsRulesAnywhereInUnison : List Written → List Rule → Type 0
KeepsRulesAnywhereInUnison Ws Rs =
    (m : Matching) → IsMatching m → (i k : ℕ) (W : Written) (R : Rule) → slice_get Ws i ≡ Some W
    → slice_get Rs k ≡ Some R → ¬ (UnisonWideBreach m W R)

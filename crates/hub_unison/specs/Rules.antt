-- What rules forbid, and what Unison may do there.
use Rattle.std.specs.Prelude.{◌≡◌, ℕ, Bool, ◌&&◌, ◌||◌, List, [], length, map, slice_get, Some, IsTrue}
use Rattle.hub_path.specs.Path.{Path, is_over, is_path}
use Rattle.hub_glob.specs.Glob.{matches}
use Rattle.hub_profile.specs.declared.bars.Bars.{Bars}
use Rattle.hub_profile.specs.declared.rule.Rule.{Rule}
use Rattle.hub_profile.specs.declared.verb.Verb.{Verb}
use Rattle.hub_profile.specs.declared.verb.Verb.TheVariants.{Create, Update, Delete}
use Rattle.hub_profile.specs.Parts.{Parts, has_root}
use Rattle.hub_reach.specs.Safe as safe
use Rattle.hub_unison.specs.Matching.{Matching, IsMatching}
use Rattle.hub_unison.specs.UnisonReach.{IsCautious, may_by, reach_by}
use Rattle.hub_unison.specs.Written.{Written}

-- Which changes Unison may make at the path of an item that it carries out, and below it. A bar is
-- tested at the item's own path alone. Where a directory comes in place of a file, what is below is
-- created though the item is updated. Where a directory goes, its deletion must be allowed, also if a
-- file comes in its place (all observed with Unison 2.52.1).
abbrev pub may_item : Matching → Written → Path → Path → Verb → Bool
may_item m W r p Create = may_by m W r p Create || may_by m W r p Update
may_item m W r p Update = may_by m W r p Update
may_item m W r p Delete = may_by m W r p Delete

-- What a rule forbids.
abbrev pub forbidden : Rule → safe.Rule
forbidden R = record { root = R.root; verb = R.verb; matches = matches R.spec }

-- By W, Unison may do what the rule forbids: at a path that the rule matches, at or below that of an
-- item. What is ignored below the item isn't spared: it is deleted with it (observed with Unison
-- 2.52.1).
abbrev pub UnisonBreach : Matching → Written → Rule → Type 0
UnisonBreach m W R =
    (p q : Path) × IsTrue (has_root W.parts R.root) × IsTrue (is_path q) × IsTrue (is_over p q)
    × IsTrue (reach_by m W p) × IsTrue (may_item m W R.root p R.verb) × IsTrue (matches R.spec q)

-- By none of the profiles Unison breaks one of the rules.
abbrev pub KeepsRulesInUnison : List Written → List Rule → Type 0
KeepsRulesInUnison Ws Rs =
    (m : Matching) → IsMatching m → (i k : ℕ) (W : Written) (R : Rule) → slice_get Ws i ≡ Some W
    → slice_get Rs k ≡ Some R → ¬ (UnisonBreach m W R)

-- A reading of W beside these rules: it is cautious, and whatever rule Unison may break by W, it
-- breaches.
pub record IsReadingOf (Rs : List Rule) (W : Written) (C : Parts) : Type 0 where
  pub cautious : IsCautious W C
  pub breaches : (m : Matching) → IsMatching m → (k : ℕ) (R : Rule) → slice_get Rs k ≡ Some R
      → UnisonBreach m W R → safe.Breach C (forbidden R)

-- Readings of some profiles beside these rules, one each.
pub record AreReadForUnison (Ws : List Written) (Rs : List Rule) (Cs : List Parts) : Type 0 where
  pub count : length Cs ≡ length Ws
  pub each : (i : ℕ) (W : Written) → slice_get Ws i ≡ Some W
      → (C : Parts) × (slice_get Cs i ≡ Some C) × IsReadingOf Rs W C

-- The bars on a root that hold for rules: `nocreation` doesn't, where something may be updated.
abbrev pub rule_bars : Bars → Bars
rule_bars b = record b { create = b.create && b.update }

-- A profile with these kept values and bars that hold for rules, nothing ignored, and no partial
-- bars.
abbrev pub for_rules : Parts → List Path → Parts
for_rules P tops =
    record P { paths = tops; ignore = []; ignorenot = []; bars = map rule_bars P.bars; partial = [] }

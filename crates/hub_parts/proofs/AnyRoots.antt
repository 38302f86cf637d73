-- What a reading for a rule shows where roots may be nested. The lemmas up to `reached` are those of hub_unison's reading beside
-- rules, which aren't public there.
use Rattle.std.proofs.Common.{◌≡◌, ◌∙◌, Bool, true, false, not, ◌&&◌, ◌||◌, List, [], Some, None, Option, refl, sym, ap, subst}
use Rattle.std.specs.Prelude.{IsTrue, map, option_map}
use Rattle.std.specs.List.{list_any}
use Rattle.std.proofs.lemmas.Bool.{and_parts, and_from, or_right}
use Rattle.std.proofs.lemmas.Option.{slice_get-map}
use Rattle.hub_path.specs.laws.General.{is_over-transitive}
use Rattle.hub_path.specs.Path.{Path, is_over, is_path, prefixes}
use Rattle.hub_path.specs.declared.side.Side.{Side}
use Rattle.hub_path.specs.declared.side.Side.TheVariants.{Left, Right}
use Rattle.hub_profile.specs.declared.bars.Bars.{Bars}
use Rattle.hub_profile.specs.declared.rule.Rule.{Rule}
use Rattle.hub_profile.specs.declared.verb.Verb.{Verb}
use Rattle.hub_profile.specs.declared.verb.Verb.TheVariants.{Create, Update, Delete}
use Rattle.hub_profile.specs.Parts.{Parts, at_side, is_root_at, some_passes}
use Rattle.hub_reach.specs.Reach.{covers, is_barred, is_barred_at, is_forced_root, is_open, may, may_at, reach}
use Rattle.hub_text.specs.laws.Test.{any-weaker, not-weaker}
use Rattle.hub_unison.specs.Matching.{Matching}
use Rattle.hub_unison.specs.UnisonReach.{may_by, reach_by, some_bars}
use Rattle.hub_unison.specs.Written.{AreWrittenAs, Written}
use Rattle.hub_unison.specs.Cautious.{cover}
use Rattle.hub_unison.specs.ReadingOf.{top_values}
use Rattle.hub_unison.specs.laws.Cautious.{no, none-over, tops-reach}
use Rattle.hub_unison.specs.laws.Reading.{values-cover}
use Rattle.hub_unison.specs.Rules.{for_rules, forbidden, may_item, rule_bars}
use Rattle.hub_parts.specs.Anywhere.{KeepsRulesAnywhereInUnison, UnisonWideBreach}
use Rattle.hub_parts.specs.Listed.{HasNoReadBreach}
use Rattle.hub_parts.specs.Nested.{WideBreach}

-- Bars.
at_side-map : {A B : Type 0} (f : A → B) (xs : List A) (s : Side)
    → at_side (map f xs) s ≡ option_map f (at_side xs s)
at_side-map f xs Left = slice_get-map f xs 0
at_side-map f xs Right = slice_get-map f xs 1

-- What the bars for rules cover, the own bars do.
covered : (v : Verb) (b : Bars) → covers v (rule_bars b) ≡ true → covers v b ≡ true
covered Create b h = (and_parts b.create b.update h).0
covered Update b h = h
covered Delete b h = h

create-covered : (b : Bars) → covers Create (rule_bars b) ≡ true → covers Update b ≡ true
create-covered b h = (and_parts b.create b.update h).1

passes-map : {A : Type 0} (f : A → A) (test own : A → Bool) (o : Option A)
    → ((x : A) → test (f x) ≡ true → own x ≡ true) → some_passes test (option_map f o) ≡ true
    → some_passes own o ≡ true
passes-map f test own None w h = absurd (no h)
passes-map f test own (Some x) w h = w x h

module _ (P : Parts) (tops : List Path) where
  -- A change that bars for rules forbid, the own bars forbid.
  barred-at : (r : Path) (v w : Verb)
      → ((b : Bars) → covers v (rule_bars b) ≡ true → covers w b ≡ true) → (s : Side)
      → is_barred_at (for_rules P tops) r v s ≡ true → is_barred_at P r w s ≡ true
  barred-at r v w weaker s h =
      let parts = and_parts (is_root_at P r s)
      (some_passes (covers v) (at_side (map rule_bars P.bars) s)) h in
      and_from (is_root_at P r s) (some_passes (covers w) (at_side P.bars s)) parts.0
      (passes-map rule_bars (covers v) (covers w) (at_side P.bars s) weaker
      (sym (ap (some_passes (covers v)) (at_side-map rule_bars P.bars s)) ∙ parts.1))

  barred : (r : Path) (v w : Verb)
      → ((b : Bars) → covers v (rule_bars b) ≡ true → covers w b ≡ true)
      → is_barred (for_rules P tops) r v ≡ true → is_barred P r w ≡ true
  barred r v w weaker h = go (is_barred_at (for_rules P tops) r v Left) refl h
    where
      go : (b : Bool) → is_barred_at (for_rules P tops) r v Left ≡ b
          → (b || is_barred_at (for_rules P tops) r v Right) ≡ true → is_barred P r w ≡ true
      go true e h = ap (λ x. x || is_barred_at P r w Right) (barred-at r v w weaker Left e)
      go false e h = or_right (is_barred_at P r w Left) (is_barred_at P r w Right) (barred-at r v w weaker Right h)

  may-weaker : (r : Path) (v w : Verb)
      → ((b : Bars) → covers v (rule_bars b) ≡ true → covers w b ≡ true) → may P r w ≡ true
      → may (for_rules P tops) r v ≡ true
  may-weaker r v w weaker h =
      not-weaker (is_forced_root P r || is_barred (for_rules P tops) r v)
      (is_forced_root P r || is_barred P r w) (λ e. go (is_forced_root P r) refl e) h
    where
      go : (b : Bool) → is_forced_root P r ≡ b
          → (is_forced_root P r || is_barred (for_rules P tops) r v) ≡ true
          → (is_forced_root P r || is_barred P r w) ≡ true
      go true e h = ap (λ x. x || is_barred P r w) e
      go false e h =
          or_right (is_forced_root P r) (is_barred P r w)
          (barred r v w weaker (sym (ap (λ x. x || is_barred (for_rules P tops) r v) e) ∙ h))

  -- No partial bar is left.
  at-all : (r p : Path) (v : Verb) → may (for_rules P tops) r v ≡ true
      → may_at (for_rules P tops) r p v ≡ true
  at-all r p v h = and_from (may (for_rules P tops) r v) true h refl

  -- Nothing is ignored, so what is below a path that is reached is reached.
  below-reached : (p q : Path) → is_path q ≡ true → is_over p q ≡ true
      → reach (for_rules P tops) p ≡ true → reach (for_rules P tops) q ≡ true
  unfolding reach
  below-reached p q path over h =
      let parts = and_parts (is_path p)
      (list_any (λ s. is_over s p && is_open (for_rules P tops) s p) tops) h in
      and_from (is_path q) (list_any (λ s. is_over s q && is_open (for_rules P tops) s q) tops) path
      (any-weaker (λ s. is_over s p && is_open (for_rules P tops) s p)
      (λ s. is_over s q && is_open (for_rules P tops) s q) tops
      (λ s e. and_from (is_over s q) (is_open (for_rules P tops) s q)
      (is_over-transitive s p q (and_parts (is_over s p) (is_open (for_rules P tops) s p) e).0 over)
      (ap not (none-over s (prefixes q)))) parts.1)

module _ (W : Written) (tops : List Path) where
  own-may : (m : Matching) (r p : Path) (v : Verb) → may_by m W r p v ≡ true → may W.parts r v ≡ true
  own-may m r p v h = (and_parts (may W.parts r v) (not (some_bars m W r p v)) h).0

  may-all : (m : Matching) (r p q : Path) (v : Verb) → may_by m W r p v ≡ true
      → may_at (for_rules W.parts tops) r q v ≡ true
  may-all m r p q v h = at-all W.parts tops r q v (may-weaker W.parts tops r v v (covered v) (own-may m r p v h))

  -- What may be done at an item or below it, may be done at each path.
  item-allowed : (m : Matching) (r p q : Path) (v : Verb) → may_item m W r p v ≡ true
      → may_at (for_rules W.parts tops) r q v ≡ true
  item-allowed m r p q Create h = go (may_by m W r p Create) refl h
    where
      go : (b : Bool) → may_by m W r p Create ≡ b → (b || may_by m W r p Update) ≡ true
          → may_at (for_rules W.parts tops) r q Create ≡ true
      go true e h = may-all m r p q Create e
      go false e h =
          at-all W.parts tops r q Create (may-weaker W.parts tops r Create Update create-covered (own-may m r p Update h))
  item-allowed m r p q Update h = may-all m r p q Update h
  item-allowed m r p q Delete h = may-all m r p q Delete h

  reached : (m : Matching) → cover tops W.parts.paths ≡ true → (p : Path) → IsTrue (reach_by m W p)
      → IsTrue (reach (for_rules W.parts tops) p)
  unfolding reach
  reached m all p h = tops-reach m W tops [] all p h

-- What rule Unison may break by a profile, wherever the roots lie, the reading for it breaches.
wide-breach : (m : Matching) (W : Written) (R : Rule) → UnisonWideBreach m W R
    → WideBreach (for_rules W.parts (top_values W.parts.paths)) (forbidden R)
wide-breach m W R b =
    let tops = top_values W.parts.paths in (
      b.0,
      b.2,
      b.3,
      b.4,
      b.7,
      below-reached W.parts tops b.1 b.2 b.5 b.6 (reached W tops m (values-cover W.parts.paths) b.1 b.8),
      item-allowed W tops m b.0 b.1 b.2 R.verb b.9,
      b.10,
    )

pub keeps-anywhere : (Ws : List Written) (Ps : List Parts) (Rs : List Rule) → AreWrittenAs Ws Ps → HasNoReadBreach Ps Rs
    → KeepsRulesAnywhereInUnison Ws Rs
keeps-anywhere Ws Ps Rs written free m known i k W R at at_k breach =
    let own = written.each i W at in
    free i k own.0 R own.1 at_k
    (subst (λ (P : Parts). WideBreach (for_rules P (top_values P.paths)) (forbidden R)) own.2.parts (wide-breach m W R breach))

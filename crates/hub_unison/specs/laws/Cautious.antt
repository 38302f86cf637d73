-- Cautious readings are cautious, and what they show.
use Rattle.std.proofs.Common.{◌≡◌, inl, inr, ℕ, zero, suc, arith, Bool, true, false, not, ◌&&◌, ◌||◌, Some, List, [], ◌∷◌, ◌++◌, map, length, take, drop, refl, sym, ap, ◌∙◌, subst}
use Rattle.std.specs.Prelude.{IsTrue, nat_le, nat_lt, slice_get, if◌then◌else◌}
use Rattle.std.specs.List.{list_any, list_all, flat_map, zip}
use Rattle.std.proofs.lemmas.Option.{none-some, same_Some}
use Rattle.std.proofs.lemmas.Bool.{and_parts, and_from, or_right}
use Rattle.std.proofs.Math.Bool.{and-false}
use Rattle.std.proofs.lemmas.Bool.Decides.{nat_tests}
use Rattle.hub_path.specs.laws.General.{is_over-transitive}
use Rattle.hub_path.specs.Path.{Path, is_over, is_path, prefixes, parent, path_eq, name_eq}
use Rattle.hub_glob.specs.Specification.{Specification}
use Rattle.hub_profile.specs.declared.partial.Partial.{Partial}
use Rattle.hub_profile.specs.declared.verb.Verb.{Verb}
use Rattle.hub_profile.specs.declared.verb.Verb.TheVariants.{Create, Update, Delete}
use Rattle.hub_profile.specs.Parts.{Parts, is_root_at, has_root}
use Rattle.hub_glob.specs.Glob.{matches, any_matches}
use Rattle.hub_reach.specs.Reach.{reach, may, may_at, writes_at, is_open, covers}
use Rattle.hub_text.specs.laws.Test.{any-map, any-weaker, list_all-not, not-weaker}
use Rattle.hub_reach.specs.Safe.{IsSafe, Rule, Clash, all_roots, share_archive}
use Rattle.hub_unison.specs.Lines.{LineText, line_spec}
use Rattle.hub_unison.specs.Matching.{Matching, IsMatching, spec_surely, surely, surely_by, perhaps, perhaps_by}
use Rattle.hub_unison.specs.Shared.{ShareNoArchive}
use Rattle.hub_unison.specs.Written.{IsWrittenAs, Written}
use Rattle.hub_unison.specs.UnisonReach.{is_starred, lies_in, start, ignores, opens, reach_by, some_bars, may_by, writes_by, written_roots, UnisonClash, IsCautious, AreCautious, IsSafeInUnison}
use Rattle.hub_unison.specs.laws.Piece.{any-where}
use Rattle.hub_unison.specs.Cautious.{any_surely, any_perhaps, IgnoresLess, SparesMore, BarsLess, has_star, with_patterns, with_tops, covers_value, cover}

-- Tests.
pub no : false ≡ true → ⊥
no i = cc

left-part : (a b : Bool) → (a || b) ≡ true → not b ≡ true → a ≡ true
left-part true b h n = refl
left-part false true h n = absurd (no n)
left-part false false h n = absurd (no h)

pub three-weaker : (a b c d e f : Bool) → (a ≡ true → d ≡ true) → (b ≡ true → e ≡ true)
    → (c ≡ true → f ≡ true) → ((a || b) || c) ≡ true → ((d || e) || f) ≡ true
three-weaker true b c d e f u v w h = rw (u refl) refl
three-weaker false true c d e f u v w h = ap (λ x. x || f) (or_right d e (v refl))
three-weaker false false c d e f u v w h = or_right (d || e) f (w h)

-- Kept values.
any-through : (C : Path → Path → Bool) (f g : Path → Bool) (tops xs : List Path)
    → list_all (λ s. list_any (λ top. C top s) tops) xs ≡ true
    → ((top s : Path) → C top s ≡ true → f s ≡ true → g top ≡ true) → list_any f xs ≡ true
    → list_any g tops ≡ true
any-through C f g tops [] all w some = absurd (no some)
any-through C f g tops (x ∷ xs) all w some =
    let parts = and_parts (list_any (λ top. C top x) tops)
    (list_all (λ s. list_any (λ top. C top s) tops) xs) all in
    go (f x) refl parts.0 (any-through C f g tops xs parts.1 w) some
  where
    go : (b : Bool) → f x ≡ b → list_any (λ top. C top x) tops ≡ true
        → (list_any f xs ≡ true → list_any g tops ≡ true) → (b || list_any f xs) ≡ true
        → list_any g tops ≡ true
    go true e here later h = any-weaker (λ top. C top x) g tops (λ top c. w top x c e) here
    go false e here later h = later h

pub none-over : (s : Path) (ps : List Path) → list_any (λ q. is_over s q && false) ps ≡ false
none-over s [] = refl
none-over s (q ∷ ps) = rw (and-false (is_over s q)) (none-over s ps)

over-parent : (k s : Path) → is_over k s ≡ true → nat_lt (length k) (length s) ≡ true
    → is_over k (parent s) ≡ true
over-parent [] s h l = refl
over-parent (n ∷ k) [] h l = absurd (no h)
over-parent (n ∷ k) (m ∷ []) h l =
    absurd (no (sym (too-long (length k)) ∙ l))
  where
    too-long : (a : ℕ) → nat_lt (suc a) 1 ≡ false
    too-long a = grind (arith, nat_tests)
over-parent (n ∷ k) (m ∷ o ∷ s) h l =
    let parts = and_parts (name_eq n m) (is_over k (o ∷ s)) h in
    and_from (name_eq n m) (is_over k (parent (o ∷ s))) parts.0
    (over-parent k (o ∷ s) parts.1 (shorter (length k) (length (o ∷ s)) l))
  where
    shorter : (a b : ℕ) → nat_lt (suc a) (suc b) ≡ true → nat_lt a b ≡ true
    shorter a b e = grind (arith, nat_tests)

covers-all : (top s p : Path) → covers_value top s ≡ true → lies_in s p ≡ true
    → is_over top p ≡ true
covers-all top s p c h = go (is_starred s) refl
  where
    parts : (is_over top s ≡ true) × ((not (is_starred s) || nat_lt (length top) (length s)) ≡ true)
    parts = and_parts (is_over top s) (not (is_starred s) || nat_lt (length top) (length s)) c

    at : (b : Bool) → is_starred s ≡ b
        → (if b then is_over (parent s) p && nat_le (length s) (length p) else is_over s p) ≡ true
    at b e = sym (λ i. if e i then is_over (parent s) p && nat_le (length s) (length p) else is_over s p) ∙ h

    go : (b : Bool) → is_starred s ≡ b → is_over top p ≡ true
    go true e =
        is_over-transitive top (parent s) p
        (over-parent top s parts.0 (sym (ap (λ b. not b || nat_lt (length top) (length s)) e) ∙ parts.1))
        (and_parts (is_over (parent s) p) (nat_le (length s) (length p)) (at true e)).0
    go false e = is_over-transitive top s p parts.0 (at false e)

-- Lines that spell some specifications: what these match for certain, the lines match, and what the
-- lines match, these may.
module _ (m : Matching) (known : IsMatching m) (q : Path) where
  lines-surely : (ls : List LineText) (ss : List Specification) → map line_spec ls ≡ map Some ss
      → any_surely ss q ≡ true → list_any (λ l. m l q) ls ≡ true
  lines-surely ls ss spell h =
      any-weaker (λ l. surely l q) (λ l. m l q) ls (λ l. known.least l q)
      (any-map (λ o. surely_by o q) line_spec ls ∙ ap (list_any (λ o. surely_by o q)) spell
      ∙ sym (any-map (λ o. surely_by o q) Some ss) ∙ h)

  lines-perhaps : (ls : List LineText) (ss : List Specification) → map line_spec ls ≡ map Some ss
      → list_any (λ l. m l q) ls ≡ true → any_perhaps ss q ≡ true
  lines-perhaps ls ss spell h =
      any-map (λ o. perhaps_by o q) Some ss ∙ sym (ap (list_any (λ o. perhaps_by o q)) spell)
      ∙ sym (any-map (λ o. perhaps_by o q) line_spec ls)
      ∙ any-weaker (λ l. m l q) (λ l. perhaps l q) ls (λ l. known.most l q) h

  line-surely : (l : LineText) (s : Specification) → line_spec l ≡ Some s → spec_surely s q ≡ true
      → m l q ≡ true
  line-surely l s spell h = known.least l q (ap (λ o. surely_by o q) spell ∙ h)

  -- Each line stands beside its bar.
  bars-surely : (test : Partial → Bool) (bs : List Partial) (ls : List LineText)
      → map line_spec ls ≡ map (λ b. Some b.spec) bs
      → list_any (λ b. test b && spec_surely b.spec q) bs ≡ true
      → list_any (λ (b : Partial × LineText). test b.0 && m b.1 q) (zip bs ls) ≡ true
  bars-surely test [] ls spell h = absurd (no h)
  bars-surely test (b ∷ bs) [] spell h = absurd (no (ap (list_any (λ o. true)) spell))
  bars-surely test (b ∷ bs) (l ∷ ls) spell h =
      go (test b && spec_surely b.spec q) refl (bars-surely test bs ls (ap (drop 1) spell)) h
    where
      one : line_spec l ≡ Some b.spec
      one = same_Some (line_spec l) (Some b.spec) (ap (λ os. slice_get os 0) spell)

      rest : Bool
      rest = list_any (λ (b : Partial × LineText). test b.0 && m b.1 q) (zip bs ls)

      go : (c : Bool) → (test b && spec_surely b.spec q) ≡ c
          → (list_any (λ b. test b && spec_surely b.spec q) bs ≡ true → rest ≡ true)
          → (c || list_any (λ b. test b && spec_surely b.spec q) bs) ≡ true
          → ((test b && m l q) || rest) ≡ true
      go true e later h =
          let parts = and_parts (test b) (spec_surely b.spec q) e in
          ap (λ c. c || rest)
          (and_from (test b) (m l q) parts.0 (line-surely l b.spec one parts.1))
      go false e later h = or_right (test b && m l q) rest (later h)

module _ (m : Matching) (W : Written) where
  reach-patterns : (ignore ignorenot : List Specification) (partial : List Partial)
      → ((q : Path) → (any_matches ignore q && not (any_matches ignorenot q)) ≡ true
      → ignores m W q ≡ true) → has_star W.parts ≡ false → (p : Path) → IsTrue (reach_by m W p)
      → IsTrue (reach (with_patterns W.parts ignore ignorenot partial) p)
  unfolding reach reach_by
  reach-patterns ignore ignorenot partial less plain p h =
      let C = with_patterns W.parts ignore ignorenot partial in
      let parts = and_parts (is_path p)
      (list_any (λ s. lies_in s p && opens m W (start s p) p) W.parts.paths) h in
      and_from (is_path p) (list_any (λ s. is_over s p && is_open C s p) W.parts.paths) parts.0
      (any-where (λ s. not (is_starred s)) (λ s. lies_in s p && opens m W (start s p) p)
      (λ s. is_over s p && is_open C s p) W.parts.paths (list_all-not is_starred W.parts.paths ∙ ap not plain)
      (λ s. kept s (is_starred s) refl) parts.1)
    where
      opened : (s : Path) → opens m W s p ≡ true
          → is_open (with_patterns W.parts ignore ignorenot partial) s p ≡ true
      opened s =
          not-weaker (list_any (λ q. is_over s q
          && (any_matches ignore q && not (any_matches ignorenot q))) (prefixes p))
          (list_any (λ q. is_over s q && ignores m W q) (prefixes p))
          (any-weaker (λ q. is_over s q && (any_matches ignore q && not (any_matches ignorenot q)))
          (λ q. is_over s q && ignores m W q) (prefixes p)
          (λ q e. let two = and_parts (is_over s q)
          (any_matches ignore q && not (any_matches ignorenot q)) e in
          and_from (is_over s q) (ignores m W q) two.0 (less q two.1)))

      kept : (s : Path) (b : Bool) → is_starred s ≡ b → not (is_starred s) ≡ true
          → (lies_in s p && opens m W (start s p) p) ≡ true
          → (is_over s p && is_open (with_patterns W.parts ignore ignorenot partial) s p) ≡ true
      kept s true e plain f = absurd (no (sym (ap not e) ∙ plain))
      kept s false e plain f =
          let in_place : (is_over s p && opens m W s p) ≡ true =
          sym (λ i. (if e i then is_over (parent s) p && nat_le (length s) (length p) else is_over s p)
          && opens m W (if e i then take (length s) p else s) p) ∙ f in
          let two = and_parts (is_over s p) (opens m W s p) in_place in
          and_from (is_over s p) (is_open (with_patterns W.parts ignore ignorenot partial) s p) two.0
          (opened s two.1)

  -- With other kept values and nothing ignored.
  reach-tops : (tops : List Path) (partial : List Partial) → cover tops W.parts.paths ≡ true → (p : Path)
      → IsTrue (reach_by m W p) → IsTrue (reach (with_tops W.parts tops partial) p)
  unfolding reach reach_by
  reach-tops tops partial all p h =
      let parts = and_parts (is_path p)
      (list_any (λ s. lies_in s p && opens m W (start s p) p) W.parts.paths) h in
      and_from (is_path p)
      (list_any (λ s. is_over s p && is_open (with_tops W.parts tops partial) s p) tops) parts.0
      (any-through covers_value (λ s. lies_in s p && opens m W (start s p) p)
      (λ s. is_over s p && is_open (with_tops W.parts tops partial) s p) tops W.parts.paths all
      (λ top s c e. and_from (is_over top p) (is_open (with_tops W.parts tops partial) top p)
      (covers-all top s p c (and_parts (lies_in s p) (opens m W (start s p) p) e).0)
      (ap not (none-over top (prefixes p)))) parts.1)

module _ (m : Matching) (known : IsMatching m) (W : Written) (written : IsWrittenAs W W.parts) where
  -- What the new lines ignore, the old ones ignore.
  ignored-by : (ignore ignorenot : List Specification) → IgnoresLess W.parts.ignore ignore ignorenot
      → SparesMore W.parts.ignorenot ignorenot
      → (q : Path) → (any_matches ignore q && not (any_matches ignorenot q)) ≡ true
      → ignores m W q ≡ true
  ignored-by ignore ignorenot less more q h =
      let parts = and_parts (any_matches ignore q) (not (any_matches ignorenot q)) h in
      and_from (list_any (λ l. m l q) W.ignore) (not (list_any (λ l. m l q) W.ignorenot))
      (lines-surely m known q W.ignore W.parts.ignore written.ignore
      (left-part (any_surely W.parts.ignore q) (any_matches ignorenot q) (less q parts.0) parts.1))
      (not-weaker (list_any (λ l. m l q) W.ignorenot) (any_matches ignorenot q)
      (λ e. more q (lines-perhaps m known q W.ignorenot W.parts.ignorenot written.ignorenot e)) parts.1)

  -- What changes are made.
  may-more : (partial : List Partial) → BarsLess W.parts.partial partial → (r p : Path) (verb : Verb)
      → may_by m W r p verb ≡ true
      → (may W.parts r verb && not (list_any (λ b. (is_root_at W.parts r b.side && covers verb b.bars)
      && matches b.spec p) partial)) ≡ true
  may-more partial less r p verb h =
      let parts = and_parts (may W.parts r verb) (not (some_bars m W r p verb)) h in
      and_from (may W.parts r verb) (not (list_any (λ b. (is_root_at W.parts r b.side && covers verb b.bars)
      && matches b.spec p) partial)) parts.0
      (not-weaker (list_any (λ b. (is_root_at W.parts r b.side && covers verb b.bars)
      && matches b.spec p) partial) (some_bars m W r p verb)
      (λ e. bars-surely m known p (λ b. is_root_at W.parts r b.side && covers verb b.bars)
      W.parts.partial W.partial written.partial
      (less (λ side bars. is_root_at W.parts r side && covers verb bars) p e)) parts.1)

  writes-more : (C : Parts) (partial : List Partial) → BarsLess W.parts.partial partial
      → C ≡ record C { roots = W.parts.roots; force = W.parts.force; bars = W.parts.bars; partial = partial }
      → (r p : Path) → writes_by m W r p ≡ true → writes_at C r p ≡ true
  writes-more C partial less e r p h =
      let parts = and_parts (has_root W.parts r)
      ((may_by m W r p Create || may_by m W r p Update) || may_by m W r p Delete) h in
      subst (λ D. writes_at D r p ≡ true) (sym e)
      (and_from (has_root W.parts r)
      ((may_at D r p Create || may_at D r p Update) || may_at D r p Delete) parts.0
      (three-weaker (may_by m W r p Create) (may_by m W r p Update) (may_by m W r p Delete)
      (may_at D r p Create) (may_at D r p Update) (may_at D r p Delete)
      (may-more partial less r p Create) (may-more partial less r p Update)
      (may-more partial less r p Delete) parts.1))
    where
      D : Parts
      D = record C { roots = W.parts.roots; force = W.parts.force; bars = W.parts.bars; partial = partial }

-- With other kept values and nothing ignored.
pub tops-reach : (m : Matching) (W : Written) (tops : List Path)
    (partial : List Partial) → cover tops W.parts.paths ≡ true → (p : Path) → IsTrue (reach_by m W p)
    → IsTrue (reach (with_tops W.parts tops partial) p)
tops-reach = reach-tops

abbrev pub IgnoresNoMore : Written → List Specification → List Specification → Type 0
IgnoresNoMore W ignore ignorenot =
    (m : Matching) → IsMatching m → (q : Path)
    → (any_matches ignore q && not (any_matches ignorenot q)) ≡ true → ignores m W q ≡ true

patterns-cautious : (W : Written) → IsWrittenAs W W.parts → (ignore ignorenot : List Specification) (partial : List Partial)
    → has_star W.parts ≡ false → IgnoresNoMore W ignore ignorenot → BarsLess W.parts.partial partial
    → IsCautious W (with_patterns W.parts ignore ignorenot partial)
patterns-cautious W written ignore ignorenot partial plain less bars = record {
  name = refl;
  roots = refl;
  reach = λ m known. reach-patterns m W ignore ignorenot partial (less m known) plain;
  write = λ m known r p h.
      let C = with_patterns W.parts ignore ignorenot partial in
      let parts = and_parts (writes_by m W r p) (reach_by m W p) h in
      and_from (writes_at C r p) (reach C p) (writes-more m known W written C partial bars refl r p parts.0)
      (reach-patterns m W ignore ignorenot partial (less m known) plain p parts.1);
}

-- With lines that ignore less and spare more.
pub lines-cautious : (W : Written) → IsWrittenAs W W.parts → (ignore ignorenot : List Specification) (partial : List Partial)
    → has_star W.parts ≡ false → IgnoresLess W.parts.ignore ignore ignorenot → SparesMore W.parts.ignorenot ignorenot
    → BarsLess W.parts.partial partial → IsCautious W (with_patterns W.parts ignore ignorenot partial)
lines-cautious W written ignore ignorenot partial plain less more bars =
    patterns-cautious W written ignore ignorenot partial plain
    (λ m known. ignored-by m known W written ignore ignorenot less more) bars

-- With no lines.
pub none-cautious : (W : Written) → IsWrittenAs W W.parts → (partial : List Partial) → has_star W.parts ≡ false
    → BarsLess W.parts.partial partial → IsCautious W (with_patterns W.parts [] [] partial)
none-cautious W written partial plain bars =
    patterns-cautious W written [] [] partial plain (λ m known q h. absurd (no h)) bars

-- With other kept values.
pub tops-cautious : (W : Written) → IsWrittenAs W W.parts → (tops : List Path) (partial : List Partial)
    → cover tops W.parts.paths ≡ true → BarsLess W.parts.partial partial → IsCautious W (with_tops W.parts tops partial)
tops-cautious W written tops partial all bars = record {
  name = refl;
  roots = refl;
  reach = λ m known. reach-tops m W tops partial all;
  write = λ m known r p h.
      let C = with_tops W.parts tops partial in
      let parts = and_parts (writes_by m W r p) (reach_by m W p) h in
      and_from (writes_at C r p) (reach C p) (writes-more m known W written C partial bars refl r p parts.0)
      (reach-tops m W tops partial all p parts.1);
}

-- What clashes in Unison, clashes in the cautious readings, if these have not the same two roots.
at-root : (W : Written) (C : Parts) → IsCautious W C → (r : Path) → IsTrue (has_root W.parts r)
    → IsTrue (has_root C r)
at-root W C c r h =
    subst (λ (rs : List Path). IsTrue (list_any (λ s. path_eq s r) rs)) (sym c.roots) h

same-archive : (V W : Written) (C D : Parts) → IsCautious V C → IsCautious W D
    → IsTrue (share_archive V.parts W.parts) → IsTrue (share_archive C D)
same-archive V W C D c d h =
    subst (λ (rs : List Path). IsTrue (list_all (has_root D) rs)) (sym c.roots)
    (subst (λ (rs : List Path). IsTrue (list_all (λ r. list_any (λ s. path_eq s r) rs) V.parts.roots))
    (sym d.roots) h)

clash-cautious : (m n : Matching) → IsMatching m → IsMatching n → (V W : Written) (C D : Parts)
    → IsCautious V C → IsCautious W D → share_archive C D ≡ false → UnisonClash m n V W → Clash C D
clash-cautious m n known also V W C D c d apart (inl at) =
    inl (
      at.0,
      at-root V C c at.0 at.1,
      at-root W D d at.0 at.2,
      (
        at.3.0,
        at.3.1,
        at.3.2,
        c.write m known at.0 at.3.0 at.3.3,
        d.reach n also at.3.1 at.3.4,
      ),
    )
clash-cautious m n known also V W C D c d apart (inr both) =
    absurd (no (sym apart ∙ same-archive V W C D c d both))

at-left : (xs ys : List Path) (i : ℕ) (x : Path) → slice_get xs i ≡ Some x
    → slice_get (xs ++ ys) i ≡ Some x
at-left [] ys i x at = absurd (none-some x at)
at-left (y ∷ xs) ys zero x at = at
at-left (y ∷ xs) ys (suc i) x at = at-left xs ys i x at

-- The readings of some profiles have the same roots.
pub roots-read : (Ws : List Written) (Cs : List Parts) → length Cs ≡ length Ws
    → ((i : ℕ) (W : Written) → slice_get Ws i ≡ Some W
    → (C : Parts) × (slice_get Cs i ≡ Some C) × (C.roots ≡ W.parts.roots))
    → written_roots Ws ≡ flat_map (λ C. C.roots) Cs
roots-read [] [] e each = refl
roots-read [] (C ∷ Cs) e each = absurd (omega (arith, e))
roots-read (W ∷ Ws) [] e each = absurd (omega (arith, e))
roots-read (W ∷ Ws) (C ∷ Cs) e each =
    let first = each 0 W refl in
    let same : C ≡ first.0 = same_Some C first.0 first.1 in
    let roots : W.parts.roots ≡ C.roots = sym (ap (λ (D : Parts). D.roots) same ∙ first.2) in
    λ i. roots i ++ roots-read Ws Cs (omega (arith, e)) (λ k V at. each (suc k) V at) i

pub safe_in_unison : (Ws : List Written) (Cs : List Parts) (Rs : List Rule) → AreCautious Ws Cs
    → IsSafe Cs Rs → ShareNoArchive Cs → IsSafeInUnison Ws
safe_in_unison Ws Cs Rs cautious safe archives = record {
  apart = λ i j r s at_i at_j over. safe.apart i j r s (root-at i r at_i) (root-at j s at_j) over;
  no_clash = λ m n known also i j V W at_i at_j other clash.
      let c = cautious.each i V at_i in
      let d = cautious.each j W at_j in
      safe.no_clash i j c.0 d.0 c.1 d.1 other
      (clash-cautious m n known also V W c.0 d.0 c.2 d.2
      (archives i j c.0 d.0 c.1 d.1 other) clash);
}
  where
    roots : written_roots Ws ≡ flat_map (λ C. C.roots) Cs
    roots =
        roots-read Ws Cs cautious.count
        (λ i W at. let c = cautious.each i W at in (c.0, c.1, c.2.roots))

    root-at : (i : ℕ) (r : Path) → slice_get (written_roots Ws) i ≡ Some r
        → slice_get (all_roots Cs Rs) i ≡ Some r
    root-at i r at =
        at-left (flat_map (λ C. C.roots) Cs) (map (λ R. R.root) Rs) i r
        (sym (ap (λ rs. slice_get rs i) roots) ∙ at)

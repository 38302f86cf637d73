-- What the folded lines reach and write.
use Rattle.std.proofs.Common.{◌≡◌, Bool, true, false, not, ◌&&◌, ◌||◌, List, [], ◌∷◌, map, drop, cond, refl, sym, ap, ◌∙◌, subst, Some}
use Rattle.std.specs.Prelude.{if◌then◌else◌}
use Rattle.std.specs.List.{list_any, list_all, filter, zip}
use Rattle.std.proofs.lemmas.Bool.{and_parts, and_from, or_right}
use Rattle.hub_text.specs.laws.Test.{any-weaker, any-map, not-weaker}
use Rattle.hub_path.specs.Path.{Path, is_over, is_path, prefixes}
use Rattle.hub_path.specs.laws.General.{is_over-transitive}
use Rattle.hub_profile.specs.Parts.{has_root, is_root_at, some_passes}
use Rattle.hub_profile.specs.declared.partial.Partial.{Partial}
use Rattle.hub_profile.specs.declared.verb.Verb.{Verb}
use Rattle.hub_profile.specs.declared.verb.Verb.TheVariants.{Create, Update, Delete}
use Rattle.hub_reach.specs.Reach.{covers, may}
use Rattle.hub_unison.specs.Lines.{LineText, line_spec}
use Rattle.hub_unison.specs.Matching.{Matching}
use Rattle.hub_unison.specs.Rules.{may_item}
use Rattle.hub_unison.specs.UnisonReach.{lies_in, start, ignores, opens, reach_by, some_bars, may_by, writes_by, write_by}
use Rattle.hub_unison.specs.Written.{IsWrittenAs, Written}
use Rattle.hub_unison.specs.laws.Cautious.{three-weaker, none-over}
use Rattle.hub_folded.specs.Fold.{Folding, fold_path, knows_path}
use Rattle.hub_folded.specs.Lines.{fold_bar, folded_bars, folded_paths, folded_tops, keeps_values, knows_line, may_ignore, top_of}
use Rattle.hub_folded.specs.InUnison.{IsNormOf, Lined, Norm, is_path_up_to, may_at, norm_path, normed, reach_at, write_at}
use Rattle.hub_folded.proofs.Paths.{any-gives, any-kept, known-path, map-where, no, or-both, over-lies, tops-over, top-normed, top-plain}
use Rattle.hub_folded.proofs.Spelled.{first-spelled, folded_written, knows_text, lined_written, none-left, none-more, spread_written}

-- What opens a path, if less is ignored.
opens-more : (m : Matching) (U C : Written)
    → ((q : Path) → ignores m C q ≡ true → ignores m U q ≡ true)
    → (s q : Path) → opens m U s q ≡ true → opens m C s q ≡ true
opens-more m U C less s q =
    not-weaker (list_any (λ o. is_over s o && ignores m C o) (prefixes q))
    (list_any (λ o. is_over s o && ignores m U o) (prefixes q))
    (any-weaker (λ o. is_over s o && ignores m C o) (λ o. is_over s o && ignores m U o) (prefixes q)
    (λ o e. let parts = and_parts (is_over s o) (ignores m C o) e in
    and_from (is_over s o) (ignores m U o) parts.0 (less o parts.1)))

-- With the same kept values, where less is ignored.
reach-more : (m : Matching) (U C : Written) → C.parts.paths ≡ U.parts.paths
    → ((q : Path) → ignores m C q ≡ true → ignores m U q ≡ true) → (q : Path)
    → reach_by m U q ≡ true → reach_by m C q ≡ true
unfolding reach_by
reach-more m U C e less q h =
    let parts = and_parts (is_path q)
    (list_any (λ s. lies_in s q && opens m U (start s q) q) U.parts.paths) h in
    and_from (is_path q) (list_any (λ s. lies_in s q && opens m C (start s q) q) C.parts.paths)
    parts.0
    (subst (λ (ps : List Path). list_any (λ s. lies_in s q && opens m C (start s q) q) ps ≡ true)
    (sym e)
    (any-weaker (λ s. lies_in s q && opens m U (start s q) q)
    (λ s. lies_in s q && opens m C (start s q) q) U.parts.paths
    (λ s f. let two = and_parts (lies_in s q) (opens m U (start s q) q) f in
    and_from (lies_in s q) (opens m C (start s q) q) two.0
    (opens-more m U C less (start s q) q two.1)) parts.1))

-- With the tops of some kept values, and nothing ignored.
module _ (F : Folding) (paths : List Path) (C : Written) (tops : C.parts.paths ≡ folded_tops F paths)
    (m : Matching) (nothing : (q : Path) → ignores m C q ≡ false) where
  top-opens : (top q : Path) → is_over top q ≡ true
      → (lies_in top q && opens m C (start top q) q) ≡ true
  top-opens top q h =
      and_from (lies_in top q) (opens m C (start top q) q) (over-lies top q h)
      (not-weaker (list_any (λ o. is_over (start top q) o && ignores m C o) (prefixes q)) false
      (λ e. sym (none-over (start top q) (prefixes q))
      ∙ any-weaker (λ o. is_over (start top q) o && ignores m C o)
      (λ o. is_over (start top q) o && false) (prefixes q)
      (λ o f. let two = and_parts (is_over (start top q) o) (ignores m C o) f in
      no (sym (nothing o) ∙ two.1)) e) refl)

  reach-tops : (f : Path → Bool) (q : Path)
      → ((s : Path) → f s ≡ true → is_over (top_of F s) q ≡ true) → is_path q ≡ true
      → list_any f paths ≡ true → reach_by m C q ≡ true
  unfolding reach_by
  reach-tops f q puts path some =
      and_from (is_path q) (list_any (λ s. lies_in s q && opens m C (start s q) q) C.parts.paths) path
      (subst (λ (ps : List Path). list_any (λ s. lies_in s q && opens m C (start s q) q) ps ≡ true)
      (sym tops)
      (any-gives (λ s. list_any (λ top. is_over top (top_of F s)) (folded_tops F paths)) f
      (list_any (λ s. lies_in s q && opens m C (start s q) q) (folded_tops F paths)) paths
      (tops-over F paths)
      (λ s has e. any-weaker (λ top. is_over top (top_of F s))
      (λ s. lies_in s q && opens m C (start s q) q) (folded_tops F paths)
      (λ top o. top-opens top q (is_over-transitive top (top_of F s) q o (puts s e))) has) some))

module _ (F : Folding) (N : Norm) (is : IsNormOf F N) (m : Matching) (W : Written) where
  -- The folded lines ignore less.
  lines-ignore : (b : Bool) (q : Path)
      → (list_any (λ l. m l q) (if b then map N.line (filter (knows_text F) W.ignore) else [])
      && not (list_any (λ l. m l q) (if b then map N.line W.ignorenot else []))) ≡ true
      → ignores m (normed N W) q ≡ true
  lines-ignore true q h =
      let parts = and_parts (list_any (λ l. m l q) (map N.line (filter (knows_text F) W.ignore)))
      (not (list_any (λ l. m l q) (map N.line W.ignorenot))) h in
      and_from (list_any (λ l. m l q) (map N.line W.ignore))
      (not (list_any (λ l. m l q) (map N.line W.ignorenot)))
      (any-kept (knows_text F) N.line (λ l. m l q) W.ignore parts.0) parts.1
  lines-ignore false q h = no h

  ignores-less : (q : Path) → ignores m (folded_written F N W) q ≡ true
      → ignores m (normed N W) q ≡ true
  ignores-less q h = lines-ignore (may_ignore F W.parts) q h

  paths-same : keeps_values F W.parts.paths ≡ true
      → folded_paths F W.parts.paths ≡ map (norm_path N) W.parts.paths
  paths-same keeps =
      (λ i. if keeps i then map (fold_path F) W.parts.paths else folded_tops F W.parts.paths)
      ∙ sym (map-where (knows_path F) (norm_path N) (fold_path F) (known-path F N is) W.parts.paths
      (and_parts (list_all (knows_path F) W.parts.paths) _ keeps).0)

  nothing-ignored : (a b : Bool) → a ≡ false → (q : Path)
      → (list_any (λ l. m l q) (if a && b then map N.line (filter (knows_text F) W.ignore) else [])
      && not (list_any (λ l. m l q) (if a && b then map N.line W.ignorenot else []))) ≡ false
  nothing-ignored true b e q = no (sym e)
  nothing-ignored false b e q = refl

  folded-reach : (q : Path) → reach_by m (normed N W) q ≡ true
      → reach_by m (folded_written F N W) q ≡ true
  unfolding reach_by
  folded-reach q h = go (keeps_values F W.parts.paths) refl
    where
      some : (is_path q ≡ true)
          × (list_any (λ s. lies_in s q && opens m (normed N W) (start s q) q) (map (norm_path N) W.parts.paths) ≡ true)
      some =
          and_parts (is_path q)
          (list_any (λ s. lies_in s q && opens m (normed N W) (start s q) q) (map (norm_path N) W.parts.paths)) h

      go : (a : Bool) → keeps_values F W.parts.paths ≡ a
          → reach_by m (folded_written F N W) q ≡ true
      go true keeps =
          reach-more m (normed N W) (folded_written F N W) (paths-same keeps) ignores-less q h
      go false keeps =
          reach-tops F W.parts.paths (folded_written F N W)
          (λ i. if keeps i then map (fold_path F) W.parts.paths else folded_tops F W.parts.paths) m
          (nothing-ignored (keeps_values F W.parts.paths)
          (list_all (knows_line F) W.parts.ignorenot) keeps)
          (λ s. lies_in (norm_path N s) q && opens m (normed N W) (start (norm_path N s) q) q) q
          (λ s e. top-normed F N is s q
          (and_parts (lies_in (norm_path N s) q)
          (opens m (normed N W) (start (norm_path N s) q) q) e).0)
          some.0
          (any-map (λ s. lies_in s q && opens m (normed N W) (start s q) q) (norm_path N) W.parts.paths
          ∙ some.1)

  spread-reach : (p : Path) → is_path (norm_path N p) ≡ true → reach_by m W p ≡ true
      → reach_by m (spread_written F W) (norm_path N p) ≡ true
  unfolding reach_by
  spread-reach p path h =
      reach-tops F W.parts.paths (spread_written F W) refl m (λ q. refl)
      (λ s. lies_in s p && opens m W (start s p) p) (norm_path N p)
      (λ s e. top-plain F N is s p (and_parts (lies_in s p) (opens m W (start s p) p) e).0) path
      (and_parts (is_path p)
      (list_any (λ s. lies_in s p && opens m W (start s p) p) W.parts.paths) h).1

-- Bars. What the known ones forbid, all do.
module _ (F : Folding) (N : Norm) (test : Partial → Bool) (m : Matching) (q : Path)
    (alike : (b : Partial) → test (fold_bar F b) ≡ test b) where
  abbrev Bars : List Partial → List LineText → Bool
  Bars bs ls = list_any (λ (b : Partial × LineText). test b.0 && m b.1 q) (zip bs ls)

  bars-fewer : (bs : List Partial) (ls : List LineText)
      → map line_spec ls ≡ map (λ (b : Partial). Some b.spec) bs
      → Bars (folded_bars F bs) (map N.line (filter (knows_text F) ls)) ≡ true
      → Bars bs (map N.line ls) ≡ true
  bars-fewer [] [] e h = h
  bars-fewer [] (l ∷ ls) e h = absurd (none-left (λ (b : Partial). b.spec) l ls e)
  bars-fewer (b ∷ bs) [] e h = absurd (none-more (λ (b : Partial). b.spec) b bs e)
  bars-fewer (b ∷ bs) (l ∷ ls) e h =
      go (knows_line F b.spec) (knows_text F l) same (bars-fewer bs ls (ap (drop 1) e)) h
    where
      same : knows_text F l ≡ knows_line F b.spec
      same =
          ap (some_passes (knows_line F)) (first-spelled (λ (b : Partial). b.spec) l ls b bs e)

      kept : List Partial
      kept = filter (λ (b : Partial). knows_line F b.spec) bs

      texts : List LineText
      texts = filter (knows_text F) ls

      go : (c d : Bool) → d ≡ c
          → (Bars (map (fold_bar F) kept) (map N.line texts) ≡ true → Bars bs (map N.line ls) ≡ true)
          → Bars (map (fold_bar F) (cond c (b ∷ kept) kept)) (map N.line (cond d (l ∷ texts) texts))
          ≡ true
          → ((test b && m (N.line l) q) || Bars bs (map N.line ls)) ≡ true
      go true true i rest h =
          or-both (test (fold_bar F b) && m (N.line l) q)
          (Bars (map (fold_bar F) kept) (map N.line texts)) (test b && m (N.line l) q)
          (Bars bs (map N.line ls))
          (λ k. ap (λ t. t && m (N.line l) q) (sym (alike b)) ∙ k) rest h
      go false false i rest h = or_right (test b && m (N.line l) q) (Bars bs (map N.line ls)) (rest h)
      go true false i rest h = no i
      go false true i rest h = no (sym i)

-- Changes.
module _ (F : Folding) (N : Norm) (m : Matching) (W : Written) (by : IsWrittenAs W W.parts) where
  may-folded : (r q : Path) (v : Verb) → may_by m (normed N W) r q v ≡ true
      → may_by m (folded_written F N W) r q v ≡ true
  may-folded r q v h =
      let parts = and_parts (may W.parts r v) (not (some_bars m (normed N W) r q v)) h in
      and_from (may W.parts r v) (not (some_bars m (folded_written F N W) r q v)) parts.0
      (not-weaker (some_bars m (folded_written F N W) r q v) (some_bars m (normed N W) r q v)
      (bars-fewer F N (λ b. is_root_at W.parts r b.side && covers v b.bars) m q (λ b. refl)
      W.parts.partial W.partial by.partial) parts.1)

  may-spread : (r p q : Path) (v : Verb) → may_by m W r p v ≡ true
      → may_by m (spread_written F W) r q v ≡ true
  may-spread r p q v h =
      and_from (may W.parts r v) true (and_parts (may W.parts r v) (not (some_bars m W r p v)) h).0
      refl

item-more : (m : Matching) (U C : Written) (r q p : Path)
    → ((v : Verb) → may_by m U r q v ≡ true → may_by m C r p v ≡ true) → (v : Verb)
    → may_item m U r q v ≡ true → may_item m C r p v ≡ true
item-more m U C r q p more Create =
    or-both (may_by m U r q Create) (may_by m U r q Update) (may_by m C r p Create)
    (may_by m C r p Update) (more Create) (more Update)
item-more m U C r q p more Update = more Update
item-more m U C r q p more Delete = more Delete

writes-more : (m : Matching) (U C : Written) (r q p : Path)
    → (has_root U.parts r ≡ true → has_root C.parts r ≡ true)
    → ((v : Verb) → may_by m U r q v ≡ true → may_by m C r p v ≡ true) → writes_by m U r q ≡ true
    → writes_by m C r p ≡ true
writes-more m U C r q p root more h =
    let parts = and_parts (has_root U.parts r)
    ((may_by m U r q Create || may_by m U r q Update) || may_by m U r q Delete) h in
    and_from (has_root C.parts r)
    ((may_by m C r p Create || may_by m C r p Update) || may_by m C r p Delete) (root parts.0)
    (three-weaker (may_by m U r q Create) (may_by m U r q Update) (may_by m U r q Delete)
    (may_by m C r p Create) (may_by m C r p Update) (may_by m C r p Delete) (more Create) (more Update)
    (more Delete) parts.1)

write-more : (m : Matching) (U C : Written) (r q p : Path)
    → (has_root U.parts r ≡ true → has_root C.parts r ≡ true)
    → ((v : Verb) → may_by m U r q v ≡ true → may_by m C r p v ≡ true)
    → (reach_by m U q ≡ true → reach_by m C p ≡ true) → write_by m U r q ≡ true
    → write_by m C r p ≡ true
write-more m U C r q p root more reached h =
    let parts = and_parts (writes_by m U r q) (reach_by m U q) h in
    and_from (writes_by m C r p) (reach_by m C p) (writes-more m U C r q p root more parts.0)
    (reached parts.1)

-- What Unison reaches, writes and may do at a path, the folded lines do at the folded path.
module _ (F : Folding) (N : Norm) (is : IsNormOf F N) (m : Matching) where
  pub lined-reach : (V : Lined) (p : Path) → reach_at N m V p ≡ true
      → reach_by m (lined_written F N V) (norm_path N p) ≡ true
  lined-reach V p h = go V.folds V.written h
    where
      go : (b : Bool) (W : Written)
          → (is_path_up_to N p
          && (if b then reach_by m (normed N W) (norm_path N p) else reach_by m W p)) ≡ true
          → reach_by m (if b then folded_written F N W else spread_written F W) (norm_path N p) ≡ true
      go true W h =
          folded-reach F N is m W (norm_path N p)
          (and_parts (is_path_up_to N p) (reach_by m (normed N W) (norm_path N p)) h).1
      go false W h =
          let parts = and_parts (is_path_up_to N p) (reach_by m W p) h in
          spread-reach F N is m W p (and_parts (is_path p) (is_path (norm_path N p)) parts.0).1 parts.1

  pub lined-may : (V : Lined) → IsWrittenAs V.written V.written.parts → (r p : Path) (v : Verb)
      → may_at N m V r p v ≡ true → may_item m (lined_written F N V) r (norm_path N p) v ≡ true
  lined-may V by r p v h = go V.folds V.written by h
    where
      go : (b : Bool) (W : Written) → IsWrittenAs W W.parts
          → (if b then may_item m (normed N W) r (norm_path N p) v else may_item m W r p v) ≡ true
          → may_item m (if b then folded_written F N W else spread_written F W) r (norm_path N p) v ≡ true
      go true W by h =
          item-more m (normed N W) (folded_written F N W) r (norm_path N p) (norm_path N p)
          (may-folded F N m W by r (norm_path N p)) v h
      go false W by h =
          item-more m W (spread_written F W) r p (norm_path N p)
          (may-spread F N m W by r p (norm_path N p)) v h

  pub lined-write : (V : Lined) → IsWrittenAs V.written V.written.parts → (r p : Path)
      → write_at N m V r p ≡ true → write_by m (lined_written F N V) r (norm_path N p) ≡ true
  lined-write V by r p h = go V.folds V.written by h
    where
      go : (b : Bool) (W : Written) → IsWrittenAs W W.parts
          → (is_path_up_to N p
          && (if b then write_by m (normed N W) r (norm_path N p) else write_by m W r p)) ≡ true
          → write_by m (if b then folded_written F N W else spread_written F W) r (norm_path N p) ≡ true
      go true W by h =
          write-more m (normed N W) (folded_written F N W) r (norm_path N p) (norm_path N p) (λ e. e)
          (may-folded F N m W by r (norm_path N p)) (folded-reach F N is m W (norm_path N p))
          (and_parts (is_path_up_to N p) (write_by m (normed N W) r (norm_path N p)) h).1
      go false W by h =
          let parts = and_parts (is_path_up_to N p) (write_by m W r p) h in
          write-more m W (spread_written F W) r p (norm_path N p) (λ e. e)
          (may-spread F N m W by r p (norm_path N p))
          (spread-reach F N is m W p (and_parts (is_path p) (is_path (norm_path N p)) parts.0).1) parts.1

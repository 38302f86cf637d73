-- The readings of profiles are cautious, and are the profiles themselves where all is read alike.
use Rattle.std.proofs.Common.{◌≡◌, ◌==◌, ℕ, suc, Bool, true, false, not, ◌&&◌, ◌||◌, List, [], ◌∷◌, ◌++◌, cond, length, map, refl, sym, ap, ◌∙◌, arith, append-nil, subst}
use Rattle.std.specs.Prelude.{nat_lt, if◌then◌else◌, option_map}
use Rattle.std.specs.List.{list_any, list_all, filter, flat_map}
use Rattle.std.proofs.lemmas.Bool.{and_parts, and_from, or_right}
use Rattle.std.proofs.lemmas.Bool.Decides.{nat_tests}
use Rattle.std.proofs.lemmas.List.{length-map}
use Rattle.std.proofs.lemmas.Option.{slice_get-map}
use Rattle.hub_text.specs.laws.Test.{any-append, any-map}
use Rattle.hub_path.specs.Path.{Path}
use Rattle.hub_glob.specs.Glob.{choices, matches, by_kind, glob, no_more, pieces, any_matches}
use Rattle.hub_glob.specs.Specification.{Specification}
use Rattle.hub_profile.specs.declared.partial.Partial.{Partial}
use Rattle.hub_profile.specs.declared.rule.Rule.{Rule}
use Rattle.hub_profile.specs.Facts.{are_kept}
use Rattle.hub_unison.specs.declared.kept.Kept.{Kept}
use Rattle.hub_unison.specs.declared.kept.Kept.TheVariants.{Nothing, Cut, Alone, Sparing}
use Rattle.hub_profile.specs.Parts.{Parts}
use Rattle.hub_unison.specs.Cautious.{any_surely, cover, covers_value, has_star, with_patterns, with_tops, IgnoresLess, SparesMore, BarsLess}
use Rattle.hub_unison.specs.laws.Cautious.{lines-cautious, none-cautious, tops-cautious, no}
use Rattle.hub_unison.specs.Kept.{own_lines, spare_lines}
use Rattle.hub_unison.specs.Matching.{all_simple, all_known, spec_perhaps, starred, spec_surely, widened}
use Rattle.hub_unison.specs.laws.Piece.{all-weaker, any-where}
use Rattle.hub_unison.specs.ReadingOf.{braced, each_kept, is_among, is_owned, line_kept, needed, owns, are_tops, bar_stays, cautious_of, cut_value, has_spares, is_read_alike, is_read_back, kept_bars, line_stays, reading_of, spare_of, spare_stays, top_values, topmost, with_kept}
use Rattle.hub_unison.specs.Rules.{AreReadForUnison, IsReadingOf, for_rules}
use Rattle.hub_unison.specs.laws.Rules.{cautious-read, rules-read}
use Rattle.hub_unison.specs.laws.Spare.{all-known, plain-matches, spared-matches}
use Rattle.hub_unison.specs.laws.Pattern.{brace-choices, by_kind-of, known-perhaps, of_kind-weaker}
use Rattle.hub_glob.specs.laws.Choice.{glob_choices}
use Rattle.hub_glob.specs.contracts.path_spec.PathSpecPartialEq.TheImpl as tested
use Rattle.hub_glob.specs.contracts.path_spec.PathSpecExact.TheImpl.Laws as tested_laws
use Rattle.hub_unison.specs.Spares.{is_plain, pattern_spares}
use Rattle.hub_unison.specs.UnisonReach.{IsCautious, is_starred}
use Rattle.hub_unison.specs.Written.{AreWrittenAs, IsWrittenAs, Written}

-- Tests.
or-cases : (a b c : Bool) → (a || b) ≡ true → (a ≡ true → c ≡ true) → (b ≡ true → c ≡ true)
    → c ≡ true
or-cases true b c h left right = left refl
or-cases false b c h left right = right h

not-false : (b : Bool) → not b ≡ false → b ≡ true
not-false true h = refl
not-false false h = sym h

not-true : (b : Bool) → not b ≡ true → b ≡ false
not-true true h = sym h
not-true false h = refl

module _ {X : Type 0} where
  -- What passes among the items that a test leaves.
  any-filter : (p f g : X → Bool) (xs : List X)
      → ((x : X) → p x ≡ true → f x ≡ true → g x ≡ true) → list_any f (filter p xs) ≡ true
      → list_any g xs ≡ true
  any-filter p f g [] w h = absurd (no h)
  any-filter p f g (x ∷ xs) w h = go (p x) refl (any-filter p f g xs w) h
    where
      go : (b : Bool) → p x ≡ b → (list_any f (filter p xs) ≡ true → list_any g xs ≡ true)
          → list_any f (cond b (x ∷ filter p xs) (filter p xs)) ≡ true
          → (g x || list_any g xs) ≡ true
      go true e rest h =
          or-cases (f x) (list_any f (filter p xs)) (g x || list_any g xs) h
          (λ k. ap (λ b. b || list_any g xs) (w x e k)) (λ k. or_right (g x) (list_any g xs) (rest k))
      go false e rest h = or_right (g x) (list_any g xs) (rest h)

  all-left : (p : X → Bool) (xs : List X) → list_all p xs ≡ true → filter p xs ≡ xs
  all-left p [] h = refl
  all-left p (x ∷ xs) h =
      let parts = and_parts (p x) (list_all p xs) h in
      (λ i. cond (parts.0 i) (x ∷ all-left p xs parts.1 i) (all-left p xs parts.1 i))

-- The `ignore` lines that stay.
stays-simple : (s : Specification) → line_stays s ≡ true → all_simple s.pattern ≡ true
stays-simple s h =
    (and_parts (is_read_back s) (all_simple s.pattern)
    (and_parts (is_read_back s && all_simple s.pattern)
    (not (has_spares s) || is_read_back (spare_of s)) h).0).1

alone-sure : (s : Specification) (q : Path) → line_stays s ≡ true → has_spares s ≡ false
    → matches s q ≡ true → spec_surely s q ≡ true
alone-sure s q stays none m =
    plain-matches s q
    (and_from (all_simple s.pattern) (length (pattern_spares s.pattern) == 0) (stays-simple s stays)
    (not-false (length (pattern_spares s.pattern) == 0) none)) m

sparing-sure : (s : Specification) (q : Path) → line_stays s ≡ true → matches s q ≡ true
    → (spec_surely s q || matches (spare_of s) q) ≡ true
sparing-sure s q stays m =
    spared-matches s (spare_of s) q (stays-simple s stays)
    (record { kind = refl; choices = brace-choices (pattern_spares s.pattern) }) m

-- What a line for spares matches that isn't needed, an `ignore` line matches for certain.
braced-matches : (s : Specification) (q : Path) → matches (braced s) q ≡ true → matches s q ≡ true
unfolding matches
braced-matches s q h =
    let parts = and_parts (not (length q == 0)) (by_kind s.kind (braced s).pattern q) h in
    and_from (not (length q == 0)) (by_kind s.kind s.pattern q) parts.0
    (by_kind-of s.kind s.pattern q
    ∙ of_kind-weaker s.kind (glob (braced s).pattern true) (glob s.pattern true) q
    (λ t e. glob_choices s.pattern true t
    ∙ ap (λ cs. list_any (λ c. pieces c no_more true t) cs) (sym (brace-choices (choices s.pattern)))
    ∙ sym (glob_choices (braced s).pattern true t) ∙ e)
    (sym (by_kind-of s.kind (braced s).pattern q) ∙ parts.1))

owned-sure : (ss : List Specification) (spare : Specification) (q : Path) → is_owned ss spare ≡ true
    → matches spare q ≡ true → any_surely ss q ≡ true
owned-sure [] spare q h m = absurd (no h)
owned-sure (s ∷ ss) spare q h m =
    or-cases (owns s spare) (is_owned ss spare) (spec_surely s q || any_surely ss q) h
    (λ own. let plain = and_parts (is_plain s.pattern)
    (is_read_back (braced s) && tested.eq-value.it (braced s) spare) own in
    let same = (tested_laws.exact-law (braced s) spare).0
    (and_parts (is_read_back (braced s)) (tested.eq-value.it (braced s) spare) plain.1).1 in
    ap (λ b. b || any_surely ss q)
    (plain-matches s q plain.0 (braced-matches s q (ap (λ x. matches x q) same ∙ m))))
    (λ rest. or_right (spec_surely s q) (any_surely ss q) (owned-sure ss spare q rest m))

among-matches : (ss : List Specification) (spare : Specification) (q : Path)
    → is_among ss spare ≡ true → matches spare q ≡ true → any_matches ss q ≡ true
among-matches [] spare q h m = absurd (no h)
among-matches (s ∷ ss) spare q h m =
    or-cases (tested.eq-value.it s spare) (is_among ss spare) (matches s q || any_matches ss q) h
    (λ same. ap (λ b. b || any_matches ss q)
    (ap (λ x. matches x q) ((tested_laws.exact-law s spare).0 same) ∙ m))
    (λ rest. or_right (matches s q) (any_matches ss q) (among-matches ss spare q rest m))

-- What the lines kept of some match, one of all lines matches for certain, or one of the `ignorenot`
-- lines or of those for spares matches.
module _ (old spared : List Specification) (q : Path) where
  abbrev Covered : List Specification → Type 0
  Covered added = (any_surely old q || (any_matches spared q || any_matches added q)) ≡ true

  abbrev IsSure : Kept → Type 0
  IsSure k = any_matches (own_lines k) q ≡ true → Covered (spare_lines k)

  by-old : (added : List Specification) → any_surely old q ≡ true → Covered added
  by-old added h = ap (λ b. b || (any_matches spared q || any_matches added q)) h

  by-spared : (added : List Specification) → any_matches spared q ≡ true → Covered added
  by-spared added h =
      or_right (any_surely old q) (any_matches spared q || any_matches added q)
      (ap (λ b. b || any_matches added q) h)

  by-added : (added : List Specification) → any_matches added q ≡ true → Covered added
  by-added added h =
      or_right (any_surely old q) (any_matches spared q || any_matches added q)
      (or_right (any_matches spared q) (any_matches added q) h)

  covered-more : (added more : List Specification)
      → (any_matches added q ≡ true → any_matches more q ≡ true) → Covered added → Covered more
  covered-more added more w h =
      or-cases (any_surely old q) (any_matches spared q || any_matches added q)
      (any_surely old q || (any_matches spared q || any_matches more q)) h (by-old more)
      (λ k. or-cases (any_matches spared q) (any_matches added q)
      (any_surely old q || (any_matches spared q || any_matches more q)) k (by-spared more)
      (λ e. by-added more (w e)))

  none-sure : IsSure Nothing
  none-sure h = absurd (no h)

  cut-sure : IsSure Cut
  cut-sure h = absurd (no h)

  alone-only : (b : Bool) → (b || false) ≡ true → b ≡ true
  alone-only true h = refl
  alone-only false h = h

  line-sure : (s : Specification) → (spec_surely s q ≡ true → any_surely old q ≡ true)
      → IsSure (line_kept s)
  line-sure s up = go (line_stays s) refl (has_spares s) refl
    where
      gone : (b : Bool) → IsSure (if b then Cut else Nothing)
      gone true = cut-sure
      gone false = none-sure

      go : (b : Bool) → line_stays s ≡ b → (c : Bool) → has_spares s ≡ c
          → IsSure (if b then (if c then Sparing s (spare_of s) else Alone s)
          else (if all_simple s.pattern then Cut else Nothing))
      go false e c f h = gone (all_simple s.pattern) h
      go true e false f h =
          by-old [] (up (alone-sure s q e f (alone-only (matches s q) h)))
      go true e true f h =
          or-cases (spec_surely s q) (matches (spare_of s) q)
          (any_surely old q || (any_matches spared q || any_matches (spare_of s ∷ []) q))
          (sparing-sure s q e (alone-only (matches s q) h))
          (λ k. by-old (spare_of s ∷ []) (up k))
          (λ k. by-added (spare_of s ∷ []) (ap (λ b. b || false) k))

  needed-sure : (k : Kept) → IsSure k → IsSure (needed old spared k)
  needed-sure Nothing sure = sure
  needed-sure Cut sure = sure
  needed-sure (Alone s) sure = sure
  needed-sure (Sparing s spare) sure = go (is_owned old spare || is_among spared spare) refl
    where
      by-spare : (is_owned old spare || is_among spared spare) ≡ true → matches spare q ≡ true
          → Covered []
      by-spare h m =
          or-cases (is_owned old spare) (is_among spared spare)
          (any_surely old q || (any_matches spared q || false)) h
          (λ own. by-old [] (owned-sure old spare q own m))
          (λ among. by-spared [] (among-matches spared spare q among m))

      go : (b : Bool) → (is_owned old spare || is_among spared spare) ≡ b
          → IsSure (if b then Alone s else Sparing s spare)
      go false e h = sure h
      go true e h =
          or-cases (any_surely old q) (any_matches spared q || any_matches (spare ∷ []) q)
          (any_surely old q || (any_matches spared q || false)) (sure h) (by-old [])
          (λ k. or-cases (any_matches spared q) (any_matches (spare ∷ []) q)
          (any_surely old q || (any_matches spared q || false)) k (by-spared [])
          (λ m. by-spare e (alone-only (matches spare q) m)))

  each-sure : (ss : List Specification) → (any_surely ss q ≡ true → any_surely old q ≡ true)
      → any_matches (flat_map own_lines (map (λ s. needed old spared (line_kept s)) ss)) q ≡ true
      → Covered (flat_map spare_lines (map (λ s. needed old spared (line_kept s)) ss))
  each-sure [] up h = absurd (no h)
  each-sure (s ∷ ss) up h =
      or-cases (any_matches (own_lines k) q) (any_matches (flat_map own_lines rest) q)
      (any_surely old q || (any_matches spared q || any_matches (spare_lines k ++ flat_map spare_lines rest) q))
      (any-append (λ x. matches x q) (own_lines k) (flat_map own_lines rest) ∙ h)
      (λ m. covered-more (spare_lines k) (spare_lines k ++ flat_map spare_lines rest)
      (λ e. sym (any-append (λ x. matches x q) (spare_lines k) (flat_map spare_lines rest))
      ∙ ap (λ b. b || any_matches (flat_map spare_lines rest) q) e)
      (needed-sure (line_kept s) (line-sure s (λ e. up (ap (λ b. b || any_surely ss q) e))) m))
      (λ m. covered-more (flat_map spare_lines rest) (spare_lines k ++ flat_map spare_lines rest)
      (λ e. sym (any-append (λ x. matches x q) (spare_lines k) (flat_map spare_lines rest))
      ∙ or_right (any_matches (spare_lines k) q) (any_matches (flat_map spare_lines rest) q) e)
      (each-sure ss (λ e. up (or_right (spec_surely s q) (any_surely ss q) e)) m))
    where
      k : Kept
      k = needed old spared (line_kept s)

      rest : List Kept
      rest = map (λ s. needed old spared (line_kept s)) ss

kept-less : (old spared : List Specification)
    → IgnoresLess old (flat_map own_lines (each_kept old spared))
    (spared ++ flat_map spare_lines (each_kept old spared))
kept-less old spared q h =
    ap (λ b. any_surely old q || b)
    (sym (any-append (λ s. matches s q) spared (flat_map spare_lines (each_kept old spared))))
    ∙ each-sure old spared q old (λ e. e) h

-- The `ignorenot` lines, and others besides.
spared-more : (old added : List Specification) → list_all spare_stays old ≡ true
    → SparesMore old (map widened old ++ added)
spared-more old added stay q h =
    sym (any-append (λ s. matches s q) (map widened old) added)
    ∙ ap (λ b. b || any_matches added q)
    (sym (any-map (λ s. matches s q) widened old)
    ∙ any-where spare_stays (λ s. spec_perhaps s q) (λ s. matches (widened s) q) old stay
    (λ s stays. known-perhaps s q
    (and_parts (all_known s.pattern) (is_read_back (widened s)) stays).0) h)

-- The bars that stay.
bars-less : (old : List Partial) → BarsLess old (kept_bars old)
bars-less old test q h =
    any-filter bar_stays (λ b. test b.side b.bars && matches b.spec q)
    (λ b. test b.side b.bars && spec_surely b.spec q) old
    (λ b stays f. let parts = and_parts (test b.side b.bars) (matches b.spec q) f in
    and_from (test b.side b.bars) (spec_surely b.spec q) parts.0
    (plain-matches b.spec q
    (and_parts (is_read_back b.spec) (is_plain b.spec.pattern) stays).1 parts.1)) h

-- The kept values.
covers-top : (s : Path) → covers_value [] s ≡ true
covers-top [] = refl
covers-top (n ∷ s) = either (is_starred (n ∷ s)) (nat_lt 0 (length (n ∷ s))) (more (length s))
  where
    more : (a : ℕ) → nat_lt 0 (suc a) ≡ true
    more a = grind (arith, nat_tests)

    either : (a b : Bool) → b ≡ true → (not a || b) ≡ true
    either true b e = e
    either false b e = refl

cover-top : (paths : List Path) → cover ([] ∷ []) paths ≡ true
cover-top [] = refl
cover-top (s ∷ paths) = (λ i. (covers-top s i || false) && cover-top paths i)

pub values-cover : (paths : List Path) → cover (top_values paths) paths ≡ true
values-cover paths = go (are_tops (topmost (map cut_value paths)) paths) refl
  where
    tops : List Path
    tops = topmost (map cut_value paths)

    go : (b : Bool) → are_tops tops paths ≡ b
        → cover (if b then tops else [] ∷ []) paths ≡ true
    go true e = (and_parts (are_kept tops) (cover tops paths) e).1
    go false e = cover-top paths

-- The cautious reading is cautious.
own-cautious : (W : Written) → IsWrittenAs W W.parts → IsCautious W (cautious_of W.parts)
own-cautious W written = go (has_star P) refl (list_all spare_stays P.ignorenot) refl
  where
    P : Parts
    P = W.parts

    bars : List Partial
    bars = kept_bars P.partial

    spared : List Specification
    spared = map widened P.ignorenot

    go : (b : Bool) → has_star P ≡ b → (c : Bool) → list_all spare_stays P.ignorenot ≡ c
        → IsCautious W (if b then with_tops P (top_values P.paths) bars
        else (if c then with_kept P (each_kept P.ignore spared) spared bars
        else with_patterns P [] [] bars))
    go true e c f =
        tops-cautious W written (top_values P.paths) bars (values-cover P.paths) (bars-less P.partial)
    go false e true f =
        lines-cautious W written (flat_map own_lines (each_kept P.ignore spared))
        (spared ++ flat_map spare_lines (each_kept P.ignore spared)) bars e (kept-less P.ignore spared)
        (spared-more P.ignorenot (flat_map spare_lines (each_kept P.ignore spared)) f)
        (bars-less P.partial)
    go false e false f = none-cautious W written bars e (bars-less P.partial)

pub reading-cautious : (W : Written) (P : Parts) → IsWrittenAs W P → IsCautious W (cautious_of P)
reading-cautious W P written =
    subst (λ Q. IsWrittenAs W Q → IsCautious W (cautious_of Q)) written.parts (own-cautious W) written

-- The readings beside rules.
reading-read : (Rs : List Rule) (W : Written) (P : Parts) → IsWrittenAs W P
    → IsReadingOf Rs W (reading_of Rs P)
reading-read [] W P written = cautious-read W (cautious_of P) (reading-cautious W P written)
reading-read (R ∷ Rs) W P written =
    subst (λ Q. IsReadingOf (R ∷ Rs) W (for_rules Q (top_values Q.paths))) written.parts
    (rules-read (R ∷ Rs) W (top_values W.parts.paths) (values-cover W.parts.paths))

pub readings-read : (Ws : List Written) (Ps : List Parts) (Rs : List Rule) → AreWrittenAs Ws Ps
    → AreReadForUnison Ws Rs (map (reading_of Rs) Ps)
readings-read Ws Ps Rs written = record {
  count = length-map Ps (reading_of Rs) ∙ sym written.count;
  each = λ i W at.
      let own = written.each i W at in (
        reading_of Rs own.0,
        slice_get-map (reading_of Rs) Ps i ∙ ap (option_map (reading_of Rs)) own.1,
        reading-read Rs W own.0 own.2,
      );
}

-- A profile that is read alike stays.
alike-line : (s : Specification) → (is_read_back s && is_plain s.pattern) ≡ true
    → line_kept s ≡ Alone s
alike-line s h =
    λ i. if stays i then (if not (two.1 i) then Sparing s (spare_of s) else Alone s)
    else (if all_simple s.pattern then Cut else Nothing)
  where
    parts : (is_read_back s ≡ true) × (is_plain s.pattern ≡ true)
    parts = and_parts (is_read_back s) (is_plain s.pattern) h

    two : (all_simple s.pattern ≡ true) × ((length (pattern_spares s.pattern) == 0) ≡ true)
    two = and_parts (all_simple s.pattern) (length (pattern_spares s.pattern) == 0) parts.1

    stays : line_stays s ≡ true
    stays =
        and_from (is_read_back s && all_simple s.pattern)
        (not (has_spares s) || is_read_back (spare_of s))
        (and_from (is_read_back s) (all_simple s.pattern) parts.0 two.0)
        (ap (λ b. not (not b) || is_read_back (spare_of s)) two.1)

alike-each : (old spared ss : List Specification)
    → list_all (λ s. is_read_back s && is_plain s.pattern) ss ≡ true
    → map (λ s. needed old spared (line_kept s)) ss ≡ map Alone ss
alike-each old spared [] h = refl
alike-each old spared (s ∷ ss) h =
    let parts = and_parts (is_read_back s && is_plain s.pattern)
    (list_all (λ s. is_read_back s && is_plain s.pattern) ss) h in
    λ i. needed old spared (alike-line s parts.0 i) ∷ alike-each old spared ss parts.1 i

alone-own : (ss : List Specification) → flat_map own_lines (map Alone ss) ≡ ss
alone-own [] = refl
alone-own (s ∷ ss) = ap (λ xs. s ∷ xs) (alone-own ss)

alone-spares : (ss : List Specification) → flat_map spare_lines (map Alone ss) ≡ []
alone-spares [] = refl
alone-spares (s ∷ ss) = alone-spares ss

simple-known : (s : Specification) → (is_read_back s && all_simple s.pattern) ≡ true
    → (spare_stays s ≡ true) × (widened s ≡ s)
simple-known s h =
    let parts = and_parts (is_read_back s) (all_simple s.pattern) h in
    let same : widened s ≡ s = ap (λ b. if b then s else starred s) parts.1 in (
      and_from (all_known s.pattern) (is_read_back (widened s)) (all-known s.pattern parts.1)
          (ap is_read_back same ∙ parts.0),
      same,
    )

same-widened : (ss : List Specification)
    → list_all (λ s. is_read_back s && all_simple s.pattern) ss ≡ true → map widened ss ≡ ss
same-widened [] h = refl
same-widened (s ∷ ss) h =
    let parts = and_parts (is_read_back s && all_simple s.pattern)
    (list_all (λ s. is_read_back s && all_simple s.pattern) ss) h in
    λ i. (simple-known s parts.0).1 i ∷ same-widened ss parts.1 i

alike-kept : (old spared : List Specification)
    → list_all (λ s. is_read_back s && is_plain s.pattern) old ≡ true
    → each_kept old spared ≡ map Alone old
alike-kept old spared h = alike-each old spared old h

alike-lines : (P : Parts)
    → list_all (λ s. is_read_back s && is_plain s.pattern) P.ignore ≡ true
    → list_all (λ s. is_read_back s && all_simple s.pattern) P.ignorenot ≡ true
    → list_all bar_stays P.partial ≡ true
    → with_kept P (each_kept P.ignore (map widened P.ignorenot)) (map widened P.ignorenot) (kept_bars P.partial)
    ≡ P
alike-lines P lines nots bars =
    (λ i. with_kept P (alike-kept P.ignore (map widened P.ignorenot) lines i)
    (same-widened P.ignorenot nots i) (all-left bar_stays P.partial bars i))
    ∙ (λ i. with_patterns P (alone-own P.ignore i)
    ((ap (λ xs. P.ignorenot ++ xs) (alone-spares P.ignore) ∙ append-nil P.ignorenot) i) P.partial)

pub alike-stays : (P : Parts) → is_read_alike P ≡ true → cautious_of P ≡ P
alike-stays P h =
    (λ i. if not-true (has_star P) three.0 i then with_tops P (top_values P.paths) (kept_bars P.partial)
    else (if stay i
    then with_kept P (each_kept P.ignore (map widened P.ignorenot)) (map widened P.ignorenot) (kept_bars P.partial)
    else with_patterns P [] [] (kept_bars P.partial))) ∙ alike-lines P three.1 two.1 one.1
  where
    lines : Bool
    lines = list_all (λ s. is_read_back s && is_plain s.pattern) P.ignore

    nots : Bool
    nots = list_all (λ s. is_read_back s && all_simple s.pattern) P.ignorenot

    one : ((not (has_star P) && lines && nots) ≡ true) × (list_all bar_stays P.partial ≡ true)
    one = and_parts (not (has_star P) && lines && nots) (list_all bar_stays P.partial) h

    two : ((not (has_star P) && lines) ≡ true) × (nots ≡ true)
    two = and_parts (not (has_star P) && lines) nots one.0

    three : (not (has_star P) ≡ true) × (lines ≡ true)
    three = and_parts (not (has_star P)) lines two.0

    stay : list_all spare_stays P.ignorenot ≡ true
    stay =
        all-weaker (λ s. is_read_back s && all_simple s.pattern) spare_stays P.ignorenot
        (λ s k. (simple-known s k).0) two.1

-- One more `ignore` line that has no spares.
use Rattle.std.proofs.Common.{◌≡◌, Bool, true, false, not, ◌&&◌, ◌||◌, List, [], ◌∷◌, ◌++◌, map, refl, sym, ap, ◌∙◌}
use Rattle.std.specs.Prelude.{if◌then◌else◌, IsTrue}
use Rattle.std.specs.List.{list_any, list_all, flat_map}
use Rattle.std.proofs.lemmas.Bool.{and_parts, and_from, or_right}
use Rattle.hub_text.specs.laws.Test.{any-append, any-map, any-weaker, not-weaker}
use Rattle.hub_path.specs.Path.{Path, is_over, is_path, prefixes}
use Rattle.hub_glob.specs.Glob.{matches, any_matches}
use Rattle.hub_glob.specs.Specification.{Specification}
use Rattle.hub_profile.specs.declared.rule.Rule.{Rule}
use Rattle.hub_profile.specs.Parts.{Parts}
use Rattle.hub_reach.specs.Reach.{reach, writes_at, is_ignored, is_open}
use Rattle.hub_unison.specs.declared.kept.Kept.{Kept}
use Rattle.hub_unison.specs.declared.kept.Kept.TheVariants.{Nothing, Cut, Alone, Sparing}
use Rattle.hub_unison.specs.Cautious.{has_star, with_patterns, with_tops}
use Rattle.hub_unison.specs.laws.Cautious.{no}
use Rattle.hub_unison.specs.Kept.{own_lines, spare_lines}
use Rattle.hub_unison.specs.Matching.{widened}
use Rattle.hub_unison.specs.ReadingOf.{each_kept, is_among, is_owned, kept_bars, line_kept, needed, owns, reading_of, spare_stays, top_values, with_ignored, with_kept, IsNoWider}

-- Tests of lists, of which one has an item more.
module _ {X : Type 0} (f : X → Bool) (s : X) (after : List X) where
  more-any : (before : List X) → list_any f (before ++ after) ≡ true
      → list_any f (before ++ s ∷ after) ≡ true
  more-any [] h = or_right (f s) (list_any f after) h
  more-any (x ∷ before) h = go (f x) (more-any before) h
    where
      go : (b : Bool) → (list_any f (before ++ after) ≡ true → list_any f (before ++ s ∷ after) ≡ true)
          → (b || list_any f (before ++ after)) ≡ true
          → (b || list_any f (before ++ s ∷ after)) ≡ true
      go true rest h = refl
      go false rest h = rest h

  same-any : f s ≡ false → (before : List X)
      → list_any f (before ++ s ∷ after) ≡ list_any f (before ++ after)
  same-any e [] = ap (λ b. b || list_any f after) e
  same-any e (x ∷ before) = ap (λ b. f x || b) (same-any e before)

any-flat : {X : Type 0} (f : X → List Specification) (q : Path) (xs : List X)
    → list_any (λ x. any_matches (f x) q) xs ≡ any_matches (flat_map f xs) q
any-flat f q [] = refl
any-flat f q (x ∷ xs) =
    ap (λ b. any_matches (f x) q || b) (any-flat f q xs)
    ∙ any-append (λ s. matches s q) (f x) (flat_map f xs)

-- What is kept of a line beside others.
own-needed : (ss spared : List Specification) (k : Kept) → own_lines (needed ss spared k) ≡ own_lines k
own-needed ss spared Nothing = refl
own-needed ss spared Cut = refl
own-needed ss spared (Alone s) = refl
own-needed ss spared (Sparing s spare) = go (is_owned ss spare || is_among spared spare)
  where
    go : (b : Bool) → own_lines (if b then Alone s else Sparing s spare) ≡ s ∷ []
    go true = refl
    go false = refl

no-needed : (ss spared : List Specification) (k : Kept) → spare_lines k ≡ []
    → spare_lines (needed ss spared k) ≡ []
no-needed ss spared Nothing e = refl
no-needed ss spared Cut e = refl
no-needed ss spared (Alone s) e = refl
no-needed ss spared (Sparing s spare) e = go (is_owned ss spare || is_among spared spare)
  where
    go : (b : Bool) → spare_lines (if b then Alone s else Sparing s spare) ≡ []
    go true = refl
    go false = e

module _ (old new spared : List Specification) (q : Path)
    (more : (spare : Specification) → is_owned old spare ≡ true → is_owned new spare ≡ true) where
  fewer-spares : (k : Kept) → any_matches (spare_lines (needed new spared k)) q ≡ true
      → any_matches (spare_lines (needed old spared k)) q ≡ true
  fewer-spares Nothing h = h
  fewer-spares Cut h = h
  fewer-spares (Alone s) h = h
  fewer-spares (Sparing s spare) h =
      go (is_owned old spare) (is_owned new spare) (is_among spared spare) (more spare) h
    where
      go : (a b c : Bool) → (a ≡ true → b ≡ true)
          → any_matches (spare_lines (if b || c then Alone s else Sparing s spare)) q ≡ true
          → any_matches (spare_lines (if a || c then Alone s else Sparing s spare)) q ≡ true
      go false false c w h = h
      go false true c w h = absurd (no h)
      go true true c w h = h
      go true false c w h = absurd (no (w refl))

-- The lines that are kept, with one line more.
module _ (spared before after : List Specification) (s : Specification)
    (none : spare_lines (line_kept s) ≡ []) (q : Path) where
  abbrev old : List Specification
  old = before ++ after

  abbrev new : List Specification
  new = before ++ s ∷ after

  own-any : (all ss : List Specification)
      → list_any (λ x. any_matches (own_lines (line_kept x)) q) ss
      ≡ any_matches (flat_map own_lines (map (λ x. needed all spared (line_kept x)) ss)) q
  own-any all [] = refl
  own-any all (x ∷ ss) =
      (λ i. any_matches (sym (own-needed all spared (line_kept x)) i) q || own-any all ss i)
      ∙ any-append (λ t. matches t q) (own_lines (needed all spared (line_kept x)))
      (flat_map own_lines (map (λ x. needed all spared (line_kept x)) ss))

  spare-any : (all ss : List Specification)
      → list_any (λ x. any_matches (spare_lines (needed all spared (line_kept x))) q) ss
      ≡ any_matches (flat_map spare_lines (map (λ x. needed all spared (line_kept x)) ss)) q
  spare-any all ss =
      any-map (λ k. any_matches (spare_lines k) q) (λ x. needed all spared (line_kept x)) ss
      ∙ any-flat spare_lines q (map (λ x. needed all spared (line_kept x)) ss)

  more-own : any_matches (flat_map own_lines (each_kept old spared)) q ≡ true
      → any_matches (flat_map own_lines (each_kept new spared)) q ≡ true
  more-own h =
      sym (own-any new new)
      ∙ more-any (λ x. any_matches (own_lines (line_kept x)) q) s after before (own-any old old ∙ h)

  fewer-spare : any_matches (flat_map spare_lines (each_kept new spared)) q ≡ true
      → any_matches (flat_map spare_lines (each_kept old spared)) q ≡ true
  fewer-spare h =
      sym (spare-any old old)
      ∙ any-weaker (λ x. any_matches (spare_lines (needed new spared (line_kept x))) q)
      (λ x. any_matches (spare_lines (needed old spared (line_kept x))) q) old
      (λ x. fewer-spares old new spared q (λ spare. more-any (λ x. owns x spare) s after before) (line_kept x))
      (sym (same-any (λ x. any_matches (spare_lines (needed new spared (line_kept x))) q) s after
      (ap (λ ss. any_matches ss q) (no-needed new spared (line_kept s) none)) before)
      ∙ (spare-any new new ∙ h))

  fewer-nots : any_matches (spared ++ flat_map spare_lines (each_kept new spared)) q ≡ true
      → any_matches (spared ++ flat_map spare_lines (each_kept old spared)) q ≡ true
  fewer-nots h =
      sym (any-append (λ t. matches t q) spared (flat_map spare_lines (each_kept old spared)))
      ∙ either (any_matches spared q)
      (any-append (λ t. matches t q) spared (flat_map spare_lines (each_kept new spared)) ∙ h)
    where
      either : (b : Bool) → (b || any_matches (flat_map spare_lines (each_kept new spared)) q) ≡ true
          → (b || any_matches (flat_map spare_lines (each_kept old spared)) q) ≡ true
      either true k = refl
      either false k = fewer-spare k

-- A profile that ignores more reaches less.
ignored-less : (P : Parts) (is nots more fewer : List Specification)
    → ((q : Path) → any_matches is q ≡ true → any_matches more q ≡ true)
    → ((q : Path) → any_matches fewer q ≡ true → any_matches nots q ≡ true) → (p : Path)
    → IsTrue (reach (record P { ignore = more; ignorenot = fewer }) p)
    → IsTrue (reach (record P { ignore = is; ignorenot = nots }) p)
unfolding reach
ignored-less P is nots more fewer up down p h =
    let parts = and_parts (is_path p) (list_any (λ s. is_over s p && is_open D s p) P.paths) h in
    and_from (is_path p) (list_any (λ s. is_over s p && is_open C s p) P.paths) parts.0
    (any-weaker (λ s. is_over s p && is_open D s p) (λ s. is_over s p && is_open C s p) P.paths
    (λ s e. let two = and_parts (is_over s p) (is_open D s p) e in
    and_from (is_over s p) (is_open C s p) two.0 (opened s two.1)) parts.1)
  where
    C : Parts
    C = record P { ignore = is; ignorenot = nots }

    D : Parts
    D = record P { ignore = more; ignorenot = fewer }

    ignored : (q : Path) → is_ignored C q ≡ true → is_ignored D q ≡ true
    ignored q e =
        let two = and_parts (any_matches is q) (not (any_matches nots q)) e in
        and_from (any_matches more q) (not (any_matches fewer q)) (up q two.0)
        (not-weaker (any_matches fewer q) (any_matches nots q) (down q) two.1)

    opened : (s : Path) → is_open D s p ≡ true → is_open C s p ≡ true
    opened s =
        not-weaker (list_any (λ q. is_over s q && is_ignored C q) (prefixes p))
        (list_any (λ q. is_over s q && is_ignored D q) (prefixes p))
        (any-weaker (λ q. is_over s q && is_ignored C q) (λ q. is_over s q && is_ignored D q) (prefixes p)
        (λ q e. let two = and_parts (is_over s q) (is_ignored C q) e in
        and_from (is_over s q) (is_ignored D q) two.0 (ignored q two.1)))

module _ (P : Parts) (before after : List Specification) (s : Specification)
    (none : spare_lines (line_kept s) ≡ []) where
  abbrev spares : List Specification
  spares = map widened P.ignorenot

  abbrev by-case : Bool → Bool → List Specification → Parts
  by-case b c ss =
      if b then with_tops (with_ignored P ss) (top_values P.paths) (kept_bars P.partial)
      else (if c
      then with_kept (with_ignored P ss) (each_kept ss spares) spares (kept_bars P.partial)
      else with_patterns (with_ignored P ss) [] [] (kept_bars P.partial))

  reach-less : (p : Path) → IsTrue (reach (by-case false true (before ++ s ∷ after)) p)
      → IsTrue (reach (by-case false true (before ++ after)) p)
  reach-less =
      ignored-less (record P { partial = kept_bars P.partial })
      (flat_map own_lines (each_kept (before ++ after) spares))
      (spares ++ flat_map spare_lines (each_kept (before ++ after) spares))
      (flat_map own_lines (each_kept (before ++ s ∷ after) spares))
      (spares ++ flat_map spare_lines (each_kept (before ++ s ∷ after) spares))
      (more-own spares before after s none) (fewer-nots spares before after s none)

  write-less : (r p : Path)
      → (writes_at (by-case false true (before ++ after)) r p && reach (by-case false true (before ++ s ∷ after)) p) ≡ true
      → (writes_at (by-case false true (before ++ after)) r p && reach (by-case false true (before ++ after)) p) ≡ true
  write-less r p h =
      let two = and_parts (writes_at (by-case false true (before ++ after)) r p)
      (reach (by-case false true (before ++ s ∷ after)) p) h in
      and_from (writes_at (by-case false true (before ++ after)) r p)
      (reach (by-case false true (before ++ after)) p) two.0 (reach-less p two.1)

  by-cases : (b c : Bool) → IsNoWider (by-case b c (before ++ after)) (by-case b c (before ++ s ∷ after))
  by-cases true c = record { reach = λ p h. h; write = λ r p h. h }
  by-cases false true = record { reach = reach-less; write = write-less }
  by-cases false false = record { reach = λ p h. h; write = λ r p h. h }

  pub no-wider : (Rs : List Rule)
      → IsNoWider (reading_of Rs (with_ignored P (before ++ after)))
      (reading_of Rs (with_ignored P (before ++ s ∷ after)))
  no-wider [] = by-cases (has_star P) (list_all spare_stays P.ignorenot)
  no-wider (R ∷ Rs) = record { reach = λ p h. h; write = λ r p h. h }

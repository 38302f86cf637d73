-- The choices of a profile: which part of them is whose, how many spots they have, and which paths they match.
use Rattle.std.proofs.Common.{◌≡◌, ◌==◌, ◌∙◌, cond, ℕ, ◌+◌, ◌-◌, ◌<◌, ◌≤◌, Bool, true, false, not, ◌&&◌, ◌||◌, List, [], ◌∷◌, ◌++◌, length, map, take, drop, get_or, refl, sym, ap, arith, append_assoc, length-append}
use Rattle.std.specs.Prelude.{IsTrue, filter}
use Rattle.std.specs.List.{list_any, list_all}
use Rattle.std.proofs.lemmas.Bool.{and_parts}
use Rattle.std.proofs.lemmas.List.{take_at, take_more, drop_at, take-append-drop, length-map}
use Rattle.std.proofs.lemmas.List.Folds.{list_all-append, list_all-map}
use Rattle.hub_text.specs.laws.List.{next-drop}
use Rattle.hub_text.specs.laws.Test.{any-map}
use Rattle.hub_path.specs.Path.{Name, Path, is_path, is_place, none_over, parent, path_eq, path_of, text_of}
use Rattle.hub_path.specs.laws.General.{text_of-path_of}
use Rattle.hub_path.specs.laws.Text.{path_of-parts}
use Rattle.hub_glob.specs.Glob.{matches}
use Rattle.hub_glob.specs.laws.OneStep.{nonzero}
use Rattle.hub_glob.specs.Specification.{Specification}
use Rattle.hub_profile.specs.Parts.{Parts, IsProfile}
use Rattle.hub_profile.specs.declared.partial.Partial.{Partial}
use Rattle.hub_automaton.specs.Alphabet.{mentions, path_characters, spec_characters}
use Rattle.hub_automaton.specs.declared.alternatives.Alternatives.{Alternatives}
use Rattle.hub_automaton.specs.Spots.{state_after, is_matched, is_covered, spots_count, alternatives_of, path_alternatives}
use Rattle.hub_reach.specs.Bars.{partial_specs, placed_bar, placed_bars, specs_of}
use Rattle.hub_reach.specs.Mention.{Mentions}
use Rattle.hub_reach.specs.Reach.{is_ignored}
use Rattle.hub_reach.specs.Walk.{is_inside, is_kept}
use Rattle.hub_reach.specs.Walker.{WalkerParts}
use Rattle.hub_reach.specs.declared.placed_bar.PlacedBar.{PlacedBar}
use Rattle.hub_reach.specs.Stage.{IsWalkerOf, texts_of, profile_alternatives, text_spots, spot_count_of}
use Rattle.hub_reach.specs.laws.Walk.{kept-over-path}
use Rattle.hub_automaton.specs.laws.AddedInTurn.{spots-append}

-- The parts of a list.
module _ {X : Type 0} where
  pub part : (ls ms ns : List X) (from to : ℕ) → from ≡ length ls → to ≡ length ls + length ms → take (to - from) (drop from (ls ++ (ms ++ ns))) ≡ ms
  part ls ms ns from to f e = ap (take (to - from)) (drop_at ls (ms ++ ns) from (sym f)) ∙ take_at ms ns (to - from) (omega arith)

  pub first-part : (ls ms : List X) (to : ℕ) → to ≡ length ls → take (to - 0) (drop 0 (ls ++ ms)) ≡ ls
  first-part ls ms to e = take_at ls ms (to - 0) (omega arith)

  any-same : (f g : X → Bool) (xs : List X) → map f xs ≡ map g xs → list_any f xs ≡ list_any g xs
  any-same f g xs h = any-map (λ b. b) f xs ∙ (ap (list_any (λ b. b)) h ∙ sym (any-map (λ b. b) g xs))

  map-parts : (f g : X → Bool) (ls ms : List X) → map f (ls ++ ms) ≡ map g (ls ++ ms) → (map f ls ≡ map g ls) × (map f ms ≡ map g ms)
  map-parts f g [] ms h = (refl, h)
  map-parts f g (a ∷ ls) ms h =
      let first : f a ≡ g a = cc in
      let rest : map f (ls ++ ms) ≡ map g (ls ++ ms) = cc in
      let w = map-parts f g ls ms rest in (λ i. first i ∷ w.0 i, w.1)

-- The parts of a walker's choices.
abbrev pub kept_choices : Parts → List Alternatives
kept_choices P = map path_alternatives (texts_of P.paths)

abbrev pub bar_choices : Parts → List Alternatives
bar_choices P = map alternatives_of (partial_specs P)

pub length-specs : (P : Parts) → length (map alternatives_of P.ignore ++ map alternatives_of P.ignorenot) ≡ length P.ignore + length P.ignorenot
length-specs P =
    length-append (map alternatives_of P.ignore) (map alternatives_of P.ignorenot) ∙ (λ i. length-map P.ignore alternatives_of i + length-map P.ignorenot alternatives_of i)

pub ignore-part : (P : Parts) (w : WalkerParts) → IsWalkerOf P w → take (w.ignore_end - 0) (drop 0 w.alternatives) ≡ map alternatives_of P.ignore
ignore-part P w is =
    let ls = map alternatives_of P.ignore in
    let ms = map alternatives_of P.ignorenot ++ (kept_choices P ++ bar_choices P) in
    ap (λ ns. take (w.ignore_end - 0) (drop 0 ns)) is.alternatives ∙ first-part ls ms w.ignore_end (is.ignore_end ∙ sym (length-map P.ignore alternatives_of))

pub ignorenot-part : (P : Parts) (w : WalkerParts) → IsWalkerOf P w → take (w.ignorenot_end - w.ignore_end) (drop w.ignore_end w.alternatives) ≡ map alternatives_of P.ignorenot
ignorenot-part P w is =
    let ls = map alternatives_of P.ignore in
    let ms = map alternatives_of P.ignorenot in
    let from : w.ignore_end ≡ length ls = is.ignore_end ∙ sym (length-map P.ignore alternatives_of) in
    let to : w.ignorenot_end ≡ length ls + length ms = is.ignorenot_end ∙ (sym (length-specs P) ∙ length-append ls ms) in
    ap (λ ns. take (w.ignorenot_end - w.ignore_end) (drop w.ignore_end ns)) is.alternatives
    ∙ part ls ms (kept_choices P ++ bar_choices P) w.ignore_end w.ignorenot_end from to

pub kept-part : (P : Parts) (w : WalkerParts) → IsWalkerOf P w → take (w.kept_end - w.ignorenot_end) (drop w.ignorenot_end w.alternatives) ≡ map path_alternatives (texts_of P.paths)
kept-part P w is =
    let ls = map alternatives_of P.ignore in
    let ms = map alternatives_of P.ignorenot in
    let ns = kept_choices P in
    let all : w.alternatives ≡ (ls ++ ms) ++ (ns ++ bar_choices P) = is.alternatives ∙ sym (append_assoc ls ms (ns ++ bar_choices P)) in
    let from : w.ignorenot_end ≡ length (ls ++ ms) = is.ignorenot_end ∙ sym (length-specs P) in
    let to : w.kept_end ≡ length (ls ++ ms) + length ns = is.kept_end ∙ (λ i. sym (length-specs P) i + sym (length-map (texts_of P.paths) path_alternatives) i) in
    ap (λ ks. take (w.kept_end - w.ignorenot_end) (drop w.ignorenot_end ks)) all ∙ part (ls ++ ms) ns (bar_choices P) w.ignorenot_end w.kept_end from to

-- The choices of the partial bars are the last ones.
abbrev pub before_bars : Parts → List Alternatives
before_bars P = (map alternatives_of P.ignore ++ map alternatives_of P.ignorenot) ++ kept_choices P

pub length-before : (P : Parts) → length (before_bars P) ≡ length P.ignore + length P.ignorenot + length (texts_of P.paths)
length-before P =
    length-append (map alternatives_of P.ignore ++ map alternatives_of P.ignorenot) (kept_choices P)
    ∙ (λ i. length-specs P i + length-map (texts_of P.paths) path_alternatives i)

pub bars-last : (P : Parts) → profile_alternatives P ≡ before_bars P ++ bar_choices P
bars-last P =
    let ls = map alternatives_of P.ignore in
    let ms = map alternatives_of P.ignorenot in
    sym (append_assoc (ls ++ ms) (kept_choices P) (bar_choices P) ∙ append_assoc ls ms (kept_choices P ++ bar_choices P))

-- Which paths the choices match.
abbrev pub MatchesSpecs : Type 0
MatchesSpecs = (s : Specification) (p : Path) → IsTrue (is_path p) → is_matched (alternatives_of s) (text_of p) ≡ matches s p

abbrev pub MatchesText : Type 0
MatchesText = (s : Path) (t : List ℕ) → IsTrue (is_path s) → is_matched (path_alternatives (text_of s)) t ≡ path_eq s (path_of t)

pub spec-matched : MatchesSpecs → (s : Specification) (t : List ℕ) → IsTrue (is_path (path_of t)) → is_matched (alternatives_of s) t ≡ matches s (path_of t)
spec-matched law s t h = ap (is_matched (alternatives_of s)) (sym (text_of-path_of t)) ∙ law s (path_of t) h

specs-matched : MatchesSpecs → (specs : List Specification) (t : List ℕ) → IsTrue (is_path (path_of t))
    → list_any (λ a. is_matched a t) (map alternatives_of specs) ≡ list_any (λ s. matches s (path_of t)) specs
specs-matched law [] t h = refl
specs-matched law (s ∷ specs) t h =
    (λ i. spec-matched law s t h i || specs-matched law specs t h i)

-- As the parts of the list of choices tell it.
abbrev pub is_ignored_by : Parts → List ℕ → Bool
is_ignored_by P t = list_any (λ a. is_matched a t) (map alternatives_of P.ignore) && not (list_any (λ a. is_matched a t) (map alternatives_of P.ignorenot))

pub ignored-is : MatchesSpecs → (P : Parts) (t : List ℕ) → IsTrue (is_path (path_of t)) → is_ignored_by P t ≡ is_ignored P (path_of t)
ignored-is law P t h = (λ i. specs-matched law P.ignore t h i && not (specs-matched law P.ignorenot t h i))

-- The whole replica is the path of no text.
empty-kept : (t : List ℕ) → path_eq [] (path_of t) ≡ false
empty-kept t = ap (path_eq []) (sym (path_of-parts t)) ∙ go (parent (path_of t)) _
  where
    go : (ps : List Name) (n : Name) → path_eq [] (ps ++ n ∷ []) ≡ false
    go [] n = refl
    go (p ∷ ps) n = refl

paths-matched : MatchesText → (ps : List Path) (t : List ℕ) → list_all is_place ps ≡ true
    → list_any (λ a. is_matched a t) (map path_alternatives (texts_of ps)) ≡ list_any (λ s. path_eq s (path_of t)) ps
paths-matched law [] t places = refl
paths-matched law ([] ∷ ps) t places = paths-matched law ps t places ∙ ap (λ b. b || list_any (λ s. path_eq s (path_of t)) ps) (sym (empty-kept t))
paths-matched law ((n ∷ s) ∷ ps) t places =
    let parts = and_parts (is_place (n ∷ s)) (list_all is_place ps) places in
    let path : is_path (n ∷ s) ≡ true = (λ i. not (nonzero (length s) i) && parts.0 i) in
    let more = filter (λ r. not (length r == 0)) ps in
    (λ i. list_any (λ a. is_matched a t) (map path_alternatives (map text_of (cond (not (nonzero (length s) i)) ((n ∷ s) ∷ more) more))))
    ∙ (λ i. law (n ∷ s) t path i || paths-matched law ps t parts.1 i)

places-of : (P : Parts) → IsProfile P → list_all is_place P.paths ≡ true
places-of P facts = (and_parts (not (length P.paths == 0)) (list_all is_place P.paths) (and_parts (not (length P.paths == 0) && list_all is_place P.paths) (none_over P.paths) facts.paths).0).1

pub kept-is : MatchesText → (P : Parts) (t : List ℕ) → IsProfile P → IsTrue (is_path (path_of t))
    → (is_inside P (path_of t) || list_any (λ a. is_matched a t) (map path_alternatives (texts_of P.paths))) ≡ is_kept P (path_of t)
kept-is law P t facts path =
    ap (λ b. is_inside P (path_of t) || b) (paths-matched law P.paths t (places-of P facts)) ∙ sym (kept-over-path P (path_of t) path)

-- Texts of which the same is kept are matched alike.
abbrev pub TellsMatches : Type 0
TellsMatches = (ls : List Alternatives) (t u : List ℕ) → state_after ls t ≡ state_after ls u → map (λ a. is_matched a t) ls ≡ map (λ a. is_matched a u) ls

pub ignored-alike : MatchesSpecs → TellsMatches → (P : Parts) (t u : List ℕ) → IsTrue (is_path (path_of t)) → IsTrue (is_path (path_of u))
    → state_after (profile_alternatives P) t ≡ state_after (profile_alternatives P) u → is_ignored P (path_of t) ≡ is_ignored P (path_of u)
ignored-alike law tells P t u p q h =
    let ls = map alternatives_of P.ignore in
    let ms = map alternatives_of P.ignorenot in
    let ns = kept_choices P ++ bar_choices P in
    let w = map-parts (λ a. is_matched a t) (λ a. is_matched a u) ls (ms ++ ns) (tells (profile_alternatives P) t u h) in
    let v = map-parts (λ a. is_matched a t) (λ a. is_matched a u) ms ns w.1 in
    sym (ignored-is law P t p)
    ∙ ((λ i. any-same (λ a. is_matched a t) (λ a. is_matched a u) ls w.0 i && not (any-same (λ a. is_matched a t) (λ a. is_matched a u) ms v.0 i))
    ∙ ignored-is law P u q)

pub kept-alike : MatchesText → TellsMatches → (P : Parts) (t u : List ℕ) → IsProfile P → IsTrue (is_path (path_of t)) → IsTrue (is_path (path_of u))
    → is_inside P (path_of t) ≡ is_inside P (path_of u) → state_after (profile_alternatives P) t ≡ state_after (profile_alternatives P) u → is_kept P (path_of t) ≡ is_kept P (path_of u)
kept-alike law tells P t u facts p q ins h =
    let ls = map alternatives_of P.ignore in
    let ms = map alternatives_of P.ignorenot in
    let ns = kept_choices P in
    let w = map-parts (λ a. is_matched a t) (λ a. is_matched a u) ls (ms ++ (ns ++ bar_choices P)) (tells (profile_alternatives P) t u h) in
    let v = map-parts (λ a. is_matched a t) (λ a. is_matched a u) ms (ns ++ bar_choices P) w.1 in
    let k = map-parts (λ a. is_matched a t) (λ a. is_matched a u) ns (bar_choices P) v.1 in
    sym (kept-is law P t facts p)
    ∙ ((λ i. ins i || any-same (λ a. is_matched a t) (λ a. is_matched a u) ns k.0 i) ∙ kept-is law P u facts q)

-- The choices of the partial bars match them alike.
pub bars-alike : TellsMatches → (P : Parts) (t u : List ℕ) → state_after (profile_alternatives P) t ≡ state_after (profile_alternatives P) u
    → map (λ a. is_matched a t) (bar_choices P) ≡ map (λ a. is_matched a u) (bar_choices P)
bars-alike tells P t u h =
    (map-parts (λ a. is_matched a t) (λ a. is_matched a u) (before_bars P) (bar_choices P)
    (ap (map (λ a. is_matched a t)) (sym (bars-last P)) ∙ (tells (profile_alternatives P) t u h ∙ ap (map (λ a. is_matched a u)) (bars-last P)))).1

-- How many spots they have.
abbrev pub HaveSpots : Type 0
HaveSpots = (s : List ℕ) → spots_count (path_alternatives s ∷ []) ≡ length s + 1

spots-paths : HaveSpots → (ss : List (List ℕ)) → spots_count (map path_alternatives ss) ≡ text_spots ss
spots-paths law [] = refl
spots-paths law (s ∷ ss) = omega (arith, law s, spots-paths law ss)

pub spots-profile : HaveSpots → (P : Parts) → spots_count (profile_alternatives P) ≡ spot_count_of P
spots-profile law P =
    let ls = map alternatives_of P.ignore in
    let ms = map alternatives_of P.ignorenot in
    let ns = kept_choices P in
    omega (arith, spots-append ls (ms ++ (ns ++ bar_choices P)), spots-append ms (ns ++ bar_choices P), spots-append ns (bar_choices P), spots-paths law (texts_of P.paths))

pub few-spots : HaveSpots → (k : ℕ) (P : Parts) (ls : List Alternatives) → ls ≡ profile_alternatives P → spots_count ls ≤ k → spot_count_of P ≤ k
few-spots law k P ls all few = omega (arith, ap spots_count all, spots-profile law P, few)

-- The choices, collected one part after another.
pub with-specs : (P : Parts) (none one two : List Alternatives) (first second : List Specification) → none ≡ [] → one ≡ none ++ map alternatives_of first → two ≡ one ++ map alternatives_of second
    → first ≡ P.ignore → second ≡ P.ignorenot → two ≡ map alternatives_of P.ignore ++ map alternatives_of P.ignorenot
with-specs P none one two first second empty by_first by_second f s =
    let begun : one ≡ map alternatives_of P.ignore = by_first ∙ (λ i. empty i ++ map alternatives_of (f i)) in
    by_second ∙ (λ i. begun i ++ map alternatives_of (s i))

pub with-paths : (P : Parts) (two three : List Alternatives) (ps : List Path) → two ≡ map alternatives_of P.ignore ++ map alternatives_of P.ignorenot
    → three ≡ two ++ map path_alternatives (texts_of ps) → ps ≡ P.paths → three ≡ before_bars P
with-paths P two three ps specs by_paths e = by_paths ∙ (λ i. specs i ++ map path_alternatives (texts_of (e i)))

pub with-bars : (P : Parts) (three four : List Alternatives) (bs : List Partial) → three ≡ before_bars P
    → four ≡ three ++ map alternatives_of (specs_of bs) → bs ≡ P.partial → four ≡ profile_alternatives P
with-bars P three four bs before by_bars e = by_bars ∙ ((λ i. before i ++ map alternatives_of (specs_of (e i))) ∙ sym (bars-last P))

-- If some of a profile's choices are too many, all are.
pub refused-specs : (k : ℕ) (P : Parts) (ls : List Alternatives) (specs : List Specification) → ls ≡ map alternatives_of P.ignore → specs ≡ P.ignorenot
    → k < spots_count (ls ++ map alternatives_of specs) → k < spot_count_of P
refused-specs k P ls specs first second many =
    let counted : spots_count (ls ++ map alternatives_of specs) ≡ spots_count (map alternatives_of P.ignore) + spots_count (map alternatives_of P.ignorenot) =
    spots-append ls (map alternatives_of specs) ∙ (λ i. spots_count (first i) + spots_count (map alternatives_of (second i))) in
    omega (arith, counted, many)

pub refused-paths : HaveSpots → (k : ℕ) (P : Parts) (ls : List Alternatives) (ps : List Path) → ls ≡ map alternatives_of P.ignore ++ map alternatives_of P.ignorenot → ps ≡ P.paths
    → k < spots_count (ls ++ map path_alternatives (texts_of ps)) → k < spot_count_of P
refused-paths law k P ls ps first second many =
    let specs = map alternatives_of P.ignore ++ map alternatives_of P.ignorenot in
    let counted : spots_count (ls ++ map path_alternatives (texts_of ps)) ≡ spots_count specs + text_spots (texts_of P.paths) =
    spots-append ls (map path_alternatives (texts_of ps)) ∙ (λ i. spots_count (first i) + (ap (λ qs. spots_count (map path_alternatives (texts_of qs))) second ∙ spots-paths law (texts_of P.paths)) i) in
    omega (arith, counted, many, spots-append (map alternatives_of P.ignore) (map alternatives_of P.ignorenot))

pub refused-bars : HaveSpots → (k : ℕ) (P : Parts) (ls : List Alternatives) (bs : List Partial) → ls ≡ before_bars P → bs ≡ P.partial
    → k < spots_count (ls ++ map alternatives_of (specs_of bs)) → k < spot_count_of P
refused-bars law k P ls bs before e many =
    let all : ls ++ map alternatives_of (specs_of bs) ≡ profile_alternatives P = with-bars P ls (ls ++ map alternatives_of (specs_of bs)) bs before refl e in
    omega (arith, ap spots_count all, spots-profile law P, many)

specs-append : (bs cs : List Partial) → map alternatives_of (specs_of (bs ++ cs)) ≡ map alternatives_of (specs_of bs) ++ map alternatives_of (specs_of cs)
specs-append [] cs = refl
specs-append (b ∷ bs) cs = ap (λ ls. alternatives_of b.spec ∷ ls) (specs-append bs cs)

-- The choices of the first i bars and of the next one.
pub bars-more : (old now more : List Alternatives) (bs : List Partial) (i : ℕ) (b : Partial) → i < length bs → b ≡ get_or bs i b → more ≡ now ++ alternatives_of b.spec ∷ []
    → now ≡ old ++ map alternatives_of (specs_of (take i bs)) → more ≡ old ++ map alternatives_of (specs_of (take (i + 1) bs))
bars-more old now more bs i b l e m is =
    m
    ∙ (ap (λ ls. ls ++ alternatives_of b.spec ∷ []) is
    ∙ (append_assoc old (map alternatives_of (specs_of (take i bs))) (alternatives_of b.spec ∷ [])
    ∙ ap (λ ls. old ++ ls) (sym (specs-append (take i bs) (b ∷ [])) ∙ ap (λ cs. map alternatives_of (specs_of cs)) (sym (take_more bs i b l ∙ ap (λ r. take i bs ++ r ∷ []) (sym e))))))

-- If the bars up to a place are too many, all are.
pub refused-bar : (k : ℕ) (old now : List Alternatives) (bs : List Partial) (i : ℕ) (b : Partial) → i < length bs → b ≡ get_or bs i b
    → now ≡ old ++ map alternatives_of (specs_of (take i bs)) → k < spots_count (now ++ alternatives_of b.spec ∷ [])
    → k < spots_count (old ++ map alternatives_of (specs_of bs))
refused-bar k old now bs i b l e is many =
    let before = map alternatives_of (specs_of (take (i + 1) bs)) in
    let after = map alternatives_of (specs_of (drop (i + 1) bs)) in
    let all : map alternatives_of (specs_of bs) ≡ before ++ after =
    ap (λ cs. map alternatives_of (specs_of cs)) (sym (take-append-drop (i + 1) bs)) ∙ specs-append (take (i + 1) bs) (drop (i + 1) bs) in
    let had : now ++ alternatives_of b.spec ∷ [] ≡ old ++ before = bars-more old now (now ++ alternatives_of b.spec ∷ []) bs i b l e refl is in
    omega (arith, ap spots_count had, many, spots-append old before, ap spots_count all, spots-append old (map alternatives_of (specs_of bs)), spots-append before after)

-- The ranges of the first i bars and of the next one.
placed-append : (n : ℕ) (bs : List Partial) (b : Partial) → placed_bars n (bs ++ b ∷ []) ≡ placed_bars n bs ++ placed_bar (n + length bs) b ∷ []
placed-append n [] b = ap (λ k. placed_bar k b ∷ []) (omega arith)
placed-append n (c ∷ bs) b =
    let next : n + 1 + length bs ≡ n + length (c ∷ bs) = omega arith in
    ap (λ ps. placed_bar n c ∷ ps) (placed-append (n + 1) bs b ∙ ap (λ k. placed_bars (n + 1) bs ++ placed_bar k b ∷ []) next)

pub placed-more : (n : ℕ) (old now : List Alternatives) (ps qs : List PlacedBar) (bs : List Partial) (i : ℕ) (b : Partial) → n ≡ length old → i < length bs → b ≡ get_or bs i b
    → now ≡ old ++ map alternatives_of (specs_of (take i bs)) → qs ≡ ps ++ placed_bar (length now) b ∷ []
    → ps ≡ placed_bars n (take i bs) → qs ≡ placed_bars n (take (i + 1) bs)
placed-more n old now ps qs bs i b from l e is more had =
    let specs = specs_of (take i bs) in
    let place : length now ≡ n + length (take i bs) =
    ap length is ∙ (length-append old (map alternatives_of specs) ∙ (λ j. sym from j + (length-map specs alternatives_of ∙ length-map (take i bs) (λ (c : Partial). c.spec)) j)) in
    more
    ∙ ((λ j. had j ++ placed_bar (place j) b ∷ [])
    ∙ (sym (placed-append n (take i bs) b) ∙ ap (placed_bars n) (sym (take_more bs i b l ∙ ap (λ r. take i bs ++ r ∷ []) (sym e)))))

texts-append : (ps qs : List Path) → texts_of (ps ++ qs) ≡ texts_of ps ++ texts_of qs
texts-append [] qs = refl
texts-append (p ∷ ps) qs = go (not (length p == 0)) (texts-append ps qs)
  where
    some : List Path → List Path
    some = filter (λ s. not (length s == 0))

    go : (b : Bool) → map text_of (some (ps ++ qs)) ≡ map text_of (some ps) ++ map text_of (some qs)
        → map text_of (cond b (p ∷ some (ps ++ qs)) (some (ps ++ qs))) ≡ map text_of (cond b (p ∷ some ps) (some ps)) ++ map text_of (some qs)
    go true h = ap (λ ts. text_of p ∷ ts) h
    go false h = h

texts-some : (p : Path) (ps : List Path) → 0 < length p → texts_of (p ∷ ps) ≡ text_of p ∷ texts_of ps
texts-some [] ps h = absurd (omega arith)
texts-some (n ∷ p) ps h =
    let some = filter (λ (s : Path). not (length s == 0)) ps in
    (λ i. map text_of (cond (not (nonzero (length p) i)) ((n ∷ p) ∷ some) some))

map-append : (ss ts : List (List ℕ)) → map path_alternatives (ss ++ ts) ≡ map path_alternatives ss ++ map path_alternatives ts
map-append [] ts = refl
map-append (s ∷ ss) ts = ap (λ ls. path_alternatives s ∷ ls) (map-append ss ts)

-- If the kept values up to a place are too many, all are.
pub refused-path : (k : ℕ) (old now : List Alternatives) (ps : List Path) (i : ℕ) (p : Path) → i < length ps → p ≡ get_or ps i p → 0 < length p
    → now ≡ old ++ map path_alternatives (texts_of (take i ps)) → k < spots_count (now ++ path_alternatives (text_of p) ∷ [])
    → k < spots_count (old ++ map path_alternatives (texts_of ps))
refused-path k old now ps i p l e some is many =
    let before = map path_alternatives (texts_of (take i ps)) in
    let after = map path_alternatives (texts_of (drop (i + 1) ps)) in
    let one = path_alternatives (text_of p) in
    let rest : drop i ps ≡ p ∷ drop (i + 1) ps = next-drop ps i p l e in
    let texts : texts_of ps ≡ texts_of (take i ps) ++ text_of p ∷ texts_of (drop (i + 1) ps) =
    ap texts_of (sym (take-append-drop i ps))
    ∙ (texts-append (take i ps) (drop i ps) ∙ ap (λ ts. texts_of (take i ps) ++ ts) (ap texts_of rest ∙ texts-some p (drop (i + 1) ps) some)) in
    let all : map path_alternatives (texts_of ps) ≡ before ++ one ∷ after =
    ap (map path_alternatives) texts ∙ map-append (texts_of (take i ps)) (text_of p ∷ texts_of (drop (i + 1) ps)) in
    let counted : spots_count (old ++ map path_alternatives (texts_of ps)) ≡ spots_count old + spots_count (before ++ one ∷ after) =
    spots-append old (map path_alternatives (texts_of ps)) ∙ ap (λ ls. spots_count old + spots_count ls) all in
    let had : spots_count now ≡ spots_count old + spots_count before = ap spots_count is ∙ spots-append old before in
    omega (arith, counted, had, many, spots-append now (one ∷ []), spots-append before (one ∷ after))

-- An alphabet that mentions what the profile does covers them.
abbrev pub CoversSpecs : List ℕ → Type 0
CoversSpecs ms = (specs : List Specification) → IsTrue (list_all (λ s. mentions ms (spec_characters s)) specs) → IsTrue (list_all (is_covered ms) (map alternatives_of specs))

abbrev pub CoversPaths : List ℕ → Type 0
CoversPaths ms = (p : Path) → mentions ms (path_characters p) ≡ true → is_covered ms (path_alternatives (text_of p)) ≡ true

covers-paths : (ms : List ℕ) → CoversPaths ms → (ps : List Path) → list_all (λ p. mentions ms (path_characters p)) ps ≡ true
    → list_all (is_covered ms) (map path_alternatives (texts_of ps)) ≡ true
covers-paths ms law [] h = refl
covers-paths ms law (p ∷ ps) h =
    let parts = and_parts (mentions ms (path_characters p)) (list_all (λ q. mentions ms (path_characters q)) ps) h in
    go (not (length p == 0)) (law p parts.0) (covers-paths ms law ps parts.1)
  where
    more : List Path
    more = filter (λ s. not (length s == 0)) ps

    go : (b : Bool) → is_covered ms (path_alternatives (text_of p)) ≡ true → list_all (is_covered ms) (map path_alternatives (map text_of more)) ≡ true
        → list_all (is_covered ms) (map path_alternatives (map text_of (cond b (p ∷ more) more))) ≡ true
    go true here rest = (λ i. here i && rest i)
    go false here rest = rest

pub covers-profile : (ms : List ℕ) (P : Parts) → CoversSpecs ms → CoversPaths ms → Mentions ms P → IsTrue (list_all (is_covered ms) (profile_alternatives P))
covers-profile ms P specs paths says =
    let ks = map alternatives_of P.ignore in
    let ls = map alternatives_of P.ignorenot in
    let ns = kept_choices P in
    let bars : list_all (is_covered ms) (bar_choices P) ≡ true =
    specs (partial_specs P) (list_all-map (λ s. mentions ms (spec_characters s)) (λ (b : Partial). b.spec) P.partial ∙ says.partial) in
    list_all-append (is_covered ms) ks (ls ++ (ns ++ bar_choices P))
    ∙ (λ i. specs P.ignore says.ignore i
    && (list_all-append (is_covered ms) ls (ns ++ bar_choices P)
    ∙ (λ j. specs P.ignorenot says.ignorenot j && (list_all-append (is_covered ms) ns (bar_choices P) ∙ (λ k. covers-paths ms paths P.paths says.paths k && bars k)) j)) i)

-- How many pieces match a text with one more character, from how many match the text.
use Rattle.std.proofs.Common.{◌≡◌, ℕ, suc, zero, ◌+◌, Bool, true, false, not, ◌&&◌, ◌||◌, ◌==◌, List, [], ◌∷◌, ◌++◌, map, length, take, refl, sym, ap, ◌∙◌, add-one, append-nil, append_assoc}
use Rattle.std.specs.List.{list_any, range_with_len}
use Rattle.hub_glob.specs.declared.piece.Piece.{Piece}
use Rattle.hub_glob.specs.declared.piece.Piece.TheVariants.{Lit, Any, Run, OneOf}
use Rattle.hub_glob.specs.Glob.{Texts, begins, piece, pieces, no_more}
use Rattle.hub_glob.specs.Taking.{is_star}
use Rattle.hub_text.specs.laws.Test.{agree, and-assoc, same, every4}
use Rattle.std.proofs.Math.Bool.{and-true, and-false, or-false}
use Rattle.hub_glob.specs.laws.OneStep.{nonzero, takes_run, run_step, run_end, pieces-append}
use Rattle.hub_glob.specs.declared.piece.NextCharacter.{NextCharacter}
use Rattle.hub_automaton.specs.Spots.{spots, starts}
use Rattle.hub_automaton.specs.forms.Stepping.{spot_past, stepped_pieces, last_spot, stepped, ended_matches, entered_pieces, entered}

not_empty : (t : List ℕ) (x : ℕ) → (length (t ++ x ∷ []) == 0) ≡ false
not_empty [] x = nonzero 0
not_empty (c ∷ t) x = nonzero (length (t ++ x ∷ []))

-- Pieces that go on in a way which takes one more character at the end of the text, and takes it where `b` says so.
record Takes (K L : Texts) (x : ℕ) (b : Bool) : Type 0 where
  none : (f : Bool) → K f [] ≡ false
  more : (f : Bool) (t : List ℕ) → K f (t ++ x ∷ []) ≡ (L f t && b)

begins-takes : (passes : ℕ → Bool) (K L : Texts) (x : ℕ) (b : Bool) → Takes K L x b → Takes (begins passes K) (begins passes L) x b
begins-takes passes K L x b h = record { none = λ f. refl; more = go } where
  go : (f : Bool) (t : List ℕ) → begins passes K f (t ++ x ∷ []) ≡ (begins passes L f t && b)
  go f [] = ap (λ a. passes x && a) (h.none (x == 47)) ∙ and-false (passes x)
  go f (c ∷ t) = ap (λ a. passes c && a) (h.more (c == 47) t) ∙ and-assoc (passes c) (L (c == 47) t) b

run-takes-more : (K L : Texts) (x : ℕ) (b : Bool) → Takes K L x b → (f : Bool) (t : List ℕ) → piece Run K f (t ++ x ∷ []) ≡ (piece Run L f t && b)
run-takes-more K L x b h f [] =
    run_step f x K [] ∙ (λ i. h.more f [] i || takes_run f x && (run_end (x == 47) K ∙ h.none (x == 47)) i)
    ∙ tidy (L f [] && b) (takes_run f x) ∙ ap (λ a. a && b) (sym (run_end f L))
  where
    tidy : (a c : Bool) → (a || c && false) ≡ a
    tidy a c = same _ _ (every4 (λ a c _ _. agree (a || c && false) a) refl a c true true)
run-takes-more K L x b h f (c ∷ t) =
    run_step f c K (t ++ x ∷ []) ∙ (λ i. h.more f (c ∷ t) i || takes_run f c && run-takes-more K L x b h (c == 47) t i)
    ∙ tidy (L f (c ∷ t)) b (takes_run f c) (piece Run L (c == 47) t) ∙ ap (λ a. a && b) (sym (run_step f c L t))
  where
    tidy : (a b c d : Bool) → (a && b || c && (d && b)) ≡ ((a || c && d) && b)
    tidy a b c d = same _ _ (every4 (λ a b c d. agree (a && b || c && (d && b)) ((a || c && d) && b)) refl a b c d)

piece-takes : (p : Piece) (K L : Texts) (x : ℕ) (b : Bool) → Takes K L x b → Takes (piece p K) (piece p L) x b
piece-takes (Lit c) K L x b h = begins-takes (λ d. d == c) K L x b h
piece-takes Any K L x b h = begins-takes (λ d. not (d == 47)) K L x b h
piece-takes (OneOf cs) K L x b h = begins-takes (λ d. list_any (λ c. c == d) cs) K L x b h
piece-takes Run K L x b h = record { none = λ f. run_end f K ∙ h.none f; more = run-takes-more K L x b h }

pieces-takes : (ps : List Piece) (K L : Texts) (x : ℕ) (b : Bool) → Takes K L x b → Takes (pieces ps K) (pieces ps L) x b
pieces-takes [] K L x b h = h
pieces-takes (p ∷ ps) K L x b h = piece-takes p (pieces ps K) (pieces ps L) x b (pieces-takes ps K L x b h)

last-takes : (passes : ℕ → Bool) (x : ℕ) → Takes (begins passes no_more) no_more x (passes x)
last-takes passes x = record { none = λ f. refl; more = go } where
  go : (f : Bool) (t : List ℕ) → begins passes no_more f (t ++ x ∷ []) ≡ (no_more f t && passes x)
  go f [] = and-true (passes x)
  go f (c ∷ t) = (λ i. passes c && not_empty t x i) ∙ and-false (passes c) ∙ (λ i. sym (nonzero (length t)) i && passes x)

-- The first pieces match a text.
abbrev pub front_matches : List Piece → List ℕ → Bool
front_matches ps t = pieces ps no_more true t

-- A piece that is no `*`, after others.
one_more : (ps : List Piece) (p : Piece) (passes : ℕ → Bool) (t : List ℕ) (x : ℕ) → piece p no_more ≡ begins passes no_more
    → front_matches (ps ++ p ∷ []) (t ++ x ∷ []) ≡ (front_matches ps t && passes x)
one_more ps p passes t x h =
    ap (λ k. k true (t ++ x ∷ [])) (pieces-append ps (p ∷ []) no_more ∙ ap (pieces ps) h)
    ∙ (pieces-takes ps (begins passes no_more) no_more x (passes x) (last-takes passes x)).more true t

-- A `*` after others.
abbrev star : Texts
star = piece Run no_more

abbrev stays : ℕ → Bool → Bool
stays x first = not (x == 47) && not (first && x == 46)

-- At the end of the text a `*` may stand or not.
begins-end : (ps : List Piece) (f : Bool) → pieces ps star f [] ≡ pieces ps no_more f []
begins-end [] f = run_end f no_more
begins-end (Lit c ∷ ps) f = refl
begins-end (Any ∷ ps) f = refl
begins-end (OneOf cs ∷ ps) f = refl
begins-end (Run ∷ ps) f = run_end f (pieces ps star) ∙ begins-end ps f ∙ sym (run_end f (pieces ps no_more))

abbrev Runs : Texts → Texts → Type 0
Runs K N = (x : ℕ) (f : Bool) (t : List ℕ) → K f (t ++ x ∷ []) ≡ (N f (t ++ x ∷ []) || K f t && stays x (starts f t))

begins-runs : (passes : ℕ → Bool) (K N : Texts) → ((f : Bool) → K f [] ≡ N f []) → Runs K N → Runs (begins passes K) (begins passes N)
begins-runs passes K N e h x f [] = ap (λ a. passes x && a) (e (x == 47)) ∙ sym (or-false _)
begins-runs passes K N e h x f (c ∷ t) =
    ap (λ a. passes c && a) (h x (c == 47) t) ∙ tidy (passes c) (N (c == 47) (t ++ x ∷ [])) (K (c == 47) t) (stays x (starts (c == 47) t))
  where
    tidy : (a b c d : Bool) → (a && (b || c && d)) ≡ (a && b || (a && c) && d)
    tidy a b c d = same _ _ (every4 (λ a b c d. agree (a && (b || c && d)) (a && b || (a && c) && d)) refl a b c d)

run-runs : (K N : Texts) → ((f : Bool) → K f [] ≡ N f []) → Runs K N → Runs (piece Run K) (piece Run N)
run-runs K N e h x f [] =
    run_step f x K [] ∙ (λ i. h x f [] i || stays x f && (run_end (x == 47) K ∙ e (x == 47) ∙ sym (run_end (x == 47) N)) i)
    ∙ tidy (N f (x ∷ [])) (K f []) (stays x f) (piece Run N (x == 47) []) ∙ (λ i. sym (run_step f x N []) i || sym (run_end f K) i && stays x f)
  where
    tidy : (a b c d : Bool) → ((a || b && c) || c && d) ≡ ((a || c && d) || b && c)
    tidy a b c d = same _ _ (every4 (λ a b c d. agree ((a || b && c) || c && d) ((a || c && d) || b && c)) refl a b c d)
run-runs K N e h x f (c ∷ t) =
    run_step f c K (t ++ x ∷ []) ∙ (λ i. h x f (c ∷ t) i || takes_run f c && run-runs K N e h x (c == 47) t i)
    ∙ tidy (N f (c ∷ t ++ x ∷ [])) (K f (c ∷ t)) (takes_run f c) (piece Run N (c == 47) (t ++ x ∷ [])) (piece Run K (c == 47) t) (stays x (starts (c == 47) t))
    ∙ (λ i. sym (run_step f c N (t ++ x ∷ [])) i || sym (run_step f c K t) i && stays x (starts (c == 47) t))
  where
    tidy4 : (s a b c d : Bool) → ((a || b && s) || c && (d || false && s)) ≡ ((a || c && d) || (b || c && false) && s)
    tidy4 true a b c d = same _ _ (every4 (λ a b c d. agree ((a || b && true) || c && (d || false && true)) ((a || c && d) || (b || c && false) && true)) refl a b c d)
    tidy4 false a b c d = same _ _ (every4 (λ a b c d. agree ((a || b && false) || c && (d || false && false)) ((a || c && d) || (b || c && false) && false)) refl a b c d)

    tidy5 : (s a b c d : Bool) → ((a || b && s) || c && (d || true && s)) ≡ ((a || c && d) || (b || c && true) && s)
    tidy5 true a b c d = same _ _ (every4 (λ a b c d. agree ((a || b && true) || c && (d || true && true)) ((a || c && d) || (b || c && true) && true)) refl a b c d)
    tidy5 false a b c d = same _ _ (every4 (λ a b c d. agree ((a || b && false) || c && (d || true && false)) ((a || c && d) || (b || c && true) && false)) refl a b c d)

    tidy : (a b c d e s : Bool) → ((a || b && s) || c && (d || e && s)) ≡ ((a || c && d) || (b || c && e) && s)
    tidy a b c d true s = tidy5 s a b c d
    tidy a b c d false s = tidy4 s a b c d

star-runs : Runs star no_more
star-runs x f [] =
    run_step f x no_more [] ∙ (λ i. nonzero 0 i || stays x f && run_end (x == 47) no_more i) ∙ and-true (stays x f)
    ∙ (λ i. sym (nonzero 0) i || sym (run_end f no_more) i && stays x f)
star-runs x f (c ∷ t) =
    run_step f c no_more (t ++ x ∷ []) ∙ (λ i. nonzero (length (t ++ x ∷ [])) i || takes_run f c && (star-runs x (c == 47) t ∙ (λ j. not_empty t x j || star (c == 47) t && stays x (starts (c == 47) t))) i)
    ∙ and-assoc (takes_run f c) (star (c == 47) t) (stays x (starts (c == 47) t))
    ∙ (λ i. sym (nonzero (length (t ++ x ∷ []))) i || (sym (nonzero (length t)) i || takes_run f c && star (c == 47) t) && stays x (starts (c == 47) t))
    ∙ (λ i. no_more f (c ∷ t ++ x ∷ []) || sym (run_step f c no_more t) i && stays x (starts (c == 47) t))

pieces-runs : (ps : List Piece) → Runs (pieces ps star) (pieces ps no_more)
pieces-runs [] = star-runs
pieces-runs (Lit c ∷ ps) = begins-runs (λ d. d == c) (pieces ps star) (pieces ps no_more) (begins-end ps) (pieces-runs ps)
pieces-runs (Any ∷ ps) = begins-runs (λ d. not (d == 47)) (pieces ps star) (pieces ps no_more) (begins-end ps) (pieces-runs ps)
pieces-runs (OneOf cs ∷ ps) = begins-runs (λ d. list_any (λ c. c == d) cs) (pieces ps star) (pieces ps no_more) (begins-end ps) (pieces-runs ps)
pieces-runs (Run ∷ ps) = run-runs (pieces ps star) (pieces ps no_more) (begins-end ps) (pieces-runs ps)

star_more : (ps : List Piece) (t : List ℕ) (x : ℕ)
    → front_matches (ps ++ Run ∷ []) (t ++ x ∷ []) ≡ (front_matches ps (t ++ x ∷ []) || front_matches (ps ++ Run ∷ []) t && stays x (starts true t))
star_more ps t x =
    ap (λ k. k true (t ++ x ∷ [])) (pieces-append ps (Run ∷ []) no_more) ∙ pieces-runs ps x true t
    ∙ (λ i. front_matches ps (t ++ x ∷ []) || sym (pieces-append ps (Run ∷ []) no_more) i true t && stays x (starts true t))

-- The character after a text.
abbrev pub next_of : List ℕ → ℕ → NextCharacter
next_of t x = record { character = x; first = starts true t }

-- The spot after a piece.
pub spot_law : (ps : List Piece) (p : Piece) (t : List ℕ) (x : ℕ)
    → front_matches (ps ++ p ∷ []) (t ++ x ∷ [])
    ≡ spot_past (next_of t x) p (front_matches ps t) (front_matches (ps ++ p ∷ []) t) (front_matches ps (t ++ x ∷ []))
spot_law ps (Lit c) t x = one_more ps (Lit c) (λ d. d == c) t x refl
spot_law ps Any t x = one_more ps Any (λ d. not (d == 47)) t x refl
spot_law ps (OneOf cs) t x = one_more ps (OneOf cs) (λ d. list_any (λ c. c == d) cs) t x refl
spot_law ps Run t x = star_more ps t x

-- The spot after a piece in the empty text.
pub empty_law : (ps : List Piece) (p : Piece) → front_matches (ps ++ p ∷ []) [] ≡ (is_star p && front_matches ps [])
empty_law ps (Lit c) = ap (λ k. k true []) (pieces-append ps (Lit c ∷ []) no_more) ∙ (pieces-takes ps (begins (λ d. d == c) no_more) no_more 0 (0 == c) (last-takes (λ d. d == c) 0)).none true
empty_law ps Any = ap (λ k. k true []) (pieces-append ps (Any ∷ []) no_more) ∙ (pieces-takes ps (begins (λ d. not (d == 47)) no_more) no_more 0 true (last-takes (λ d. not (d == 47)) 0)).none true
empty_law ps (OneOf cs) =
    ap (λ k. k true []) (pieces-append ps (OneOf cs ∷ []) no_more)
    ∙ (pieces-takes ps (begins (λ d. list_any (λ c. c == d) cs) no_more) no_more 0 (list_any (λ c. c == 0) cs) (last-takes (λ d. list_any (λ c. c == d) cs) 0)).none true
empty_law ps Run = ap (λ k. k true []) (pieces-append ps (Run ∷ []) no_more) ∙ begins-end ps true

-- The spots of a choice, one after another from the front.
abbrev pub spots_after : List Piece → List Piece → List ℕ → List Bool
spots_after front [] t = []
spots_after front (p ∷ ps) t = front_matches (front ++ p ∷ []) t ∷ spots_after (front ++ p ∷ []) ps t

range_shift : {X : Type 0} (F : ℕ → X) (a n : ℕ) → map F (range_with_len (a + 1) n) ≡ map (λ i. F (i + 1)) (range_with_len a n)
range_shift F a zero = refl
range_shift F a (suc n) = ap (λ xs. F (a + 1) ∷ xs) (range_shift F (a + 1) n)

spots_from : (front ps : List Piece) (t : List ℕ) → map (λ i. front_matches (front ++ take i ps) t) (range_with_len 0 (suc (length ps))) ≡ front_matches front t ∷ spots_after front ps t
spots_from front [] t = ap (λ c. front_matches c t ∷ []) (append-nil front)
spots_from front (p ∷ ps) t =
    (λ i. front_matches (append-nil front i) t ∷ range_shift (λ i. front_matches (front ++ take i (p ∷ ps)) t) 0 (suc (length ps)) i)
    ∙ ap (λ xs. front_matches front t ∷ xs)
    ((λ j. map (λ i. front_matches (front ++ take (add-one i j) (p ∷ ps)) t) (range_with_len 0 (suc (length ps))))
    ∙ (λ j. map (λ i. front_matches (sym (append_assoc front (p ∷ []) (take i ps)) j) t) (range_with_len 0 (suc (length ps))))
    ∙ spots_from (front ++ p ∷ []) ps t)

pub spots_are : (ps : List Piece) (t : List ℕ) → spots ps t ≡ front_matches [] t ∷ spots_after [] ps t
spots_are ps t = ap (λ n. map (λ i. front_matches (take i ps) t) (range_with_len 0 n)) (add-one (length ps)) ∙ spots_from [] ps t

stepped_law : (front ps : List Piece) (t : List ℕ) (x : ℕ) (rest : List Bool)
    → stepped_pieces (next_of t x) (front_matches front t) (front_matches front (t ++ x ∷ [])) ps (spots_after front ps t ++ rest) ≡ spots_after front ps (t ++ x ∷ [])
stepped_law front [] t x rest = refl
stepped_law front (p ∷ ps) t x rest =
    (λ i. sym (spot_law front p t x) i ∷ stepped_pieces (next_of t x) (front_matches (front ++ p ∷ []) t) (sym (spot_law front p t x) i) ps (spots_after (front ++ p ∷ []) ps t ++ rest))
    ∙ ap (λ xs. front_matches (front ++ p ∷ []) (t ++ x ∷ []) ∷ xs) (stepped_law (front ++ p ∷ []) ps t x rest)

-- The spots of a choice, with one more character.
pub choice_law : (c : List Piece) (t : List ℕ) (x : ℕ) (rest : List Bool) → stepped (next_of t x) c (spots c t ++ rest) ≡ spots c (t ++ x ∷ [])
choice_law c t x rest =
    ap (λ xs. stepped (next_of t x) c (xs ++ rest)) (spots_are c t)
    ∙ (λ i. false ∷ stepped_pieces (next_of t x) (front_matches [] t) (sym (not_empty t x) i) c (spots_after [] c t ++ rest))
    ∙ (λ i. sym (not_empty t x) i ∷ stepped_law [] c t x rest i)
    ∙ sym (spots_are c (t ++ x ∷ []))

last_law : (front ps : List Piece) (t : List ℕ) (rest : List Bool) → last_spot (front_matches front t) ps (spots_after front ps t ++ rest) ≡ front_matches (front ++ ps) t
last_law front [] t rest = ap (λ c. front_matches c t) (sym (append-nil front))
last_law front (p ∷ ps) t rest = last_law (front ++ p ∷ []) ps t rest ∙ ap (λ c. front_matches c t) (append_assoc front (p ∷ []) ps)

-- The last spot of a choice says whether the choice matches.
pub ended_law : (c : List Piece) (t : List ℕ) (rest : List Bool) → ended_matches c (spots c t ++ rest) ≡ front_matches c t
ended_law c t rest = ap (λ xs. ended_matches c (xs ++ rest)) (spots_are c t) ∙ last_law [] c t rest

entered_law : (front ps : List Piece) → entered_pieces (front_matches front []) ps ≡ spots_after front ps []
entered_law front [] = refl
entered_law front (p ∷ ps) =
    (λ i. sym (empty_law front p) i ∷ entered_pieces (sym (empty_law front p) i) ps) ∙ ap (λ xs. front_matches (front ++ p ∷ []) [] ∷ xs) (entered_law (front ++ p ∷ []) ps)

pub empty_spots : (c : List Piece) → entered c ≡ spots c []
empty_spots c = ap (λ xs. true ∷ xs) (entered_law [] c) ∙ sym (spots_are c [])

length-spots_after : (front ps : List Piece) (t : List ℕ) → length (spots_after front ps t) ≡ length ps
length-spots_after front [] t = refl
length-spots_after front (p ∷ ps) t = ap suc (length-spots_after (front ++ p ∷ []) ps t)

pub length-spots : (c : List Piece) (t : List ℕ) → length (spots c t) ≡ length c + 1
length-spots c t = ap length (spots_are c t) ∙ ap suc (length-spots_after [] c t) ∙ sym (add-one (length c))

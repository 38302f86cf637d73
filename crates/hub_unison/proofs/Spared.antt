-- The spares that loops find.
use Rattle.std.proofs.Common.{◌≡◌, ◌<◌, ◌+◌, ℕ, Bool, List, [], ◌∷◌, ◌++◌, map, length, get_or, take, drop, refl, sym, ap, ◌∙◌, append_assoc}
use Rattle.std.specs.Prelude.{flat_map}
use Rattle.std.proofs.lemmas.List.{take_more, drop_more, flat_map_more}
use Rattle.hub_glob.specs.declared.piece.Piece.{Piece}
use Rattle.hub_unison.specs.Spares.{spares, opening, is_slash}

-- The spares of pieces: those that are left.
map-after : (xs : List Piece) (p : Piece) (ds : List (List Piece))
    → map (λ d. xs ++ d) (map (λ d. p ∷ d) ds) ≡ map (λ d. (xs ++ p ∷ []) ++ d) ds
map-after xs p [] = refl
map-after xs p (d ∷ ds) = (λ i. sym (append_assoc xs (p ∷ []) d) i ∷ map-after xs p ds i)

map-both : (xs : List Piece) (cs ds : List (List Piece))
    → map (λ d. xs ++ d) (cs ++ ds) ≡ map (λ d. xs ++ d) cs ++ map (λ d. xs ++ d) ds
map-both xs [] ds = refl
map-both xs (c ∷ cs) ds = ap (λ es. (xs ++ c) ∷ es) (map-both xs cs ds)

pub spares-step : (first : Bool) (before rest ps : List Piece) (p : Piece)
    (old new whole : List (List Piece)) → rest ≡ p ∷ ps
    → old ++ map (λ d. before ++ d) (spares first rest) ≡ whole
    → new ≡ old ++ map (λ d. before ++ d) (opening first rest)
    → new ++ map (λ d. (before ++ p ∷ []) ++ d) (spares (is_slash p) ps) ≡ whole
spares-step first before rest ps p old new whole is kept added =
    (λ i. added i ++ sym (map-after before p (spares (is_slash p) ps)) i)
    ∙ (append_assoc old (map (λ d. before ++ d) (opening first rest)) (map (λ d. before ++ d) tails)
    ∙ (ap (λ ds. old ++ ds) (sym (map-both before (opening first rest) tails))
    ∙ ((λ i. old ++ map (λ d. before ++ d) (opening first (is i) ++ tails))
    ∙ ((λ i. old ++ map (λ d. before ++ d) (spares first (sym is i))) ∙ kept))))
  where
    tails : List (List Piece)
    tails = map (λ d. p ∷ d) (spares (is_slash p) ps)

pub spares-at : (first : Bool) (xs : List Piece) (i : ℕ) (p : Piece)
    (old new whole : List (List Piece)) → i < length xs → p ≡ get_or xs i p
    → old ++ map (λ d. take i xs ++ d) (spares first (drop i xs)) ≡ whole
    → new ≡ old ++ map (λ d. take i xs ++ d) (opening first (drop i xs))
    → new ++ map (λ d. take (i + 1) xs ++ d) (spares (is_slash p) (drop (i + 1) xs)) ≡ whole
spares-at first xs i p old new whole l e kept added =
    (λ j. new ++ map (λ d. (take_more xs i p l ∙ ap (λ q. take i xs ++ q ∷ []) (sym e)) j ++ d)
    (spares (is_slash p) (drop (i + 1) xs)))
    ∙ spares-step first (take i xs) (drop i xs) (drop (i + 1) xs) p old new whole
    (drop_more xs i p l ∙ ap (λ q. q ∷ drop (i + 1) xs) (sym e)) kept added

map-same : (ds : List (List Piece)) → map (λ d. d) ds ≡ ds
map-same [] = refl
map-same (d ∷ ds) = ap (λ es. d ∷ es) (map-same ds)

pub spares-begun : (old ds : List (List Piece)) → old ++ map (λ d. d) ds ≡ old ++ ds
spares-begun old ds = ap (λ es. old ++ es) (map-same ds)

-- The spares of the choices so far.
pub spares-more : (f : List Piece → List (List Piece)) (xs : List (List Piece)) (i : ℕ)
    (x : List Piece) (old new : List (List Piece)) → i < length xs → x ≡ get_or xs i x
    → old ≡ flat_map f (take i xs) → new ≡ old ++ f x → new ≡ flat_map f (take (i + 1) xs)
spares-more f xs i x old new l e so_far added =
    added ∙ (ap (λ ds. ds ++ f x) so_far
    ∙ (flat_map_more f [] (take i xs) x
    ∙ ap (flat_map f) (ap (λ y. take i xs ++ y ∷ []) e ∙ sym (take_more xs i x l))))

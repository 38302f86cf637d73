-- What a specification mentions its choices mention.
use Rattle.std.proofs.Common.{◌≡◌, ℕ, Bool, true, ◌||◌, List, [], ◌∷◌, ◌++◌, map, refl, ◌∙◌}
use Rattle.std.specs.List.{list_all, flat_map}
use Rattle.std.proofs.lemmas.Bool.{and_from, and_parts}
use Rattle.std.proofs.lemmas.List.Folds.{list_all-append}
use Rattle.hub_glob.specs.declared.piece.Piece.{Piece}
use Rattle.hub_glob.specs.declared.piece.Part.{Part}
use Rattle.hub_glob.specs.declared.piece.Part.TheVariants.{One, Brace}
use Rattle.hub_glob.specs.Specification.{Specification}
use Rattle.hub_glob.specs.Glob.{choices}
use Rattle.hub_automaton.specs.Alphabet.{is_never_mentioned, is_mentioned, mentions, piece_characters, pieces_characters, part_characters, spec_characters}
use Rattle.hub_automaton.specs.Spots.{alternatives_of, is_covered}
use Rattle.hub_automaton.specs.laws.AddedInTurn.{parts-mentioned}

-- The characters that a pattern mentions are those of its choices.
abbrev covers : List ℕ → List Piece → Bool
covers ms c = mentions ms (pieces_characters c)

all-join : (p : List Piece → Bool) (xs ys : List (List Piece)) → list_all p xs ≡ true → list_all p ys ≡ true → list_all p (xs ++ ys) ≡ true
all-join p xs ys h k = list_all-append p xs ys ∙ and_from (list_all p xs) (list_all p ys) h k

pub mentions-join : (ms cs ds : List ℕ) → mentions ms cs ≡ true → mentions ms ds ≡ true → mentions ms (cs ++ ds) ≡ true
mentions-join ms cs ds h k = list_all-append (λ c. is_never_mentioned c || is_mentioned ms c) cs ds ∙ and_from (mentions ms cs) (mentions ms ds) h k

covers-append : (ms : List ℕ) (c d : List Piece) → covers ms c ≡ true → covers ms d ≡ true → covers ms (c ++ d) ≡ true
covers-append ms [] d h k = k
covers-append ms (p ∷ c) d h k =
    let w = parts-mentioned ms (piece_characters p) (pieces_characters c) h in
    mentions-join ms (piece_characters p) (pieces_characters (c ++ d)) w.0 (covers-append ms c d w.1 k)

covered-onto : (ms : List ℕ) (p : Piece) (cs : List (List Piece)) → mentions ms (piece_characters p) ≡ true → list_all (covers ms) cs ≡ true
    → list_all (covers ms) (map (λ c. p ∷ c) cs) ≡ true
covered-onto ms p [] h k = refl
covered-onto ms p (c ∷ cs) h k =
    let w = and_parts (covers ms c) (list_all (covers ms) cs) k in
    and_from (covers ms (p ∷ c)) (list_all (covers ms) (map (λ d. p ∷ d) cs)) (mentions-join ms (piece_characters p) (pieces_characters c) h w.0) (covered-onto ms p cs h w.1)

covered-front : (ms : List ℕ) (c : List Piece) (ds : List (List Piece)) → covers ms c ≡ true → list_all (covers ms) ds ≡ true
    → list_all (covers ms) (map (λ d. c ++ d) ds) ≡ true
covered-front ms c [] h k = refl
covered-front ms c (d ∷ ds) h k =
    let w = and_parts (covers ms d) (list_all (covers ms) ds) k in
    and_from (covers ms (c ++ d)) (list_all (covers ms) (map (λ e. c ++ e) ds)) (covers-append ms c d h w.0) (covered-front ms c ds h w.1)

covered-fronts : (ms : List ℕ) (cs ds : List (List Piece)) → mentions ms (flat_map pieces_characters cs) ≡ true → list_all (covers ms) ds ≡ true
    → list_all (covers ms) (flat_map (λ c. map (λ d. c ++ d) ds) cs) ≡ true
covered-fronts ms [] ds h k = refl
covered-fronts ms (c ∷ cs) ds h k =
    let w = parts-mentioned ms (pieces_characters c) (flat_map pieces_characters cs) h in
    all-join (covers ms) (map (λ d. c ++ d) ds) (flat_map (λ e. map (λ d. e ++ d) ds) cs) (covered-front ms c ds w.0 k) (covered-fronts ms cs ds w.1 k)

choices_covered : (ms : List ℕ) (ps : List Part) → mentions ms (flat_map part_characters ps) ≡ true → list_all (covers ms) (choices ps) ≡ true
choices_covered ms [] h = refl
choices_covered ms (One p ∷ ps) h =
    let w = parts-mentioned ms (piece_characters p) (flat_map part_characters ps) h in covered-onto ms p (choices ps) w.0 (choices_covered ms ps w.1)
choices_covered ms (Brace cs ∷ ps) h =
    let w = parts-mentioned ms (flat_map pieces_characters cs) (flat_map part_characters ps) h in covered-fronts ms cs (choices ps) w.0 (choices_covered ms ps w.1)

pub all_covered : (ms : List ℕ) (specs : List Specification) → list_all (λ s. mentions ms (spec_characters s)) specs ≡ true → list_all (is_covered ms) (map alternatives_of specs) ≡ true
all_covered ms [] h = refl
all_covered ms (s ∷ specs) h =
    let w = and_parts (mentions ms (spec_characters s)) (list_all (λ r. mentions ms (spec_characters r)) specs) h in
    and_from (is_covered ms (alternatives_of s)) (list_all (is_covered ms) (map alternatives_of specs)) (choices_covered ms s.pattern w.0) (all_covered ms specs w.1)

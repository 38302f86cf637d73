-- Patterns read beside a text.
use Rattle.std.proofs.Common.{◌≡◌, ◌∙◌, ◌==◌, ◌<◌, ℕ, Bool, true, false, ◌&&◌, List, [], ◌∷◌, ◌++◌, length, drop, get_or, refl, sym, ap, arith}
use Rattle.std.specs.Prelude.{IsTrue, Some, None, chars, encode_utf8_all}
use Rattle.std.proofs.lemmas.Option.{same_Some}
use Rattle.std.proofs.lemmas.Str.{chars-encodes}
use Rattle.std.proofs.lemmas.List.{drop_all}
use Rattle.hub_text.specs.laws.TextChars.{next_character}
use Rattle.hub_path.specs.Path.{Path, is_place, text_of}
use Rattle.hub_path.specs.laws.Text.{scalars-text}
use Rattle.hub_glob.specs.declared.piece.Piece.TheVariants.{Lit, Any, Run, OneOf}
use Rattle.hub_glob.specs.declared.piece.Part.{Part}
use Rattle.hub_glob.specs.declared.piece.Part.TheVariants.{One, Brace}
use Rattle.hub_fronts.specs.Fronts.{begins_like, first_literal}

pub value-chars : (v : Path) (bs : List ℕ) → IsTrue (is_place v) → bs ≡ encode_utf8_all (text_of v) → chars bs ≡ text_of v
value-chars v bs h e = ap chars e ∙ chars-encodes (text_of v) (scalars-text v h)

-- Nothing is compared with the empty text, or by a pattern that begins with no literal character.
like-empty : (ps : List Part) → begins_like ps [] ≡ true
like-empty [] = refl
like-empty (Brace cs ∷ ps) = refl
like-empty (One Any ∷ ps) = refl
like-empty (One Run ∷ ps) = refl
like-empty (One (OneOf cs) ∷ ps) = refl
like-empty (One (Lit c) ∷ ps) = refl

like-open : (ps : List Part) (t : List ℕ) → first_literal ps ≡ None → begins_like ps t ≡ true
like-open [] t h = refl
like-open (Brace cs ∷ ps) t h = refl
like-open (One Any ∷ ps) t h = refl
like-open (One Run ∷ ps) t h = refl
like-open (One (OneOf cs) ∷ ps) t h = refl
like-open (One (Lit c) ∷ ps) t h = cc

like-literal : (ps : List Part) (c d : ℕ) (t : List ℕ) → first_literal ps ≡ Some c → begins_like ps (d ∷ t) ≡ (c == d && begins_like (drop 1 ps) t)
like-literal [] c d t h = cc
like-literal (Brace cs ∷ ps) c d t h = cc
like-literal (One Any ∷ ps) c d t h = cc
like-literal (One Run ∷ ps) c d t h = cc
like-literal (One (OneOf cs) ∷ ps) c d t h = cc
like-literal (One (Lit e) ∷ ps) c d t h = ap (λ x. x == d && begins_like ps t) (same_Some e c h)

-- At the next character of a text.
pub turn-open : (ps : List Part) (ys cs : List ℕ) (w : Bool) → first_literal ps ≡ None → begins_like ps (drop (length ys) cs) ≡ w → true ≡ w
turn-open ps ys cs w h inv = sym (like-open ps (drop (length ys) cs) h) ∙ inv

pub turn-literal : (ps : List Part) (c d : ℕ) (ys cs : List ℕ) (w : Bool) → first_literal ps ≡ Some c → (length ys < length cs) × (d ≡ get_or cs (length ys) d) → begins_like ps (drop (length ys) cs) ≡ w
    → (c == d && begins_like (drop 1 ps) (drop (length (ys ++ d ∷ [])) cs)) ≡ w
turn-literal ps c d ys cs w h turn inv =
    sym (like-literal ps c d (drop (length (ys ++ d ∷ [])) cs) h) ∙ (ap (begins_like ps) (sym (next_character cs ys d turn)) ∙ inv)

pub turn-differs : (ps : List Part) (c d : ℕ) (ys cs : List ℕ) (w : Bool) → first_literal ps ≡ Some c → (c == d) ≡ false → (length ys < length cs) × (d ≡ get_or cs (length ys) d) → begins_like ps (drop (length ys) cs) ≡ w
    → false ≡ w
turn-differs ps c d ys cs w h differs turn inv =
    sym (ap (λ b. b && begins_like (drop 1 ps) (drop (length (ys ++ d ∷ [])) cs)) differs) ∙ turn-literal ps c d ys cs w h turn inv

pub turn-same : (ps others : List Part) (c d : ℕ) (ys cs : List ℕ) (w : Bool) → first_literal ps ≡ Some c → (c == d) ≡ true → others ≡ drop 1 ps → (length ys < length cs) × (d ≡ get_or cs (length ys) d)
    → begins_like ps (drop (length ys) cs) ≡ w → begins_like others (drop (length (ys ++ d ∷ [])) cs) ≡ w
turn-same ps others c d ys cs w h agrees rest turn inv =
    let rest-of = drop (length (ys ++ d ∷ [])) cs in
    ap (λ o. begins_like o rest-of) rest
    ∙ (sym (ap (λ b. b && begins_like (drop 1 ps) rest-of) agrees) ∙ turn-literal ps c d ys cs w h turn inv)

pub turn-end : (ps : List Part) (ys cs : List ℕ) (w : Bool) → cs ≡ ys → begins_like ps (drop (length ys) cs) ≡ w → true ≡ w
turn-end ps ys cs w all inv = sym (ap (begins_like ps) (ap (drop (length ys)) all ∙ drop_all (length ys) ys (omega arith)) ∙ like-empty ps) ∙ inv

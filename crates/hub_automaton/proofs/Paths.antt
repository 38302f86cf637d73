-- Paths as choices.
use Rattle.std.proofs.Common.{◌≡◌, inl, inr, ⊎_elim, ◌<◌, ℕ, ◌+◌, Bool, true, ◌&&◌, ◌==◌, List, [], ◌∷◌, ◌++◌, map, length, refl, sym, ap, ◌∙◌, arith}
use Rattle.std.specs.Prelude.{nat_eq, chars, encode_utf8_all}
use Rattle.std.specs.List.{flat_map}
use Rattle.std.proofs.lemmas.Str.{chars-encodes}
use Rattle.std.proofs.lemmas.List.{length-map}
use Rattle.std.proofs.lemmas.Bool.{and_from}
use Rattle.std.proofs.lemmas.Bool.Decides.{nat_tests, Decides-like, same_from_decides}
use Rattle.hub_path.specs.Path.{Path, name_eq, path_eq, is_place, is_path, text_of, path_of}
use Rattle.hub_path.specs.laws.General.{name_eq-decides, path_eq-decides, path_of-text_of, text_of-path_of}
use Rattle.hub_path.specs.laws.Text.{scalars-text}
use Rattle.std.proofs.Math.Bool.{and-true, or-false}
use Rattle.hub_glob.specs.declared.piece.Piece.TheVariants.{Lit}
use Rattle.hub_glob.specs.Glob.{pieces, no_more}
use Rattle.hub_glob.specs.laws.OneStep.{nonzero}
use Rattle.hub_automaton.specs.declared.alternatives.Alternatives.{Alternatives}
use Rattle.hub_automaton.specs.declared.alternatives.TheConstants.{SPOTS}
use Rattle.hub_automaton.specs.declared.fault.AutomatonFault.{AutomatonFault}
use Rattle.hub_automaton.specs.Alphabet.{IsAlphabet, is_mentioned, mentions, piece_characters, path_characters}
use Rattle.hub_automaton.specs.Spots.{path_alternatives, is_matched, is_covered, spots_count, RefusesSpots}
use Rattle.hub_automaton.specs.laws.AddedInTurn.{parts-mentioned, spots-append}
use Rattle.hub_automaton.proofs.Covered.{mentions-join}

flip : (x c : ℕ) → (x == c) ≡ nat_eq c x
flip x c = grind (arith, nat_tests)

literals_match : (u : List ℕ) (first : Bool) (t : List ℕ) → pieces (map Lit u) no_more first t ≡ name_eq u t
literals_match [] first [] = refl
literals_match [] first (c ∷ t) = nonzero (length t)
literals_match (c ∷ u) first [] = refl
literals_match (c ∷ u) first (d ∷ t) = λ i. flip d c i && literals_match u (d == 47) t i

-- A text is that of a path exactly where it is cut into the path.
same_text : (s : Path) (t : List ℕ) → is_path s ≡ true → name_eq (text_of s) t ≡ path_eq s (path_of t)
same_text s t h =
    same_from_decides (name_eq (text_of s) t) (path_eq s (path_of t))
    (Decides-like (name_eq (text_of s) t) (λ e. sym (path_of-text_of s h) ∙ ap path_of e) (λ e. ap text_of e ∙ text_of-path_of t) (name_eq-decides (text_of s) t))
    (path_eq-decides s (path_of t))

pub text_law : (s t : List ℕ) → is_matched (path_alternatives s) t ≡ name_eq s t
text_law s t = or-false (pieces (map Lit s) no_more true t) ∙ literals_match s true t

pub path_law : (s : Path) (t : List ℕ) → is_path s ≡ true → is_matched (path_alternatives (text_of s)) t ≡ path_eq s (path_of t)
path_law s t h = text_law (text_of s) t ∙ same_text s t h

literals_characters : (s : List ℕ) → s ≡ flat_map piece_characters (map Lit s)
literals_characters [] = refl
literals_characters (c ∷ s) = ap (λ t. c ∷ t) (literals_characters s)

pub path_covered : (ms s : List ℕ) → mentions ms s ≡ true → is_covered ms (path_alternatives s) ≡ true
path_covered ms s h = and-true (mentions ms (flat_map piece_characters (map Lit s))) ∙ ap (mentions ms) (sym (literals_characters s)) ∙ h

pub text_mentioned : (ms : List ℕ) (p : Path) → IsAlphabet ms → mentions ms (path_characters p) ≡ true → mentions ms (text_of p) ≡ true
text_mentioned ms [] a h = refl
text_mentioned ms (n ∷ []) a h = (parts-mentioned ms n [] h).0
text_mentioned ms (n ∷ m ∷ p) a h =
    let w = parts-mentioned ms n (path_characters (m ∷ p)) h in
    mentions-join ms n (47 ∷ text_of (m ∷ p)) w.0 (and_from (is_mentioned ms 47) (mentions ms (text_of (m ∷ p))) a.slash (text_mentioned ms (m ∷ p) a w.1))

pub path_spots : (s : List ℕ) → spots_count (path_alternatives s ∷ []) ≡ length s + 1
path_spots s = omega (arith, length-map s Lit)

-- The bytes of a path's text are its characters.
pub text_chars : (p : Path) (bs : List ℕ) → is_place p ≡ true → bs ≡ encode_utf8_all (text_of p) → chars bs ≡ text_of p
text_chars p bs h e = ap chars e ∙ chars-encodes (text_of p) (scalars-text p h)

-- Choices that are refused after some are refused before further ones.
pub refused_more : (ls rest whole : List Alternatives) (a : Alternatives) (e : AutomatonFault) → ls ++ a ∷ rest ≡ whole → RefusesSpots (ls ++ a ∷ []) e → RefusesSpots whole e
refused_more ls rest whole a e h r =
    ⊎_elim (λ none. inl none)
    (λ many.
    let over : SPOTS < spots_count (ls ++ a ∷ []) = many.1 in
    let all : SPOTS < spots_count whole = omega (arith, over, spots-append ls (a ∷ []), spots-append ls (a ∷ rest), ap spots_count h) in
    inr (many.0, all)) r

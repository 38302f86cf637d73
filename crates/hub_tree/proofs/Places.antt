-- The texts of paths that are met on a walk.
use Rattle.std.proofs.Common.{◌≡◌, ℕ, ◌<◌, List, [], ◌∷◌, ◌++◌, length, sym, ap, ◌∙◌, arith, append_assoc, length-append, lit<, subst}
use Rattle.std.specs.Prelude.{IsTrue, chars}
use Rattle.std.specs.Str.{encode_utf8_all}
use Rattle.std.proofs.lemmas.Str.{chars-encodes, encodes-append, encode_ascii}
use Rattle.hub_path.specs.Path.{Name, Path, is_path, path_of, text_of, parent, last_name}
use Rattle.hub_path.specs.laws.General.{path_of-text_of}
use Rattle.hub_path.specs.laws.ReadBack.{path-place}
use Rattle.hub_path.specs.laws.Text.{path_of-parts, scalars-text, text_of-push}

-- The text of a path with one more name.
pub text-below : (p : Path) (n : Name) → 0 < length p
    → (encode_utf8_all (text_of p) ++ 47 ∷ []) ++ encode_utf8_all n ≡ encode_utf8_all (text_of (p ++ n ∷ []))
text-below p n some =
    sym (ap encode_utf8_all (text_of-push p n some)
    ∙ (encodes-append (text_of p) (47 ∷ n)
    ∙ (ap (λ t. encode_utf8_all (text_of p) ++ (t ++ encode_utf8_all n)) (encode_ascii 47 (lit< tt))
    ∙ sym (append_assoc (encode_utf8_all (text_of p)) (47 ∷ []) (encode_utf8_all n)))))

-- The same after other bytes.
pub appended-below : (old : List ℕ) (p : Path) (n : Name) → 0 < length p
    → ((old ++ encode_utf8_all (text_of p)) ++ 47 ∷ []) ++ encode_utf8_all n ≡ old ++ encode_utf8_all (text_of (p ++ n ∷ []))
appended-below old p n some =
    ap (λ t. t ++ encode_utf8_all n) (append_assoc old (encode_utf8_all (text_of p)) (47 ∷ []))
    ∙ append_assoc old (encode_utf8_all (text_of p) ++ 47 ∷ []) (encode_utf8_all n)
    ∙ ap (λ t. old ++ t) (text-below p n some)

-- Each text has a name, if only an empty one.
pub some_name : (t : List ℕ) → 0 < length (path_of t)
some_name t =
    subst (λ (p : Path). 0 < length p) (path_of-parts t)
    (omega (arith, length-append (parent (path_of t)) (last_name (path_of t) ∷ [])))

-- The names of the text of a path are the path.
pub names-of-text : (p : Path) → IsTrue (is_path p) → path_of (chars (encode_utf8_all (text_of p))) ≡ p
names-of-text p h = ap path_of (chars-encodes (text_of p) (scalars-text p (path-place p h))) ∙ path_of-text_of p h

-- Paths and their texts, in UTF-8.
use Rattle.std.proofs.Common.{◌≡◌, ℕ, ◌<◌, ◌≤◌, List, [], ◌∷◌, ◌++◌, length, refl, sym, ap, ◌∙◌, arith, append_assoc, lit<}
use Rattle.std.specs.Prelude.{IsTrue, chars}
use Rattle.std.specs.Str.{encode_utf8_all, IsUtf8, bytes_eq}
use Rattle.std.specs.declared.cmp.Ordering.TheVariants.{Equal}
use Rattle.std.proofs.lemmas.Cmp.{tied_itself, nat_list_cmp_total}
use Rattle.std.proofs.lemmas.Bool.Decides.{same_from_decides, Decides-like}
use Rattle.std.proofs.lemmas.Slice.Eq.{bytes_eq-Decides, slice_eq-Decides}
use Rattle.std.proofs.lemmas.Str.{encodes-chars, encodes-append, encode_ascii}
use Rattle.hub_path.specs.Path.{Name, Path, is_place, path_eq, path_of, text_of}
use Rattle.hub_path.specs.laws.General.{name_eq-decides, path_cmp-exact, text_of-path_of}
use Rattle.hub_path.specs.laws.TextOrder.{ranks, text_cmp, bytes-cmp}
use Rattle.hub_path.specs.laws.Text.{text_of-push}

text_cmp-itself : (us : List ℕ) → text_cmp us us ≡ Equal
text_cmp-itself us = tied_itself nat_list_cmp_total (ranks us)

-- Paths are equal where their texts are.
same-path : (p q : Path) → IsTrue (is_place p) → IsTrue (is_place q) → encode_utf8_all (text_of p) ≡ encode_utf8_all (text_of q) → p ≡ q
same-path p q h k e =
    path_cmp-exact p q (sym (bytes-cmp p q h k) ∙ (ap (text_cmp (encode_utf8_all (text_of p))) (sym e) ∙ text_cmp-itself (encode_utf8_all (text_of p))))

pub texts-eq : (p q : Path) → IsTrue (is_place p) → IsTrue (is_place q) → bytes_eq (encode_utf8_all (text_of p)) (encode_utf8_all (text_of q)) ≡ path_eq p q
texts-eq p q h k =
    same_from_decides _ _
    (Decides-like (bytes_eq (encode_utf8_all (text_of p)) (encode_utf8_all (text_of q))) (λ e. same-path p q h k e) (λ e. ap (λ r. encode_utf8_all (text_of r)) e) (bytes_eq-Decides _ _))
    (slice_eq-Decides name_eq-decides p q (path_eq p q) refl)

-- The text of the names of a text is the text.
pub whole-text : (bs : List ℕ) → IsUtf8 bs → bs ≡ encode_utf8_all (text_of (path_of (chars bs)))
whole-text bs u = sym (encodes-chars bs u) ∙ ap encode_utf8_all (sym (text_of-path_of (chars bs)))

-- The text of a path with one more name.
pub longer-text : (p : Path) (n : Name) → 0 < length p → (encode_utf8_all (text_of p) ++ 47 ∷ []) ++ encode_utf8_all n ≡ encode_utf8_all (text_of (p ++ n ∷ []))
longer-text p n some =
    sym (ap encode_utf8_all (text_of-push p n some)
    ∙ (encodes-append (text_of p) (47 ∷ n)
    ∙ (ap (λ t. encode_utf8_all (text_of p) ++ (t ++ encode_utf8_all n)) (encode_ascii 47 (lit< tt))
    ∙ sym (append_assoc (encode_utf8_all (text_of p)) (47 ∷ []) (encode_utf8_all n)))))

pub first-text : (p : Path) (n : Name) → length p ≤ 0 → encode_utf8_all n ≡ encode_utf8_all (text_of (p ++ n ∷ []))
first-text [] n h = refl
first-text (m ∷ p) n h = absurd (omega arith)

-- Slashes and letters of a text, by its bytes and by its characters.
use Rattle.std.proofs.Common.{lit<, ◌≡◌, ◌≢◌, ℕ, ◌≤◌, ⊎_elim, Bool, true, false, cond, ◌&&◌, eqb, List, [], ◌∷◌, ◌++◌, refl, sym, ap, ◌∙◌, arith}
use Rattle.std.specs.Prelude.{nat_eq, codes, Option, Some, None, MatchOption}
use denote.Ref.{Bor}
use Rattle.std.specs.List.{starts_with}
use Rattle.std.specs.Char.{encode_utf8}
use Rattle.std.specs.Str.{chars, encode_utf8_all, IsUtf8}
use Rattle.std.proofs.lemmas.Str.{encode_ascii, encodes-chars, chars_past_char}
use borrow.Author.Tests.{eqb-true}
use Rattle.std.proofs.lemmas.Bool.Decides.{nat_tests}
use Rattle.hub_path.specs.Reading.{begins_with_slash, is_letter, after_letters, has_scheme}
use Rattle.hub_text.specs.laws.Ascii.{first_byte, starts-chars, starts-text}

not_letter : (c : ℕ) → 128 ≤ c → is_letter c ≡ false
not_letter c h = grind (arith, nat_tests)

after_letter : (c : ℕ) (cs : List ℕ) (b : Bool) → encode_utf8 c ≡ c ∷ []
    → after_letters (encode_utf8_all cs) ≡ encode_utf8_all (after_letters cs)
    → cond b (after_letters (encode_utf8_all cs)) (c ∷ encode_utf8_all cs)
    ≡ encode_utf8_all (cond b (after_letters cs) (c ∷ cs))
after_letter c cs true e h = h
after_letter c cs false e h = rw e refl

after_letters-chars : (cs : List ℕ) → after_letters (encode_utf8_all cs)
    ≡ encode_utf8_all (after_letters cs)
after_letters-chars [] = refl
after_letters-chars (c ∷ cs) =
    ⊎_elim (λ low. ap (λ bs. after_letters (bs ++ encode_utf8_all cs)) low.1
    ∙ after_letter c cs (is_letter c) low.1 (after_letters-chars cs))
    (λ high. rw (not_letter c high.0, high.1.2, not_letter high.1.0 high.1.3) refl)
    (first_byte c)

has_scheme-chars : (cs : List ℕ) → has_scheme (encode_utf8_all cs) ≡ has_scheme cs
has_scheme-chars [] = refl
has_scheme-chars (c ∷ cs) =
    ⊎_elim (λ low. rw low.1 (ap (λ b. is_letter c && b)
    (ap (λ t. starts_with nat_eq t (codes "://")) (after_letters-chars cs)
    ∙ starts-chars (after_letters cs) (codes "://") refl)))
    (λ high. rw (not_letter c high.0, high.1.2, not_letter high.1.0 high.1.3) refl)
    (first_byte c)

-- A text has a scheme where its characters have one.
pub has_scheme-text : (bs : List ℕ) → IsUtf8 bs → has_scheme bs ≡ has_scheme (chars bs)
has_scheme-text bs u = ap has_scheme (sym (encodes-chars bs u)) ∙ has_scheme-chars (chars bs)

slash-differs : (b : ℕ) (bs : List ℕ) (t : Bool) → eqb 47 b ≡ t
    → ((rest : List ℕ) → b ∷ bs ≢ 47 ∷ rest) → (t && true) ≡ false
slash-differs b bs true e none = absurd (none bs (ap (λ x. x ∷ bs) (sym (eqb-true 47 b e))))
slash-differs b bs false e none = refl

no-slash : (bs : List ℕ) → ((rest : List ℕ) → bs ≢ 47 ∷ rest)
    → starts_with nat_eq bs (codes "/") ≡ false
no-slash [] none = refl
no-slash (b ∷ bs) none = slash-differs b bs (eqb 47 b) refl none

-- What stands after a slash at the start, by characters.
pub slash-cut : (bs : List ℕ) (r : Option (Bor (List ℕ))) → IsUtf8 bs
    → MatchOption r ((rest : List ℕ) → bs ≢ 47 ∷ rest) (λ x. bs ≡ 47 ∷ x.now)
    → MatchOption r (begins_with_slash (chars bs) ≡ false) (λ x. chars bs ≡ 47 ∷ chars x.now)
slash-cut bs None u h = sym (starts-text bs (codes "/") u refl) ∙ no-slash bs h
slash-cut bs (Some x) u h =
    chars_past_char bs x.now 47 u (h ∙ ap (λ t. t ++ x.now) (sym (encode_ascii 47 (lit< tt))))

-- ASCII characters of a text, by its bytes and by its characters.
use Rattle.std.proofs.Common.{suc, zero, lit<, ◌≡◌, ◌≢◌, ◌==◌, ℕ, ◌+◌, ◌/◌, ◌<◌, ◌≤◌, ◌⊎◌, ⊎_elim, eq-eqb, inl, inr, Bool, true, false, cond, ◌&&◌, eqb, ltb, List, [], ◌∷◌, ◌++◌, refl, sym, ap, ◌∙◌, arith}
use Rattle.std.specs.Prelude.{nat_eq, nat_lt, Option, Some, None, MatchOption, unwrap_or}
use denote.Ref.{Bor}
use Rattle.std.specs.List.{starts_with, list_all}
use Rattle.std.specs.Char.{encode_utf8}
use Rattle.std.specs.Str.{chars, encode_utf8_all, IsUtf8, IsAscii}
use Rattle.std.specs.Str.Pattern.{FindsCharSuffix, StripsSuffix}
use Rattle.std.proofs.lemmas.Str.{encode_ascii, encodes-chars, encodes-append, chars-append, chars-IsAscii}
use Rattle.std.proofs.lemmas.Str.Pattern.{strip_suffix_char}
use Rattle.std.proofs.lemmas.Bool.{cases_lt, and_parts}
use borrow.Author.Tests.{eqb-true}
use Rattle.std.proofs.lemmas.Bool.Decides.{nat_tests}
use Rattle.hub_text.specs.Lines.{without_last}
use lib.Utf8.{encode, next}

-- A text whose first byte is not ASCII.
abbrev pub IsHigh : List ℕ → Type 0
IsHigh t = (b : ℕ) × (bs : List ℕ) × (t ≡ b ∷ bs) × (128 ≤ b)

cond-high : (t : Bool) (xs ys : List ℕ) → IsHigh xs → IsHigh ys → IsHigh (cond t xs ys)
cond-high true xs ys h k = h
cond-high false xs ys h k = k

encode-high : (c : ℕ) → 128 ≤ c → IsHigh (encode_utf8 c)
unfolding encode
encode-high c h =
    cond-high (ltb c 128) (c ∷ []) _ (c, [], refl, h)
    (cond-high (ltb c 2048) _ _ (192 + c / 64, next c ∷ [], refl, omega arith)
    (cond-high (ltb c 65536) _ _ (224 + c / 4096, next (c / 64) ∷ next c ∷ [], refl, omega arith)
    (240 + c / 262144, next (c / 4096) ∷ next (c / 64) ∷ next c ∷ [], refl, omega arith)))

-- A character is its own byte, or its first byte is not ASCII.
pub first_byte : (c : ℕ) → ((c < 128) × (encode_utf8 c ≡ c ∷ []))
    ⊎ ((128 ≤ c) × IsHigh (encode_utf8 c))
first_byte c =
    ⊎_elim (λ l. inl (l, encode_ascii c l)) (λ h. inr (h, encode-high c h)) (cases_lt c 128)

not_same : (a b : ℕ) → nat_lt a 128 ≡ true → 128 ≤ b → eqb a b ≡ false
not_same a b l h = grind (arith, nat_tests)

pub starts-chars : (cs t : List ℕ) → list_all (λ a. nat_lt a 128) t ≡ true
    → starts_with nat_eq (encode_utf8_all cs) t ≡ starts_with nat_eq cs t
starts-chars cs [] h = refl
starts-chars [] (a ∷ t) h = refl
starts-chars (c ∷ cs) (a ∷ t) h =
    let ascii = and_parts (nat_lt a 128) (list_all (λ d. nat_lt d 128) t) h in
    ⊎_elim (λ low. rw low.1 (ap (λ b. eqb a c && b) (starts-chars cs t ascii.1)))
    (λ high. rw (high.1.2, not_same a high.1.0 ascii.0 high.1.3, not_same a c ascii.0 high.0) refl)
    (first_byte c)

-- A text begins with an ASCII word exactly when its characters do.
pub starts-text : (bs t : List ℕ) → IsUtf8 bs → list_all (λ a. nat_lt a 128) t ≡ true
    → starts_with nat_eq bs t ≡ starts_with nat_eq (chars bs) t
starts-text bs t u h =
    ap (λ xs. starts_with nat_eq xs t) (sym (encodes-chars bs u)) ∙ starts-chars (chars bs) t h

pub without_last-push : (c : ℕ) (front : List ℕ) → without_last c (front ++ c ∷ []) ≡ front
without_last-push c [] = rw (eq-eqb c c refl) refl
without_last-push c (d ∷ []) = ap (λ t. d ∷ t) (without_last-push c [])
without_last-push c (d ∷ e ∷ ds) = ap (λ t. d ∷ t) (without_last-push c (e ∷ ds))

abbrev IsLastOrNot : ℕ → List ℕ → Type 0
IsLastOrNot c cs = ((front : List ℕ) × (cs ≡ front ++ c ∷ [])) ⊎ (without_last c cs ≡ cs)

without_last-one : (c d : ℕ) (t : Bool) → (d == c) ≡ t → IsLastOrNot c (d ∷ [])
without_last-one c d true e = inl ([], ap (λ x. x ∷ []) (eqb-true d c e))
without_last-one c d false e = inr (rw e refl)

-- A text ends with that character, or is as it is without it.
pub without_last-cases : (c : ℕ) (cs : List ℕ) → IsLastOrNot c cs
without_last-cases c [] = inr refl
without_last-cases c (d ∷ []) = without_last-one c d (d == c) refl
without_last-cases c (d ∷ e ∷ cs) =
    ⊎_elim (λ last. inl (d ∷ last.0, ap (λ t. d ∷ t) last.1)) (λ same. inr (ap (λ t. d ∷ t) same))
    (without_last-cases c (e ∷ cs))

IsAscii-one : (c : ℕ) → c < 128 → IsAscii (c ∷ [])
IsAscii-one c l zero = l
IsAscii-one c l (suc i) = lit< tt

chars-one : (c : ℕ) → c < 128 → chars (c ∷ []) ≡ c ∷ []
chars-one c l = chars-IsAscii (c ∷ []) (IsAscii-one c l)

-- What precedes an ASCII character at the end.
pub without_last-found : (c : ℕ) (bs front : List ℕ) → c < 128 → IsUtf8 front
    → bs ≡ front ++ c ∷ [] → chars front ≡ without_last c (chars bs)
without_last-found c bs front l u e =
    sym (ap (λ t. without_last c (chars t)) e
    ∙ (ap (without_last c) (chars-append front (c ∷ []) u
    ∙ ap (λ t. chars front ++ t) (chars-one c l)) ∙ without_last-push c (chars front)))

pub without_last-none : (c : ℕ) (bs : List ℕ) → c < 128 → IsUtf8 bs
    → ((front : List ℕ) → bs ≢ front ++ c ∷ []) → chars bs ≡ without_last c (chars bs)
without_last-none c bs l u none =
    ⊎_elim (λ last. absurd (none (encode_utf8_all last.0)
    (sym (encodes-chars bs u) ∙ (ap encode_utf8_all last.1
    ∙ (encodes-append last.0 (c ∷ [])
    ∙ ap (λ t. encode_utf8_all last.0 ++ t) (rw (encode_ascii c l) refl))))))
    (λ same. sym same) (without_last-cases c (chars bs))

-- A text without the ASCII character at its end, as `strip_suffix` gives it.
pub stripped : (c : ℕ) (d : Bor (List ℕ)) (r : Option (Bor (List ℕ))) → c < 128 → IsUtf8 d.now
    → IsUtf8 (unwrap_or r d).now → MatchOption r (FindsCharSuffix c d.now None)
    (λ x. StripsSuffix (FindsCharSuffix c) d.now x.now)
    → chars (unwrap_or r d).now ≡ without_last c (chars d.now)
stripped c d r low u v h = by_end r v (strip_suffix_char c d.now r h low)
  where
    by_end : (r : Option (Bor (List ℕ))) → IsUtf8 (unwrap_or r d).now
        → MatchOption r ((front : List ℕ) → d.now ≢ front ++ (c ∷ []))
        (λ x. d.now ≡ x.now ++ (c ∷ [])) → chars (unwrap_or r d).now ≡ without_last c (chars d.now)
    by_end None v h = without_last-none c d.now low u h
    by_end (Some x) v h = without_last-found c d.now x.now low v h

-- Texts that are written character by character.
use Rattle.std.proofs.Common.{◌≡◌, ℕ, ◌+◌, ◌<◌, arith, Bool, true, false, ◌&&◌, List, [], ◌∷◌, ◌++◌, length, take, get_or, cond, refl, sym, ap, ◌∙◌, append_assoc, append-nil, encode_utf8_all}
use Rattle.std.specs.Prelude.{nat_le, nat_lt, if◌then◌else◌, Result, Ok, Err, IfOk, is_ok}
use Rattle.std.specs.List.{flat_map}
use Rattle.std.specs.Char.{encode_utf8, to_ascii_lowercase}
use Rattle.std.proofs.lemmas.Bool.{and_from}
use Rattle.std.proofs.lemmas.Bool.Decides.{nat_tests}
use Rattle.std.proofs.lemmas.List.{take_more, flat_map_more}
use Rattle.std.proofs.lemmas.Str.{encodes-append}
use Rattle.std.proofs.Math.Bool.{and-false}
use Rattle.hub_folded.specs.Fold.{fold_name, lower}
use Rattle.hub_folded.specs.Table.{folded_character, is_ascii, table_image, unicode}

one-written : (a b : List ℕ) (c : ℕ) → b ≡ a ++ encode_utf8 c → b ≡ a ++ encode_utf8_all (c ∷ [])
one-written a b c h = h ∙ ap (λ t. a ++ t) (sym (append-nil (encode_utf8 c)))

-- Of several items the texts, one after another.
pub flat-written : {X : Type 0} (f : X → List ℕ) (xs : List X) (i : ℕ) (x : X) (a b c : List ℕ)
    → i < length xs → x ≡ get_or xs i x → b ≡ a ++ encode_utf8_all (flat_map f (take i xs))
    → c ≡ b ++ encode_utf8_all (f x) → c ≡ a ++ encode_utf8_all (flat_map f (take (i + 1) xs))
flat-written f xs i x a b c l e h k =
    k
    ∙ (ap (λ t. t ++ encode_utf8_all (f x)) h
    ∙ (append_assoc a (encode_utf8_all (flat_map f (take i xs))) (encode_utf8_all (f x))
    ∙ ap (λ t. a ++ t) (sym (encodes-append (flat_map f (take i xs)) (f x)))))
    ∙ ap (λ t. a ++ encode_utf8_all t)
    (flat_map_more f [] (take i xs) x
    ∙ ap (flat_map f) (ap (λ y. take i xs ++ y ∷ []) e ∙ sym (take_more xs i x l)))

-- The next character of a text, whose others follow; and the end.
pub next-written : (f : ℕ → List ℕ) (a b : List ℕ) (c : ℕ) (old more whole : List ℕ)
    → old ≡ c ∷ more → b ≡ a ++ encode_utf8_all (f c) → a ++ encode_utf8_all (flat_map f old) ≡ whole
    → b ++ encode_utf8_all (flat_map f more) ≡ whole
next-written f a b c old more whole e k h =
    ap (λ t. t ++ encode_utf8_all (flat_map f more)) k
    ∙ (append_assoc a (encode_utf8_all (f c)) (encode_utf8_all (flat_map f more))
    ∙ (ap (λ t. a ++ t) (sym (encodes-append (f c) (flat_map f more)))
    ∙ (ap (λ t. a ++ encode_utf8_all (flat_map f t)) (sym e) ∙ h)))

pub all-written : (f : ℕ → List ℕ) (a old whole : List ℕ) → old ≡ []
    → a ++ encode_utf8_all (flat_map f old) ≡ whole → a ≡ whole
all-written f a old whole e h =
    sym (append-nil a) ∙ (ap (λ t. a ++ encode_utf8_all (flat_map f t)) (sym e) ∙ h)

-- Small letters of ASCII.
lower-same : (c : ℕ) → to_ascii_lowercase c ≡ lower c
lower-same c = go (nat_lt c 65) refl (nat_lt c 91) refl
  where
    below : nat_lt c 65 ≡ true → nat_le 65 c ≡ false
    below e = grind (arith, nat_tests)

    from : nat_lt c 65 ≡ false → nat_le 65 c ≡ true
    from e = grind (arith, nat_tests)

    to : nat_lt c 91 ≡ true → nat_le c 90 ≡ true
    to e = grind (arith, nat_tests)

    above : nat_lt c 91 ≡ false → nat_le c 90 ≡ false
    above e = grind (arith, nat_tests)

    go : (a : Bool) → nat_lt c 65 ≡ a → (b : Bool) → nat_lt c 91 ≡ b
        → cond a c (cond b (c + 32) c) ≡ (if nat_le 65 c && nat_le c 90 then c + 32 else c)
    go true e b f = sym (ap (λ x. if x && nat_le c 90 then c + 32 else c) (below e))
    go false e true f =
        sym (ap (λ x. if x then c + 32 else c) (and_from (nat_le 65 c) (nat_le c 90) (from e) (to f)))
    go false e false f =
        sym (ap (λ x. if x then c + 32 else c)
        (ap (λ x. nat_le 65 c && x) (above f) ∙ and-false (nat_le 65 c)))

-- What a character folds to.
pub ascii-folds : (c : ℕ) → is_ascii c ≡ true → folded_character c ≡ to_ascii_lowercase c ∷ []
unfolding folded_character
ascii-folds c h =
    ap (λ b. if b then lower c ∷ [] else table_image c) h ∙ ap (λ d. d ∷ []) (sym (lower-same c))

pub other-folds : (c : ℕ) → is_ascii c ≡ false → folded_character c ≡ table_image c
unfolding folded_character
other-folds c h = ap (λ b. if b then lower c ∷ [] else table_image c) h

pub unicode-folds : (n : List ℕ) → flat_map folded_character n ≡ fold_name unicode n
unfolding folded_character table_image
unicode-folds n = refl

-- What is written by a push, if it is done.
pub pushed : {U E : Type 0} (r : Result U E) (old new : List ℕ) (c : ℕ) (t : List ℕ) → t ≡ c ∷ []
    → new ≡ (if is_ok r then old ++ encode_utf8 c else old)
    → IfOk r (λ x. new ≡ old ++ encode_utf8_all t)
pushed (Ok x) old new c t e h =
    one-written old new c h ∙ ap (λ u. old ++ encode_utf8_all u) (sym e)
pushed (Err x) old new c t e h = tt

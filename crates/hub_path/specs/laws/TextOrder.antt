-- The order of paths is that of their texts, byte by byte, with `/` before every other byte.
use Rattle.std.proofs.Common.{◌≡◌, ◌==◌, ℕ, ◌<◌, Bool, true, false, not, cond, List, [], ◌∷◌, ◌++◌, length, map, refl, sym, ap, ◌∙◌, arith, lit<}
use Rattle.std.specs.Prelude.{IsTrue}
use Rattle.std.specs.List.{list_all}
use Rattle.std.specs.Char.{encode_utf8}
use Rattle.std.specs.Str.{encode_utf8_all}
use Rattle.std.specs.Ordering.{nat_cmp, ordering_then}
use Rattle.std.specs.Cmp.Lexicographic.{slice_cmp}
use Rattle.std.specs.declared.cmp.Ordering.{Ordering}
use Rattle.std.specs.declared.cmp.Ordering.TheVariants.{Less, Equal, Greater}
use Rattle.std.proofs.lemmas.Bool.{and_parts}
use Rattle.std.proofs.lemmas.Bool.Decides.{nat_tests}
use Rattle.std.proofs.lemmas.Str.{encode_ascii}
use Rattle.std.proofs.lemmas.List.{append-nil, map-append}
use borrow.Author.Tests.{eqb-true}
use Rattle.hub_text.specs.laws.TextOrder.{cmp-encodes, less, more}
use Rattle.hub_text.specs.laws.TextParts.{encode-apart, is_apart}
use Rattle.hub_path.specs.Path.{Name, Path, is_name, is_place, is_forbidden, text_of, name_cmp, path_cmp}
use Rattle.hub_path.specs.laws.NameFacts.{name_parts}

-- The place of a byte in the order: `/` is the lowest. No name has a NUL.
abbrev pub rank : ℕ → ℕ
rank c = cond (c == 47) 0 c

abbrev pub ranks : List ℕ → List ℕ
ranks cs = map rank cs

-- The order of texts.
abbrev pub text_cmp : List ℕ → List ℕ → Ordering
text_cmp us vs = slice_cmp nat_cmp (ranks us) (ranks vs)

-- The characters of names.
abbrev is_inner : ℕ → Bool
is_inner c = not (is_forbidden c)

record Inner (c : ℕ) : Type 0 where
  apart : (c == 47) ≡ false
  some : 0 < c

inner : (c : ℕ) → is_inner c ≡ true → Inner c
inner c h = record { apart = grind (arith, nat_tests); some = grind (arith, nat_tests) }

rank-inner : (c : ℕ) → is_inner c ≡ true → rank c ≡ c
rank-inner c h = rw (inner c h).apart refl

then-then : (a b c : Ordering) → ordering_then a (ordering_then b c)
    ≡ ordering_then (ordering_then a b) c
then-then Less b c = refl
then-then Equal b c = refl
then-then Greater b c = refl

-- What follows a name: nothing, or a slash and more.
data Tail (s : List ℕ) : Type 0 where
  none : s ≡ [] → Tail s
  more_names : (t : List ℕ) → s ≡ 47 ∷ t → Tail s

-- Names decide, and then what follows them.
name-first : (n m s t : List ℕ) → list_all is_inner n ≡ true → list_all is_inner m ≡ true → Tail s
    → Tail t
    → text_cmp (n ++ s) (m ++ t) ≡ ordering_then (name_cmp n m) (text_cmp s t)
name-first [] [] s t h k a b = refl
name-first [] (d ∷ m) s t h k (none e) b = rw e refl
name-first [] (d ∷ m) s t h k (more_names r e) b =
    let first = and_parts (is_inner d) (list_all is_inner m) k in
    rw (e, rank-inner d first.0, less 0 d (inner d first.0).some) refl
name-first (c ∷ n) [] s t h k a (none e) = rw e refl
name-first (c ∷ n) [] s t h k a (more_names r e) =
    let first = and_parts (is_inner c) (list_all is_inner n) h in
    rw (e, rank-inner c first.0, more c 0 (inner c first.0).some) refl
name-first (c ∷ n) (d ∷ m) s t h k a b =
    let first = and_parts (is_inner c) (list_all is_inner n) h in
    let second = and_parts (is_inner d) (list_all is_inner m) k in
    rw (rank-inner c first.0, rank-inner d second.0)
    (ap (ordering_then (nat_cmp c d)) (name-first n m s t first.1 second.1 a b)
    ∙ then-then (nat_cmp c d) (name_cmp n m) (text_cmp s t))

-- What follows the first name of a path.
abbrev tail : Path → List ℕ
tail [] = []
tail (n ∷ p) = 47 ∷ text_of (n ∷ p)

tail-is : (p : Path) → Tail (tail p)
tail-is [] = none refl
tail-is (n ∷ p) = more_names (text_of (n ∷ p)) refl

text-tail : (n : Name) (p : Path) → text_of (n ∷ p) ≡ n ++ tail p
text-tail n [] = sym (append-nil n)
text-tail n (m ∷ p) = refl

nothing-first : (n s : List ℕ) → not (length n == 0) ≡ true
    → (text_cmp [] (n ++ s) ≡ Less) × (text_cmp (n ++ s) [] ≡ Greater)
nothing-first [] s h = cc
nothing-first (c ∷ n) s h = (refl, refl)

-- The first names decide, and then the texts of the others.
both-first : (n m : Name) (p q : Path) → IsTrue (is_name n) → IsTrue (is_name m)
    → text_cmp (text_of (n ∷ p)) (text_of (m ∷ q))
    ≡ ordering_then (name_cmp n m) (text_cmp (tail p) (tail q))
both-first n m p q h k =
    ap (λ t. text_cmp t (text_of (m ∷ q))) (text-tail n p)
    ∙ (ap (text_cmp (n ++ tail p)) (text-tail m q)
    ∙ name-first n m (tail p) (tail q) (name_parts n h).allowed (name_parts m k).allowed
    (tail-is p) (tail-is q))

tails-cmp : (p q : Path) → IsTrue (is_place p) → IsTrue (is_place q)
    → text_cmp (tail p) (tail q) ≡ path_cmp p q
tails-cmp [] [] h k = refl
tails-cmp [] (m ∷ q) h k = refl
tails-cmp (n ∷ p) [] h k = refl
tails-cmp (n ∷ p) (m ∷ q) h k =
    let one = and_parts (is_name n) (is_place p) h in
    let two = and_parts (is_name m) (is_place q) k in
    both-first n m p q one.0 two.0 ∙ ap (ordering_then (name_cmp n m)) (tails-cmp p q one.1 two.1)

-- The characters of texts are compared as paths are.
pub chars-cmp : (p q : Path) → IsTrue (is_place p) → IsTrue (is_place q)
    → text_cmp (text_of p) (text_of q) ≡ path_cmp p q
chars-cmp [] [] h k = refl
chars-cmp [] (m ∷ q) h k =
    let two = and_parts (is_name m) (is_place q) k in
    ap (text_cmp []) (text-tail m q) ∙ (nothing-first m (tail q) (name_parts m two.0).some).0
chars-cmp (n ∷ p) [] h k =
    let one = and_parts (is_name n) (is_place p) h in
    ap (λ t. text_cmp t []) (text-tail n p) ∙ (nothing-first n (tail p) (name_parts n one.0).some).1
chars-cmp (n ∷ p) (m ∷ q) h k = tails-cmp (n ∷ p) (m ∷ q) h k

-- The bytes of a text with slashes lowered are those of its characters with slashes lowered.
ranks-apart : (bs : List ℕ) → list_all (is_apart 47) bs ≡ true → ranks bs ≡ bs
ranks-apart [] h = refl
ranks-apart (b ∷ bs) h =
    let both = and_parts (is_apart 47 b) (list_all (is_apart 47) bs) h in
    let other : (b == 47) ≡ false = grind (arith, nat_tests, both.0) in
    rw (other, ranks-apart bs both.1) refl

rank-encode : (c : ℕ) (t : Bool) → (c == 47) ≡ t → ranks (encode_utf8 c) ≡ encode_utf8 (rank c)
rank-encode c true e =
    let slash : c ≡ 47 = eqb-true c 47 e in
    rw (slash, encode_ascii 47 (lit< tt), encode_ascii 0 (lit< tt)) refl
rank-encode c false e = ranks-apart (encode_utf8 c) (encode-apart 47 c (lit< tt) e) ∙ rw e refl

ranks-encodes : (cs : List ℕ) → ranks (encode_utf8_all cs) ≡ encode_utf8_all (ranks cs)
ranks-encodes [] = refl
ranks-encodes (c ∷ cs) =
    map-append rank (encode_utf8 c) (encode_utf8_all cs)
    ∙ (ap (λ t. t ++ ranks (encode_utf8_all cs)) (rank-encode c (c == 47) refl)
    ∙ ap (λ t. encode_utf8 (rank c) ++ t) (ranks-encodes cs))

-- The bytes of texts are compared as paths are.
pub bytes-cmp : (p q : Path) → IsTrue (is_place p) → IsTrue (is_place q)
    → text_cmp (encode_utf8_all (text_of p)) (encode_utf8_all (text_of q)) ≡ path_cmp p q
bytes-cmp p q h k =
    ap (λ t. slice_cmp nat_cmp t (ranks (encode_utf8_all (text_of q)))) (ranks-encodes (text_of p))
    ∙ (ap (slice_cmp nat_cmp (encode_utf8_all (ranks (text_of p)))) (ranks-encodes (text_of q))
    ∙ (cmp-encodes (ranks (text_of p)) (ranks (text_of q)) ∙ chars-cmp p q h k))

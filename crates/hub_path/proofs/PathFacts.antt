-- Facts of paths as lists of names.
use Rattle.std.proofs.Common.{◌≡◌, ◌==◌, ℕ, suc, zero, ◌+◌, ◌-◌, ◌<◌, ◌≤◌, Bool, true, false, not, cond, ◌&&◌, Some, None, List, [], ◌∷◌, ◌++◌, length, take, get_or, refl, sym, ap, ◌∙◌, arith, append_assoc, length-take, length-append, lit<}
use Rattle.std.specs.Prelude.{IsTrue}
use Rattle.std.proofs.lemmas.Bool.{and_parts, and_from}
use Rattle.std.proofs.lemmas.Bool.Decides.{nat_tests}
use Rattle.std.proofs.lemmas.List.Splits.{length-slice_split}
use Rattle.std.proofs.Math.Bool.{and-false}
use Rattle.std.specs.List.{list_all}
use Rattle.std.specs.Str.{encode_utf8_all}
use Rattle.std.proofs.lemmas.Str.{encodes-append, encode_ascii}
use Rattle.std.proofs.lemmas.List.{take_more, take_all}
use Rattle.hub_path.specs.Path.{Name, Path, is_name, is_path, is_place, name_in, path_in, path_of, text_of, parent}
use Rattle.hub_path.specs.laws.General.{is_place-push}
use Rattle.hub_path.specs.laws.Text.{text_of-push}

-- What each item passes, each item of the front passes.
pub list_all-take : {X : Type 0} (p : X → Bool) (n : ℕ) (xs : List X) → list_all p xs ≡ true → list_all p (take n xs) ≡ true
list_all-take p zero xs h = refl
list_all-take p (suc n) [] h = refl
list_all-take p (suc n) (x ∷ xs) h = let passed = and_parts (p x) (list_all p xs) h in rw (passed.0, list_all-take p n xs passed.1) refl

pub take-parent : (p : Path) → take (length p - 1) p ≡ parent p
take-parent [] = refl
take-parent (n ∷ []) = refl
take-parent (n ∷ m ∷ p) =
    let less : suc (suc (length p)) - 1 ≡ suc (suc (length p) - 1) = omega arith in
    rw less (ap (λ q. n ∷ q) (take-parent (m ∷ p)))

-- The text of the first name, and of each later one.
pub joined-first : (ns : Path) (i : ℕ) (n : Name) → i < length ns → n ≡ get_or ns i n → i ≤ 0 → encode_utf8_all (text_of (take (i + 1) ns)) ≡ encode_utf8_all (text_of (take i ns)) ++ encode_utf8_all n
joined-first ns i n l e first =
    let start : i ≡ 0 = omega arith in
    let none : take i ns ≡ [] = ap (λ k. take k ns) start in
    let one : take (i + 1) ns ≡ n ∷ [] = take_more ns i n l ∙ (ap (λ ms. ms ++ get_or ns i n ∷ []) none ∙ ap (λ m. m ∷ []) (sym e)) in
    ap (λ p. encode_utf8_all (text_of p)) one ∙ sym (ap (λ p. encode_utf8_all (text_of p) ++ encode_utf8_all n) none)

pub joined-later : (ns : Path) (i : ℕ) (n : Name) → i < length ns → n ≡ get_or ns i n → 0 < i
    → encode_utf8_all (text_of (take (i + 1) ns)) ≡ (encode_utf8_all (text_of (take i ns)) ++ 47 ∷ []) ++ encode_utf8_all n
joined-later ns i n l e later =
    let more : take (i + 1) ns ≡ take i ns ++ n ∷ [] = take_more ns i n l ∙ ap (λ m. take i ns ++ m ∷ []) (sym e) in
    let some : 0 < length (take i ns) = omega (arith, length-take i ns) in
    ap (λ p. encode_utf8_all (text_of p)) more
    ∙ (ap encode_utf8_all (text_of-push (take i ns) n some)
    ∙ (encodes-append (text_of (take i ns)) (47 ∷ n)
    ∙ (ap (λ t. encode_utf8_all (text_of (take i ns)) ++ (t ++ encode_utf8_all n)) (encode_ascii 47 (lit< tt))
    ∙ sym (append_assoc (encode_utf8_all (text_of (take i ns))) (47 ∷ []) (encode_utf8_all n)))))

-- The names that were made of the first parts of a text.
pub record NamesSoFar (all names : Path) (count : ℕ) : Type 0 where
  pub count_is : length names ≡ count
  pub front : names ≡ take count all
  pub valid : IsTrue (is_place names)

picked : (b : Bool) (n m : Name) → Some m ≡ cond b (Some n) None → m ≡ n
picked true n m h = cc
picked false n m h = cc

picked_true : (b : Bool) (n m : Name) → Some m ≡ cond b (Some n) None → b ≡ true
picked_true true n m h = refl
picked_true false n m h = cc

not_picked : (b : Bool) (n : Name) → None ≡ cond b (Some n) None → b ≡ false
not_picked true n h = cc
not_picked false n h = refl

-- One more part that is a name.
pub names-more : (all names : Path) (i : ℕ) (n m : Name) → NamesSoFar all names i → i < length all → n ≡ get_or all i n → Some m ≡ name_in n → NamesSoFar all (names ++ m ∷ []) (i + 1)
names-more all names i n m so_far l e good =
    let valid : is_name m ≡ true = ap is_name (picked (is_name n) n m good) ∙ picked_true (is_name n) n m good in
    record {
      count_is = length-append names (m ∷ []) ∙ ap (λ k. k + 1) so_far.count_is;
      front = ap (λ ns. ns ++ m ∷ []) so_far.front ∙ (ap (λ k. take i all ++ k ∷ []) (picked (is_name n) n m good ∙ e) ∙ sym (take_more all i n l));
      valid = is_place-push names m so_far.valid valid;
    }

list_all-fails : (ns : Path) (i : ℕ) (n : Name) → i < length ns → n ≡ get_or ns i n → is_name n ≡ false → is_place ns ≡ false
list_all-fails [] i n l e h = absurd (omega (arith, l))
list_all-fails (m ∷ ns) zero n l e h = ap (λ k. is_name k && is_place ns) (sym e) ∙ ap (λ b. b && is_place ns) h
list_all-fails (m ∷ ns) (suc i) n l e h = ap (λ b. is_name m && b) (list_all-fails ns i n (omega (arith, l)) e h) ∙ and-false (is_name m)

-- A part that is not a name.
pub no-path : (t : List ℕ) (i : ℕ) (n : Name) → i < length (path_of t) → n ≡ get_or (path_of t) i n → None ≡ name_in n → None ≡ path_in t
no-path t i n l e bad =
    let some = not (length (path_of t) == 0) in
    sym (ap (λ b. cond (some && b) (Some (path_of t)) None) (list_all-fails (path_of t) i n l e (not_picked (is_name n) n bad))
    ∙ ap (λ b. cond b (Some (path_of t)) None) (and-false some))

-- All parts.
pub all-names : (all names : Path) (i : ℕ) → NamesSoFar all names i → i ≡ length all → names ≡ all
all-names all names i so_far e = so_far.front ∙ take_all i all (omega (arith, e))

pub whole-path : (t : List ℕ) (names : Path) (i : ℕ) → NamesSoFar (path_of t) names i → i ≡ length (path_of t) → (Some names ≡ path_in t) × IsTrue (is_path names)
whole-path t names i so_far e =
    let whole : names ≡ path_of t = so_far.front ∙ take_all i (path_of t) (omega (arith, e)) in
    let some : not (length names == 0) ≡ true = nonempty (length names) (omega (arith, ap length whole, length-slice_split (λ c. c == 47) t)) in
    let valid : is_path names ≡ true = and_from (not (length names == 0)) (is_place names) some so_far.valid in
    (sym (ap (λ p. cond (is_path p) (Some p) None) (sym whole) ∙ ap (λ b. cond b (Some names) None) valid), valid)
  where
    nonempty : (k : ℕ) → 0 < k → not (k == 0) ≡ true
    nonempty k l = grind (arith, nat_tests)

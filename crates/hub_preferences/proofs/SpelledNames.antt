-- The names of a value, one at a time.
use Rattle.std.proofs.Common.{◌≡◌, ℕ, suc, zero, ◌+◌, ◌<◌, Bool, true, false, ◌&&◌, not, cond, List, [], ◌∷◌, ◌++◌, length, take, get_or, Some, None, refl, sym, ap, ◌∙◌, arith, append_assoc, append-nil, lit<, codes, encode_utf8_all}
use Rattle.std.specs.List.{filter}
use Rattle.std.specs.Char.{encode_utf8}
use Rattle.std.specs.Str.{chars}
use Rattle.std.proofs.lemmas.List.{take_all, flat_map_more}
use Rattle.std.proofs.lemmas.List.Elements.{filter_more}
use Rattle.std.proofs.lemmas.List.Folds.{list_all-append}
use Rattle.std.proofs.lemmas.Str.{encodes-append, encode_ascii, chars-encodes}
use Rattle.std.proofs.Math.Bool.{and-false}
use Rattle.hub_path.specs.Path.{Name, Path, is_name, is_place, name_in}
use Rattle.hub_path.specs.Reading.{begins_with_slash}
use Rattle.hub_preferences.specs.Spellings.{is_nothing, names_of, with_slashes, can_stand_for, is_respelled, spelling_of_value}
use Rattle.hub_preferences.specs.laws.Spelling.{scalars-with}

abbrev pub some_of : Path → Path
some_of ns = filter (λ n. not (is_nothing n)) ns

-- What was written of the first parts.
pub record SoFar (all : Path) (count : ℕ) (bs : List ℕ) : Type 0 where
  pub bytes : bs ≡ encode_utf8_all (with_slashes (some_of (take count all)))
  pub places : is_place (some_of (take count all)) ≡ true

one-more : (all : Path) (i : ℕ) (n : Name) (b : Bool) → i < length all → n ≡ get_or all i n → is_nothing n ≡ b
    → some_of (take (i + 1) all) ≡ some_of (take i all) ++ cond (not b) (n ∷ []) []
one-more all i n b l e h =
    filter_more (λ m. not (is_nothing m)) all i n l
    ∙ ap (λ m. some_of (take i all) ++ cond (not (is_nothing m)) (m ∷ []) []) (sym e)
    ∙ ap (λ c. some_of (take i all) ++ cond (not c) (n ∷ []) []) h

-- One more part that counts for nothing.
pub skipped : (all : Path) (i : ℕ) (n : Name) (bs : List ℕ) → SoFar all i bs → i < length all → n ≡ get_or all i n → is_nothing n ≡ true → SoFar all (i + 1) bs
skipped all i n bs so_far l e h =
    let same : some_of (take (i + 1) all) ≡ some_of (take i all) = one-more all i n true l e h ∙ append-nil (some_of (take i all)) in
    record { bytes = so_far.bytes ∙ sym (ap (λ ns. encode_utf8_all (with_slashes ns)) same); places = ap is_place same ∙ so_far.places }

picked : (b : Bool) (n m : Name) → Some m ≡ cond b (Some n) None → (m ≡ n) × (b ≡ true)
picked true n m h = (cc, refl)
picked false n m h = cc

-- One more that is a name.
pub more : (all : Path) (i : ℕ) (n m : Name) (bs cs ds : List ℕ) → SoFar all i bs → i < length all → n ≡ get_or all i n → is_nothing n ≡ false → Some m ≡ name_in n
    → cs ≡ bs ++ encode_utf8_all m → ds ≡ cs ++ encode_utf8 47 → SoFar all (i + 1) ds
more all i n m bs cs ds so_far l e h good written slash =
    let is = picked (is_name n) n m good in
    let next : some_of (take (i + 1) all) ≡ some_of (take i all) ++ n ∷ [] = one-more all i n false l e h in
    let ns = some_of (take i all) in
    let whole : encode_utf8_all (with_slashes (ns ++ n ∷ [])) ≡ (encode_utf8_all (with_slashes ns) ++ encode_utf8_all n) ++ 47 ∷ [] =
    ap encode_utf8_all (sym (flat_map_more (λ k. k ++ 47 ∷ []) [] ns n))
    ∙ encodes-append (with_slashes ns) (n ++ 47 ∷ [])
    ∙ ap (λ t. encode_utf8_all (with_slashes ns) ++ t) (encodes-append n (47 ∷ []) ∙ ap (λ t. encode_utf8_all n ++ (t ++ [])) (encode_ascii 47 (lit< tt)))
    ∙ sym (append_assoc (encode_utf8_all (with_slashes ns)) (encode_utf8_all n) (47 ∷ [])) in
    record {
      bytes = slash ∙ (λ j. (written ∙ (λ k. so_far.bytes k ++ encode_utf8_all (is.0 k))) j ++ encode_ascii 47 (lit< tt) j)
          ∙ sym whole ∙ sym (ap (λ ks. encode_utf8_all (with_slashes ks)) next);
      places = ap is_place next ∙ list_all-append is_name ns (n ∷ []) ∙ rw (so_far.places, is.1) refl;
    }

not_picked : (b : Bool) (n : Name) → None ≡ cond b (Some n) None → b ≡ false
not_picked true n h = cc
not_picked false n h = refl

fails : (all : Path) (i : ℕ) (n : Name) → i < length all → n ≡ get_or all i n → is_nothing n ≡ false → is_name n ≡ false → is_place (some_of all) ≡ false
fails [] i n l e h k = absurd (omega (arith, l))
fails (m ∷ ns) zero n l e h k =
    let some : is_nothing m ≡ false = ap is_nothing (sym e) ∙ h in
    rw some (ap (λ j. is_name j && is_place (some_of ns)) (sym e) ∙ ap (λ b. b && is_place (some_of ns)) k)
fails (m ∷ ns) (suc i) n l e h k = by (is_nothing m) refl (fails ns i n (omega (arith, l)) e h k)
  where
    by : (b : Bool) → is_nothing m ≡ b → is_place (some_of ns) ≡ false → is_place (some_of (m ∷ ns)) ≡ false
    by true f rest = rw f rest
    by false f rest = rw f (ap (λ b. is_name m && b) rest ∙ and-false (is_name m))

-- One that is no name.
pub none : (all : Path) (i : ℕ) (n : Name) → i < length all → n ≡ get_or all i n → is_nothing n ≡ false → None ≡ name_in n → is_place (some_of all) ≡ false
none all i n l e h bad = fails all i n l e h (not_picked (is_name n) n bad)

-- All parts.
pub whole : (all : Path) (i : ℕ) (bs : List ℕ) → SoFar all i bs → i ≡ length all → (is_place (some_of all) ≡ true) × (bs ≡ encode_utf8_all (with_slashes (some_of all)))
whole all i bs so_far e =
    let same : take i all ≡ all = take_all i all (omega (arith, e)) in
    (sym (ap (λ ns. is_place (some_of ns)) same) ∙ so_far.places, so_far.bytes ∙ ap (λ ns. encode_utf8_all (with_slashes (some_of ns))) same)

-- The other spelling of a value, by the text of its names.
names-chars : (v bs : List ℕ) → is_place (names_of v) ≡ true → bs ≡ encode_utf8_all (with_slashes (names_of v)) → chars bs ≡ with_slashes (names_of v)
names-chars v bs h e = ap chars e ∙ chars-encodes (with_slashes (names_of v)) (scalars-with (names_of v) h)

pub no_spelling : (v bs : List ℕ) → is_place (names_of v) ≡ true → bs ≡ encode_utf8_all (with_slashes (names_of v)) → can_stand_for (chars bs) v ≡ false → spelling_of_value v ≡ None
no_spelling v bs h e f =
    let not_fit : can_stand_for (with_slashes (names_of v)) v ≡ false = ap (λ w. can_stand_for w v) (sym (names-chars v bs h e)) ∙ f in
    let gone : is_respelled v ≡ false = rw (not_fit, and-false (is_place (names_of v))) (and-false (not (begins_with_slash v))) in
    rw gone refl

pub has_spelling : (v bs t : List ℕ) → begins_with_slash v ≡ false → is_place (names_of v) ≡ true → bs ≡ encode_utf8_all (with_slashes (names_of v)) → can_stand_for (chars bs) v ≡ true
    → t ≡ codes "path = " ++ bs → spelling_of_value v ≡ Some t
has_spelling v bs t first h e f is =
    let fit : can_stand_for (with_slashes (names_of v)) v ≡ true = ap (λ w. can_stand_for w v) (sym (names-chars v bs h e)) ∙ f in
    let there : is_respelled v ≡ true = rw (first, h, fit) refl in
    rw there (ap Some (sym (is ∙ ap (λ x. codes "path = " ++ x) e)))

-- Lines in another spelling.
use Rattle.std.proofs.Common.{◌≡◌, ◌⊎◌, ⊎_elim, inl, inr, ℕ, ◌<◌, ◌==◌, Bool, true, false, ◌&&◌, ◌||◌, not, cond, List, [], ◌∷◌, ◌++◌, length, reverse, Some, None, refl, sym, ap, subst, ◌∙◌, arith, append_assoc, append-nil, lit<, codes, bytes_eq}
use Rattle.std.specs.Prelude.{⊤, Ok, encode_utf8_all}
use Rattle.std.specs.List.{list_any, list_all, filter}
use Rattle.std.specs.Char.{encode_utf8}
use Rattle.std.specs.Str.{IsUtf8, is_utf8, chars, all_scalars}
use Rattle.std.proofs.lemmas.Bool.{and_parts, and_from, or_from, false≢true}
use Rattle.std.proofs.lemmas.Bool.Decides.{nat_tests}
use Rattle.std.proofs.lemmas.List.{reverse-append, reverse-reverse}
use Rattle.std.proofs.lemmas.List.Folds.{list_all-append}
use Rattle.std.proofs.lemmas.Slice.Eq.{bytes_eq-Decides}
use Rattle.std.proofs.lemmas.Str.{encodes-append, encodes-IsAscii, chars_from_encodes, is_utf8-from_IsUtf8}
use Rattle.hub_text.specs.Blanks.{is_blank, skip_blanks}
use Rattle.hub_text.specs.Lines.{is_lf, without_last}
use Rattle.hub_text.specs.laws.AsciiWords.{IsAscii-from_test}
use Rattle.hub_text.specs.laws.Test.{second_of_four}
use Rattle.hub_text.specs.laws.TextParts.{is_apart, encode-apart}
use Rattle.hub_path.specs.Path.{Name, Path, is_name, is_place, is_path, is_forbidden, is_dots, path_of, text_of}
use Rattle.hub_path.specs.laws.General.{is_no_slash, name-apart, path_of-front}
use Rattle.hub_path.specs.laws.NameFacts.{name_parts}
use Rattle.hub_path.specs.Reading.{begins_with_slash, without_last_slash, path_reading, is_short_path}
use Rattle.hub_path.specs.laws.ReadBack.{path_reading-short}
use Rattle.hub_profile.specs.Reading.{kept_reading}
use Rattle.hub_bundle.specs.Files.{is_heading}
use Rattle.hub_profile.specs.Lines.{trimmed, trimmed_line, is_setting, has_equals, name_and_value, is_one_of}
use Rattle.hub_preferences.specs.Kinds.{kind_of, kind_of_text, kind_of_pair, is_in_root}
use Rattle.hub_preferences.specs.Places.{root_on, root_in_text, root_of_pair}
use Rattle.hub_preferences.specs.Spellings.{is_nothing, names_of, with_slashes, begins_with_blank, is_same_value, can_stand_for, is_respelled, path_line, spelling, spelling_of_text, spelling_of_pair, spelling_of_value, refused_line, other_spelling}
use Rattle.hub_preferences.specs.declared.kind.LineKind.TheVariants as kind

-- What the parts are of names with a slash after each.
path_of-with_slashes : (ns : Path) → is_place ns ≡ true → path_of (with_slashes ns) ≡ ns ++ [] ∷ []
path_of-with_slashes [] h = refl
path_of-with_slashes (n ∷ ns) h =
    let two = and_parts (is_name n) (is_place ns) h in
    ap path_of (append_assoc n (47 ∷ []) (with_slashes ns))
    ∙ path_of-front n (with_slashes ns) (name-apart n two.0)
    ∙ ap (λ ps. n ∷ ps) (path_of-with_slashes ns two.1)

-- No name counts for nothing.
name-something : (n : Name) → is_name n ≡ true → is_nothing n ≡ false
name-something [] h = cc
name-something (c ∷ n) h = or_from (bytes_eq (c ∷ n) (codes "")) (bytes_eq (c ∷ n) (codes ".") || false) refl
    (or_from (bytes_eq (c ∷ n) (codes ".")) false (no_dot (bytes_eq (c ∷ n) (codes ".")) (bytes_eq (c ∷ n) (codes "..")) (and_parts _ (not (is_dots (c ∷ n))) h).1) refl)
  where
    no_dot : (a b : Bool) → not (a || b) ≡ true → a ≡ false
    no_dot true b h = cc
    no_dot false b h = refl

counting : (ns : Path) → is_place ns ≡ true → filter (λ n. not (is_nothing n)) (ns ++ [] ∷ []) ≡ ns
counting [] h = refl
counting (n ∷ ns) h =
    let two = and_parts (is_name n) (is_place ns) h in
    rw (name-something n two.0) (ap (λ ms. n ∷ ms) (counting ns two.1))

names_of-with_slashes : (ns : Path) → is_place ns ≡ true → names_of (with_slashes ns) ≡ ns
names_of-with_slashes ns h = ap (filter (λ n. not (is_nothing n))) (path_of-with_slashes ns h) ∙ counting ns h

-- A value in the plain reader's spelling has no other one.
same_value : (v : List ℕ) → is_same_value v v ≡ true
same_value v = (bytes_eq-Decides (without_last_slash v) (without_last_slash v)).1 refl

none_last : (a b c d : Bool) → d ≡ true → a && (b && (c && not d)) ≡ false
none_last true true true d h = ap not h
none_last true true false d h = refl
none_last true false c d h = refl
none_last false b c d h = refl

fixed : (ns : Path) → is_place ns ≡ true → is_respelled (with_slashes ns) ≡ false
fixed ns h =
    let v = with_slashes ns in
    let w = with_slashes (names_of v) in
    let same : is_same_value w v ≡ true = ap (λ ms. is_same_value (with_slashes ms) v) (names_of-with_slashes ns h) ∙ same_value v in
    none_last (not (begins_with_slash v)) (is_place (names_of v)) (not (begins_with_blank w)) (is_same_value w v) same

-- Names with slashes are text without LF.
scalars-append : (cs ds : List ℕ) → all_scalars cs ≡ true → all_scalars ds ≡ true → all_scalars (cs ++ ds) ≡ true
scalars-append [] ds h k = k
scalars-append (c ∷ cs) ds h k =
    let two = and_parts _ (all_scalars cs) h in
    rw (two.0, scalars-append cs ds two.1 k) refl

pub scalars-with : (ns : Path) → is_place ns ≡ true → all_scalars (with_slashes ns) ≡ true
scalars-with [] h = refl
scalars-with (n ∷ ns) h =
    let two = and_parts (is_name n) (is_place ns) h in
    scalars-append (n ++ 47 ∷ []) (with_slashes ns) (scalars-append n (47 ∷ []) (name_parts n two.0).scalars refl) (scalars-with ns two.1)

abbrev not_lf : ℕ → Bool
not_lf c = not (c == 10)

no_lf-name : (n : Name) → list_all (λ c. not (is_forbidden c)) n ≡ true → list_all not_lf n ≡ true
no_lf-name [] h = refl
no_lf-name (c ∷ n) h =
    let passed = and_parts (not (is_forbidden c)) (list_all (λ d. not (is_forbidden d)) n) h in
    rw (second_of_four (c == 0) (c == 10) (c == 13) (c == 47) passed.0, no_lf-name n passed.1) refl

no_lf-with : (ns : Path) → is_place ns ≡ true → list_all not_lf (with_slashes ns) ≡ true
no_lf-with [] h = refl
no_lf-with (n ∷ ns) h =
    let two = and_parts (is_name n) (is_place ns) h in
    list_all-append not_lf (n ++ 47 ∷ []) (with_slashes ns)
    ∙ (λ i. (list_all-append not_lf n (47 ∷ []) ∙ ap (λ b. b && true) (no_lf-name n (name_parts n two.0).allowed)) i && no_lf-with ns two.1 i)

apart-false : (c : ℕ) → not_lf c ≡ true → (c == 10) ≡ false
apart-false c h = by (c == 10) h
  where
    by : (b : Bool) → not b ≡ true → b ≡ false
    by true h = cc
    by false h = refl

apart-encodes : (cs : List ℕ) → list_all not_lf cs ≡ true → list_all (is_apart 10) (encode_utf8_all cs) ≡ true
apart-encodes [] h = refl
apart-encodes (c ∷ cs) h =
    let two = and_parts (not_lf c) (list_all not_lf cs) h in
    list_all-append (is_apart 10) (encode_utf8 c) (encode_utf8_all cs)
    ∙ (λ i. encode-apart 10 c (lit< tt) (apart-false c two.0) i && apart-encodes cs two.1 i)

no_lf-apart : (bs : List ℕ) → list_all (is_apart 10) bs ≡ true → list_any is_lf bs ≡ false
no_lf-apart [] h = refl
no_lf-apart (b ∷ bs) h =
    let two = and_parts (is_apart 10 b) (list_all (is_apart 10) bs) h in
    or_from (is_lf b) (list_any is_lf bs) (by (b == 10) two.0) (no_lf-apart bs two.1)
  where
    by : (t : Bool) → cond t false true ≡ true → t ≡ false
    by true h = cc
    by false h = refl

-- The line, its characters, and what it says.
abbrev line : List ℕ → List ℕ
line w = codes "path = " ++ w

line-encodes : (w : List ℕ) → encode_utf8_all (line w) ≡ codes "path = " ++ encode_utf8_all w
line-encodes w =
    encodes-append (codes "path = ") w
    ∙ ap (λ t. t ++ encode_utf8_all w) (encodes-IsAscii (codes "path = ") (IsAscii-from_test (codes "path = ") refl))

text-line : (ns : Path) → is_place ns ≡ true → IsUtf8 (codes "path = " ++ encode_utf8_all (with_slashes ns))
text-line ns h = (line (with_slashes ns), (scalars-append (codes "path = ") (with_slashes ns) refl (scalars-with ns h), line-encodes (with_slashes ns)))

chars-line : (ns : Path) → is_place ns ≡ true → chars (codes "path = " ++ encode_utf8_all (with_slashes ns)) ≡ line (with_slashes ns)
chars-line ns h = sym (chars_from_encodes (line (with_slashes ns)) _ (text-line ns h) (line-encodes (with_slashes ns)))

ends-slash : (n : Name) (ns : Path) → (us : List ℕ) × (with_slashes (n ∷ ns) ≡ us ++ 47 ∷ [])
ends-slash n [] = (n, append-nil (n ++ 47 ∷ []))
ends-slash n (m ∷ ns) =
    let more = ends-slash m ns in
    ((n ++ 47 ∷ []) ++ more.0, ap (λ t. (n ++ 47 ∷ []) ++ t) more.1 ∙ sym (append_assoc (n ++ 47 ∷ []) more.0 (47 ∷ [])))

last-stays : (xs : List ℕ) → without_last 13 (xs ++ 47 ∷ []) ≡ xs ++ 47 ∷ []
last-stays [] = refl
last-stays (x ∷ []) = refl
last-stays (x ∷ y ∷ xs) = ap (λ t. x ∷ t) (last-stays (y ∷ xs))

end-stays : (xs : List ℕ) → reverse (skip_blanks (reverse (xs ++ 47 ∷ []))) ≡ xs ++ 47 ∷ []
end-stays xs =
    ap (λ t. reverse (skip_blanks t)) (reverse-append xs (47 ∷ []))
    ∙ ap reverse (sym (reverse-append xs (47 ∷ [])))
    ∙ reverse-reverse (xs ++ 47 ∷ [])

line-stays : (us : List ℕ) → trimmed_line (line (us ++ 47 ∷ [])) ≡ line (us ++ 47 ∷ [])
line-stays us =
    ap trimmed (last-stays (line us)) ∙ end-stays (line us)

blank_begins : (c : ℕ) (cs : List ℕ) → is_blank c ≡ true → begins_with_blank (c ∷ cs) ≡ true
blank_begins c cs e = grind (arith, nat_tests)

no_blank : (cs : List ℕ) → begins_with_blank cs ≡ false → skip_blanks cs ≡ cs
no_blank [] h = refl
no_blank (c ∷ cs) h = by (is_blank c) refl
  where
    by : (b : Bool) → is_blank c ≡ b → skip_blanks (c ∷ cs) ≡ c ∷ cs
    by true e = absurd (false≢true (sym h ∙ blank_begins c cs e))
    by false e = rw e refl

value-stays : (us : List ℕ) → begins_with_blank (us ++ 47 ∷ []) ≡ false → trimmed (32 ∷ us ++ 47 ∷ []) ≡ us ++ 47 ∷ []
value-stays us h = ap (λ t. reverse (skip_blanks (reverse t))) (no_blank (us ++ 47 ∷ []) h) ∙ end-stays us

pair-line : (ns : Path) → begins_with_blank (with_slashes ns) ≡ false
    → name_and_value (trimmed_line (line (with_slashes ns))) ≡ (codes "path", with_slashes ns)
pair-line [] h = refl
pair-line (n ∷ ns) h =
    let end = ends-slash n ns in
    let plain : begins_with_blank (end.0 ++ 47 ∷ []) ≡ false = ap begins_with_blank (sym end.1) ∙ h in
    ap (λ w. name_and_value (trimmed_line (line w))) end.1
    ∙ ap name_and_value (line-stays end.0)
    ∙ ap (λ v. (codes "path", v)) (value-stays end.0 plain ∙ sym end.1)

is_set : (zs : List ℕ) → is_setting (112 ∷ zs) ≡ true
is_set zs =
    let some : (length (112 ∷ zs) == 0) ≡ false = grind (arith, nat_tests) in
    rw some refl

sets-line : (ns : Path) → (is_setting (trimmed_line (line (with_slashes ns))) && has_equals (trimmed_line (line (with_slashes ns)))) ≡ true
sets-line [] = refl
sets-line (n ∷ ns) =
    let end = ends-slash n ns in
    ap (λ w. is_setting (trimmed_line (line w)) && has_equals (trimmed_line (line w))) end.1
    ∙ ap (λ t. is_setting t && has_equals t) (line-stays end.0)
    ∙ rw (is_set (codes "ath = " ++ end.0 ++ 47 ∷ [])) refl

-- What holds of the other spelling of a line.
pub record IsSpelling (rs : List Path) (l t : List ℕ) : Type 0 where
  pub some : 0 < length t
  pub no_lf : list_any is_lf t ≡ false
  pub plain : is_heading t ≡ false
  pub quiet : kind_of rs t ≡ kind.Stays
  pub last : spelling t ≡ None
  pub rootless : root_on t ≡ None
  pub before : root_on l ≡ None

path-line : (rs : List Path) (l : List ℕ) (ns : Path) → root_on l ≡ None → is_place ns ≡ true → begins_with_blank (with_slashes ns) ≡ false
    → IsSpelling rs l (codes "path = " ++ encode_utf8_all (with_slashes ns))
path-line rs l ns before h plain =
    let t = codes "path = " ++ encode_utf8_all (with_slashes ns) in
    let text : is_utf8 t ≡ true = is_utf8-from_IsUtf8 t (text-line ns h) in
    let said = chars-line ns h in
    let sets = sets-line ns in
    let pair = pair-line ns plain in
    record {
      some = omega arith;
      no_lf = no_lf-apart (encode_utf8_all (with_slashes ns)) (apart-encodes (with_slashes ns) (no_lf-with ns h));
      plain = refl;
      quiet = rw text (ap (λ cs. kind_of_text rs (trimmed_line cs)) said ∙ rw sets (ap (kind_of_pair rs) pair));
      last = rw text (ap (λ cs. spelling_of_text (trimmed_line cs)) said ∙ rw sets (ap spelling_of_pair pair ∙ rw (fixed ns h) refl));
      rootless = rw text (ap (λ cs. root_in_text (trimmed_line cs)) said ∙ rw sets (ap root_of_pair pair));
      before = before;
    }

-- What a line is that has another spelling.
none_is_some : {X : Type 0} (t : List ℕ) → None ≡ Some t → X
none_is_some t h = cc

inside : (a b : List ℕ) → Some a ≡ Some b → a ≡ b
inside a b h = cc

flip : (b : Bool) → not b ≡ true → b ≡ false
flip true h = cc
flip false h = refl

or_false : (b : Bool) → b || false ≡ true → b ≡ true
or_false true h = refl
or_false false h = h

of_value : (rs : List Path) (l v t : List ℕ) → root_on l ≡ None → spelling_of_value v ≡ Some t → IsSpelling rs l t
of_value rs l v t before e = by (is_respelled v) refl
  where
    by : (b : Bool) → is_respelled v ≡ b → IsSpelling rs l t
    by true h =
        let w = with_slashes (names_of v) in
        let one = and_parts (not (begins_with_slash v)) (is_place (names_of v) && can_stand_for w v) h in
        let two = and_parts (is_place (names_of v)) (can_stand_for w v) one.1 in
        let three = and_parts (not (begins_with_blank w)) (not (is_same_value w v)) two.1 in
        let whole : spelling_of_value v ≡ Some (path_line v) = rw h refl in
        subst (IsSpelling rs l) (inside (path_line v) t (sym whole ∙ e))
        (path-line rs l (names_of v) before two.0 (flip (begins_with_blank w) three.0))
    by false h =
        let whole : spelling_of_value v ≡ None = rw h refl in
        none_is_some t (sym whole ∙ e)

of_pair : (rs : List Path) (l : List ℕ) (pair : List ℕ × List ℕ) (t : List ℕ) → root_on l ≡ root_of_pair pair → spelling_of_pair pair ≡ Some t → IsSpelling rs l t
of_pair rs l pair t before e = by (is_one_of (codes "path" ∷ []) pair.0) refl
  where
    by : (b : Bool) → is_one_of (codes "path" ∷ []) pair.0 ≡ b → IsSpelling rs l t
    by true h =
        let named : pair.0 ≡ codes "path" = (bytes_eq-Decides pair.0 (codes "path")).0 (or_false (bytes_eq pair.0 (codes "path")) h) in
        let whole : spelling_of_pair pair ≡ spelling_of_value pair.1 = rw h refl in
        of_value rs l pair.1 t (before ∙ ap (λ n. root_of_pair (n, pair.1)) named) (sym whole ∙ e)
    by false h =
        let whole : spelling_of_pair pair ≡ None = rw h refl in
        none_is_some t (sym whole ∙ e)

of_text : (rs : List Path) (l s t : List ℕ) → root_on l ≡ root_in_text s → spelling_of_text s ≡ Some t → IsSpelling rs l t
of_text rs l s t before e = by (is_setting s && has_equals s) refl
  where
    by : (b : Bool) → is_setting s && has_equals s ≡ b → IsSpelling rs l t
    by true h =
        let whole : spelling_of_text s ≡ spelling_of_pair (name_and_value s) = rw h refl in
        let said : root_in_text s ≡ root_of_pair (name_and_value s) = rw h refl in
        of_pair rs l (name_and_value s) t (before ∙ said) (sym whole ∙ e)
    by false h =
        let whole : spelling_of_text s ≡ None = rw h refl in
        none_is_some t (sym whole ∙ e)

pub spelling-is : (rs : List Path) (l t : List ℕ) → spelling l ≡ Some t → IsSpelling rs l t
spelling-is rs l t e = by (is_utf8 l) refl
  where
    by : (b : Bool) → is_utf8 l ≡ b → IsSpelling rs l t
    by true h =
        let whole : spelling l ≡ spelling_of_text (trimmed_line (chars l)) = rw h refl in
        let said : root_on l ≡ root_in_text (trimmed_line (chars l)) = rw h refl in
        of_text rs l (trimmed_line (chars l)) t said (sym whole ∙ e)
    by false h =
        let whole : spelling l ≡ None = rw h refl in
        none_is_some t (sym whole ∙ e)

-- The line in the place of one that names a file that may lie in a root.
computed : ⊤
unfolding is_utf8 chars lib.Utf8.encode
computed = tt

quiet-refused : (rs : List Path) → kind_of rs refused_line ≡ kind.Stays
unfolding computed
quiet-refused rs = refl

last-refused : spelling refused_line ≡ None
unfolding computed
last-refused = refl

rootless-refused : root_on refused_line ≡ None
unfolding computed
rootless-refused = refl

-- A line that sets a root stays.
root-pair : (rs : List Path) (pair : List ℕ × List ℕ) → (root_of_pair pair ≡ None) ⊎ (kind_of_pair rs pair ≡ kind.Stays)
root-pair rs pair = by (is_one_of (codes "root" ∷ []) pair.0) refl
  where
    by : (b : Bool) → is_one_of (codes "root" ∷ []) pair.0 ≡ b → (root_of_pair pair ≡ None) ⊎ (kind_of_pair rs pair ≡ kind.Stays)
    by true h =
        let named : pair.0 ≡ codes "root" = (bytes_eq-Decides pair.0 (codes "root")).0 (or_false (bytes_eq pair.0 (codes "root")) h) in
        inr (ap (λ n. kind_of_pair rs (n, pair.1)) named)
    by false h = inl (rw h refl)

root-text : (rs : List Path) (s : List ℕ) → (root_in_text s ≡ None) ⊎ (kind_of_text rs s ≡ kind.Stays)
root-text rs s = by (is_setting s && has_equals s) refl
  where
    by : (b : Bool) → is_setting s && has_equals s ≡ b → (root_in_text s ≡ None) ⊎ (kind_of_text rs s ≡ kind.Stays)
    by true h =
        let root : root_in_text s ≡ root_of_pair (name_and_value s) = rw h refl in
        let kind_is : kind_of_text rs s ≡ kind_of_pair rs (name_and_value s) = rw h refl in
        ⊎_elim (λ e. inl (root ∙ e)) (λ e. inr (kind_is ∙ e)) (root-pair rs (name_and_value s))
    by false h = inl (rw h refl)

pub root-stays : (rs : List Path) (l : List ℕ) → (root_on l ≡ None) ⊎ (kind_of rs l ≡ kind.Stays)
root-stays rs l = by (is_utf8 l) refl
  where
    by : (b : Bool) → is_utf8 l ≡ b → (root_on l ≡ None) ⊎ (kind_of rs l ≡ kind.Stays)
    by true h =
        let root : root_on l ≡ root_in_text (trimmed_line (chars l)) = rw h refl in
        let kind_is : kind_of rs l ≡ kind_of_text rs (trimmed_line (chars l)) = rw h refl in
        ⊎_elim (λ e. inl (root ∙ e)) (λ e. inr (kind_is ∙ e)) (root-text rs (trimmed_line (chars l)))
    by false h = inl (rw h refl)

in_root-rootless : (rs : List Path) (l : List ℕ) → is_in_root (kind_of rs l) ≡ true → root_on l ≡ None
in_root-rootless rs l h =
    ⊎_elim (λ e. e) (λ q. absurd (false≢true (sym (ap is_in_root q) ∙ h))) (root-stays rs l)

of_refused : (rs : List Path) (l : List ℕ) → is_in_root (kind_of rs l) ≡ true → IsSpelling rs l refused_line
of_refused rs l h = record {
  some = omega arith;
  no_lf = refl;
  plain = refl;
  quiet = quiet-refused rs;
  last = last-refused;
  rootless = rootless-refused;
  before = in_root-rootless rs l h;
}

-- What a line is in the place of another one.
pub other_spelling-is : (rs : List Path) (l t : List ℕ) → other_spelling rs l ≡ Some t → IsSpelling rs l t
other_spelling-is rs l t e = by (is_in_root (kind_of rs l)) refl
  where
    by : (b : Bool) → is_in_root (kind_of rs l) ≡ b → IsSpelling rs l t
    by true h =
        let whole : other_spelling rs l ≡ Some refused_line = rw h refl in
        subst (IsSpelling rs l) (inside refused_line t (sym whole ∙ e)) (of_refused rs l h)
    by false h =
        let whole : other_spelling rs l ≡ spelling l = rw h refl in
        spelling-is rs l t (sym whole ∙ e)

-- Of the other spelling the plain reader reads the names.
joined : (n : Name) (p : Path) → with_slashes (n ∷ p) ≡ text_of (n ∷ p) ++ 47 ∷ []
joined n [] = append-nil (n ++ 47 ∷ [])
joined n (m ∷ p) =
    ap (λ t. (n ++ 47 ∷ []) ++ t) (joined m p)
    ∙ append_assoc n (47 ∷ []) (text_of (m ∷ p) ++ 47 ∷ [])
    ∙ sym (append_assoc n (47 ∷ text_of (m ∷ p)) (47 ∷ []))

slash_dropped : (xs : List ℕ) → without_last 47 (xs ++ 47 ∷ []) ≡ xs
slash_dropped [] = refl
slash_dropped (x ∷ []) = refl
slash_dropped (x ∷ y ∷ xs) = ap (λ t. x ∷ t) (slash_dropped (y ∷ xs))

other_first : (c : ℕ) (zs : List ℕ) → is_no_slash c ≡ true → begins_with_slash (c ∷ zs) ≡ false
other_first c zs h = grind (arith, nat_tests)

kept-first : (c : ℕ) (zs : List ℕ) → is_no_slash c ≡ true → kept_reading (c ∷ zs) ≡ path_reading (without_last_slash (c ∷ zs))
kept-first c zs h =
    let some : (length (c ∷ zs) == 0) ≡ false = grind (arith, nat_tests) in
    rw (some, other_first c zs h) refl

kept-names : (n : Name) (p : Path) → is_name n ≡ true → kept_reading (with_slashes (n ∷ p)) ≡ path_reading (without_last_slash (with_slashes (n ∷ p)))
kept-names [] p h = cc
kept-names (c ∷ n) p h =
    kept-first c ((n ++ 47 ∷ []) ++ with_slashes p) (and_parts (is_no_slash c) (list_all is_no_slash n) (name-apart (c ∷ n) h)).0

pub spelling-read : (ns : Path) → is_place ns ≡ true → is_short_path ns ≡ true → kept_reading (with_slashes ns) ≡ Ok ns
spelling-read [] h short = refl
spelling-read (n ∷ p) h short =
    let path : is_path (n ∷ p) ≡ true = and_from (not (length (n ∷ p) == 0)) (is_place (n ∷ p)) some h in
    kept-names n p (and_parts (is_name n) (is_place p) h).0
    ∙ ap path_reading (ap (without_last 47) (joined n p) ∙ slash_dropped (text_of (n ∷ p)))
    ∙ path_reading-short (n ∷ p) path short
  where
    some : not (length (n ∷ p) == 0) ≡ true
    some = grind (arith, nat_tests)

pub respelled-read : (v : List ℕ) → is_respelled v ≡ true → is_short_path (names_of v) ≡ true → kept_reading (with_slashes (names_of v)) ≡ Ok (names_of v)
respelled-read v h short =
    let one = and_parts (not (begins_with_slash v)) (is_place (names_of v) && can_stand_for (with_slashes (names_of v)) v) h in
    spelling-read (names_of v) (and_parts (is_place (names_of v)) (can_stand_for (with_slashes (names_of v)) v) one.1).0 short

-- What is a name, a path or a root within the readers' limits is read from its text.
use Rattle.std.proofs.Common.{◌≡◌, ◌==◌, ℕ, ◌+◌, ◌<◌, ◌≤◌, Bool, true, false, not, ◌&&◌, cond, List, [], ◌∷◌, ◌++◌, length, refl, sym, ap, ◌∙◌, arith}
use Rattle.std.specs.Prelude.{IsTrue, Some, None, Ok, nat_eq, nat_le, nat_lt, sum_by}
use Rattle.std.specs.List.{list_all, list_any}
use Rattle.std.specs.Char.{len_utf8}
use Rattle.std.specs.Str.{all_scalars}
use Rattle.std.proofs.lemmas.Bool.{and_parts, and_from}
use Rattle.std.proofs.lemmas.Bool.Decides.{nat_tests}
use Rattle.hub_path.specs.Path.{Name, Path, is_name, is_place, is_path, is_forbidden, is_dots, text_of, path_of}
use Rattle.hub_path.specs.Reading.{name_fault, name_reading, names_fault, path_reading, path_fault, root_reading, root_fault, root_names, place_of, without_last_slash, or_fault, is_short_name, is_short_path}
use Rattle.hub_text.specs.laws.List.{some-item}
use Rattle.hub_path.specs.laws.General.{path_of-text_of, name-apart, is_no_slash}
use Rattle.hub_text.specs.laws.Test.{list_all-not}
use Rattle.hub_path.specs.declared.fault.PathFault.{PathFault}
use Rattle.hub_path.specs.declared.fault.PathFault.TheVariants.{EmptyName, DotName, BadCharacter, NameTooLong}
use Rattle.hub_path.specs.declared.name.TheConstants.{NAME_BYTES}
use Rattle.hub_path.specs.declared.rel_path.TheConstants.{PATH_NAMES}
use Rattle.hub_text.specs.Lines.{without_last}

-- A name passes the first three tests, and a short one the last.
no_test : (a s f d t : Bool) (e g h k : PathFault) → (not a && s && not f && not d) ≡ true
    → t ≡ false → cond a (Some e) (cond d (Some g) (cond f (Some h) (cond t (Some k) None))) ≡ None
no_test true s f d t e g h k p q = cc
no_test false false f d t e g h k p q = cc
no_test false true true d t e g h k p q = cc
no_test false true false true t e g h k p q = cc
no_test false true false false true e g h k p q = cc
no_test false true false false false e g h k p q = refl

not_less : (a b : ℕ) → nat_le a b ≡ true → nat_lt b a ≡ false
not_less a b h = grind (arith, nat_tests)

not_equal : (a b : ℕ) → a < b → (a == b) ≡ false
not_equal a b l = grind (arith, nat_tests)

at_most : (a b : ℕ) → nat_le a b ≡ true → a ≤ b
at_most a b h = grind (arith, nat_tests)

name_fault-none : (n : Name) → IsTrue (is_name n) → IsTrue (is_short_name n) → name_fault n ≡ None
name_fault-none n h short =
    no_test (length n == 0) (all_scalars n) (list_any is_forbidden n) (is_dots n)
    (nat_lt NAME_BYTES (sum_by len_utf8 n)) EmptyName DotName BadCharacter NameTooLong
    (ap (λ b. not (length n == 0) && all_scalars n && b && not (is_dots n))
    (sym (list_all-not is_forbidden n)) ∙ h) (not_less (sum_by len_utf8 n) NAME_BYTES short)

pub name_reading-short : (n : Name) → IsTrue (is_name n) → IsTrue (is_short_name n)
    → name_reading n ≡ Ok n
name_reading-short n h short = ap (λ f. or_fault f n) (name_fault-none n h short)

names_fault-none : (depth : ℕ) (ns : Path) → IsTrue (is_place ns)
    → IsTrue (list_all is_short_name ns) → depth + length ns ≤ PATH_NAMES
    → names_fault depth ns ≡ None
names_fault-none depth [] h short l = refl
names_fault-none depth (n ∷ ns) h short l =
    let names = and_parts (is_name n) (is_place ns) h in
    let lengths = and_parts (is_short_name n) (list_all is_short_name ns) short in
    let room : (depth == PATH_NAMES) ≡ false = not_equal depth PATH_NAMES (omega (arith, l)) in
    rw (room, name_fault-none n names.0 lengths.0)
    (names_fault-none (depth + 1) ns names.1 lengths.1 (omega (arith, l)))

no_names_fault : (p : Path) → IsTrue (is_place p) → IsTrue (is_short_path p)
    → names_fault 0 p ≡ None
no_names_fault p h short =
    let parts = and_parts (nat_le (length p) PATH_NAMES) (list_all is_short_name p) short in
    names_fault-none 0 p h parts.1 (omega (arith, at_most (length p) PATH_NAMES parts.0))

pub path-place : (p : Path) → IsTrue (is_path p) → IsTrue (is_place p)
path-place p h = (and_parts (not (length p == 0)) (is_place p) h).1

-- The text of a path begins with a character other than a slash.
record Begins (t : List ℕ) : Type 0 where
  first : ℕ
  rest : List ℕ
  are : t ≡ first ∷ rest
  apart : is_no_slash first ≡ true

name-begins : (n : Name) → IsTrue (is_name n) → Begins n
name-begins [] h = cc
name-begins (c ∷ n) h =
    record {
      first = c;
      rest = n;
      are = refl;
      apart =
          (and_parts (is_no_slash c) (list_all is_no_slash n) (name-apart (c ∷ n) h)).0;
    }

longer-begins : (n t : List ℕ) → Begins n → Begins (n ++ t)
longer-begins n t b =
    record { first = b.first; rest = b.rest ++ t; are = ap (λ m. m ++ t) b.are; apart = b.apart }

text-begins : (n : Name) (p : Path) → IsTrue (is_place (n ∷ p)) → Begins (text_of (n ∷ p))
text-begins n [] h = name-begins n (and_parts (is_name n) true h).0
text-begins n (m ∷ p) h =
    longer-begins n (47 ∷ text_of (m ∷ p))
    (name-begins n (and_parts (is_name n) (is_place (m ∷ p)) h).0)

apart-slash : (c : ℕ) → is_no_slash c ≡ true → nat_eq 47 c ≡ false
apart-slash c h = grind (arith, nat_tests)

no_fault : (t : List ℕ) → Begins t → path_fault t ≡ names_fault 0 (path_of t)
no_fault t b =
    ap path_fault b.are
    ∙ rw (some-item b.first b.rest, apart-slash b.first b.apart)
    (ap (λ u. names_fault 0 (path_of u)) (sym b.are))

-- A path whose names have no fault is read from its text.
pub path_reading-names : (p : Path) → IsTrue (is_path p) → names_fault 0 p ≡ None
    → path_reading (text_of p) ≡ Ok p
path_reading-names [] h fine = cc
path_reading-names (n ∷ p) h fine =
    let same : path_of (text_of (n ∷ p)) ≡ n ∷ p = path_of-text_of (n ∷ p) h in
    ap (λ f. or_fault f (path_of (text_of (n ∷ p))))
    (no_fault (text_of (n ∷ p)) (text-begins n p (path-place (n ∷ p) h))
    ∙ ap (names_fault 0) same ∙ fine)
    ∙ ap Ok same

pub path_reading-short : (p : Path) → IsTrue (is_path p) → IsTrue (is_short_path p)
    → path_reading (text_of p) ≡ Ok p
path_reading-short p h short = path_reading-names p h (no_names_fault p (path-place p h) short)

-- The text of a place doesn't end with a slash.
without_last-more : (xs : List ℕ) (c : ℕ) (ys : List ℕ)
    → without_last 47 (xs ++ c ∷ ys) ≡ xs ++ without_last 47 (c ∷ ys)
without_last-more [] c ys = refl
without_last-more (x ∷ []) c ys = refl
without_last-more (x ∷ y ∷ xs) c ys = ap (λ t. x ∷ t) (without_last-more (y ∷ xs) c ys)

without_last-name : (n : List ℕ) → list_all is_no_slash n ≡ true → without_last 47 n ≡ n
without_last-name [] h = refl
without_last-name (c ∷ []) h = stays (c == 47) (and_parts (is_no_slash c) true h).0
  where
    stays : (t : Bool) → not t ≡ true → cond t [] (c ∷ []) ≡ c ∷ []
    stays true h = cc
    stays false h = refl
without_last-name (c ∷ d ∷ n) h =
    ap (λ t. c ∷ t) (without_last-name (d ∷ n)
    (and_parts (is_no_slash c) (list_all is_no_slash (d ∷ n)) h).1)

without_last-begun : (t : List ℕ) → Begins t → (n : Name)
    → without_last 47 (n ++ 47 ∷ t) ≡ n ++ 47 ∷ without_last 47 t
without_last-begun t b n =
    without_last-more n 47 t ∙ ap (λ u. n ++ u)
    (ap (λ u. without_last 47 (47 ∷ u)) b.are ∙ ap (λ u. 47 ∷ without_last 47 u) (sym b.are))

pub text-whole : (p : Path) → IsTrue (is_place p) → without_last_slash (text_of p) ≡ text_of p
text-whole [] h = refl
text-whole (n ∷ []) h = without_last-name n (name-apart n (and_parts (is_name n) true h).0)
text-whole (n ∷ m ∷ p) h =
    let parts = and_parts (is_name n) (is_place (m ∷ p)) h in
    without_last-begun (text_of (m ∷ p)) (text-begins m p parts.1) n
    ∙ ap (λ t. n ++ 47 ∷ t) (text-whole (m ∷ p) parts.1)

root_names-text : (r : Path) → IsTrue (is_place r) → root_names (47 ∷ text_of r) ≡ r
root_names-text [] h = refl
root_names-text (n ∷ p) h =
    let b = text-begins n p h in
    let some : not (length (n ∷ p) == 0) ≡ true = grind (arith, nat_tests) in
    ap place_of (text-whole (n ∷ p) h)
    ∙ (ap place_of b.are ∙ rw (some-item b.first b.rest) (ap path_of (sym b.are)))
    ∙ path_of-text_of (n ∷ p) (and_from _ _ some h)

root_fault-begun : (t : List ℕ) → Begins t
    → root_fault (47 ∷ t) ≡ names_fault 0 (root_names (47 ∷ t))
root_fault-begun t b =
    ap (λ u. root_fault (47 ∷ u)) b.are
    ∙ rw (some-item 47 (b.first ∷ b.rest), apart-slash b.first b.apart)
    (ap (λ u. names_fault 0 (root_names (47 ∷ u))) (sym b.are))

root_fault-text : (r : Path) → IsTrue (is_place r)
    → root_fault (47 ∷ text_of r) ≡ names_fault 0 (root_names (47 ∷ text_of r))
root_fault-text [] h = refl
root_fault-text (n ∷ p) h = root_fault-begun (text_of (n ∷ p)) (text-begins n p h)

-- A root is read from its text, which is a slash and that of its names.
pub root_reading-names : (r : Path) → IsTrue (is_place r) → names_fault 0 r ≡ None
    → root_reading (47 ∷ text_of r) ≡ Ok r
root_reading-names r h fine =
    ap (λ f. or_fault f (root_names (47 ∷ text_of r)))
    (root_fault-text r h ∙ ap (names_fault 0) (root_names-text r h) ∙ fine)
    ∙ ap Ok (root_names-text r h)

pub root_reading-short : (r : Path) → IsTrue (is_place r) → IsTrue (is_short_path r)
    → root_reading (47 ∷ text_of r) ≡ Ok r
root_reading-short r h short = root_reading-names r h (no_names_fault r h short)

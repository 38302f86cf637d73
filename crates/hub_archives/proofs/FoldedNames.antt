-- What a name folds to, character by character, and a path name by name.
use Rattle.std.proofs.Common.{◌≡◌, ◌∙◌, ◌<◌, ◌≤◌, ◌+◌, ◌++◌, ◌==◌, ◌&&◌, ℕ, zero, suc, unwrap_or, arith, Bool, false, true, List, [], ◌∷◌, Some, None, Option, chars, encode_utf8_all, length, map, slice_get, take, ap, sym, refl, IsTrue}
use Rattle.std.specs.Prelude.{nat_le, if◌then◌else◌}
use Rattle.std.specs.List.{list_all}
use Rattle.std.specs.Str.{all_scalars}
use lib.Utf8.{low_scalar, scalar}
use Rattle.std.proofs.lemmas.Bool.{and_parts, and_from}
use Rattle.std.proofs.lemmas.Bool.Decides.{nat_tests}
use Rattle.std.proofs.Math.Bool.{and-false}
use Rattle.std.proofs.lemmas.List.{take_all, take_more}
use Rattle.std.proofs.lemmas.Option.{get_or_from_slice_get, slice_get_within}
use Rattle.std.proofs.lemmas.List.Folds.{list_all-append}
use Rattle.std.proofs.lemmas.Str.{chars-encodes}
use Rattle.hub_path.specs.Path.{Name, Path, is_name, name_in}
use Rattle.hub_path.specs.laws.NameFacts.{name_chars, name_parts}
use Rattle.hub_folded.specs.Fold.{fold_name, fold_path, is_upper, knows, lower}
use Rattle.hub_folded.specs.Row.{Row}
use Rattle.hub_folded.specs.Rows.{rows}
use Rattle.hub_folded.specs.Table.{by_rows, is_ascii, unicode}
use Rattle.hub_archives.specs.Seen.{folded_name, folded_path, folds_to_name, folds_to_path}

-- A character folds to characters.
lower_scalar : (c : ℕ) → scalar c ≡ true → scalar (lower c) ≡ true
lower_scalar c h = go (is_upper c) refl
  where
    go : (b : Bool) → is_upper c ≡ b → scalar (if b then c + 32 else c) ≡ true
    go true up =
        low_scalar (c + 32) (below (and_parts (nat_le 65 c) (nat_le c 90) up).1)
      where
        below : nat_le c 90 ≡ true → c + 32 < 55296
        below e = grind (arith, nat_tests)
    go false up = h

row_scalars : (rs : List Row) (c : ℕ) → list_all (λ (r : Row). list_all scalar r.to) rs ≡ true
    → scalar c ≡ true → list_all scalar (by_rows rs c) ≡ true
row_scalars [] c all h = and_from (scalar c) true h refl
row_scalars (r ∷ rs) c all h =
    let two = and_parts (list_all scalar r.to) (list_all (λ (s : Row). list_all scalar s.to) rs) all in
    go (r.of == c) two.0 (row_scalars rs c two.1 h)
  where
    go : (b : Bool) → list_all scalar r.to ≡ true → list_all scalar (by_rows rs c) ≡ true
        → list_all scalar (if b then r.to else by_rows rs c) ≡ true
    go true row rest = row
    go false row rest = rest

character : (rs : List Row) (c : ℕ) → list_all (λ (r : Row). list_all scalar r.to) rs ≡ true
    → scalar c ≡ true → list_all scalar (if is_ascii c then lower c ∷ [] else by_rows rs c) ≡ true
character rs c all h = go (is_ascii c)
  where
    go : (b : Bool) → list_all scalar (if b then lower c ∷ [] else by_rows rs c) ≡ true
    go true = and_from (scalar (lower c)) true (lower_scalar c h) refl
    go false = row_scalars rs c all h

rows_scalars : list_all (λ (r : Row). list_all scalar r.to) rows ≡ true
rows_scalars = refl

each_scalar : (n : Name) → all_scalars n ≡ true → list_all scalar (fold_name unicode n) ≡ true
each_scalar [] h = refl
each_scalar (c ∷ n) h =
    let two = and_parts (scalar c) (all_scalars n) h in
    list_all-append scalar (unicode.to c) (fold_name unicode n)
    ∙ and_from (list_all scalar (unicode.to c)) (list_all scalar (fold_name unicode n))
    (character rows c rows_scalars two.0) (each_scalar n two.1)

all_of : (cs : List ℕ) → list_all scalar cs ≡ true → all_scalars cs ≡ true
all_of [] h = refl
all_of (c ∷ cs) h =
    let two = and_parts (scalar c) (list_all scalar cs) h in
    and_from (scalar c) (all_scalars cs) two.0 (all_of cs two.1)

-- The text of a name is known where the name is.
known_text : (n : Name) (bs : List ℕ) → IsTrue (is_name n) → bs ≡ encode_utf8_all n
    → knows unicode (chars bs) ≡ knows unicode n
known_text n bs is e = ap (knows unicode) (name_chars n bs e is)

pub unknown_name : (n : Name) (bs : List ℕ) → IsTrue (is_name n) → bs ≡ encode_utf8_all n
    → knows unicode (chars bs) ≡ false → None ≡ folded_name n
unknown_name n bs is e unknown =
    ap (λ b. if b && is_name (fold_name unicode n) then Some (fold_name unicode n) else None)
    (sym unknown ∙ known_text n bs is e)

pub known_name : (n : Name) (bs fs : List ℕ) (o : Option Name) → IsTrue (is_name n) → bs ≡ encode_utf8_all n
    → fs ≡ encode_utf8_all (fold_name unicode (chars bs)) → knows unicode (chars bs) ≡ true
    → o ≡ name_in (chars fs) → o ≡ folded_name n
known_name n bs fs o is text folds known read =
    read ∙ (ap name_in same
    ∙ ap (λ b. if b && is_name (fold_name unicode n) then Some (fold_name unicode n) else None)
    (sym known ∙ known_text n bs is text))
  where
    same : chars fs ≡ fold_name unicode n
    same =
        ap chars folds ∙ (ap (λ m. chars (encode_utf8_all (fold_name unicode m))) (name_chars n bs text is)
        ∙ chars-encodes (fold_name unicode n)
        (all_of (fold_name unicode n) (each_scalar n (name_parts n is).scalars)))

-- Lists, item by item.
module _ {X : Type 0} where
  none_is : {x : X} → None ≡ Some x → ⊥
  none_is i = cc

  pub some_if : (b : Bool) (x y : X) (o : Option X) → o ≡ Some y → o ≡ (if b then Some x else None)
      → (b ≡ true) × (y ≡ x)
  some_if true x y o is e = let some : Some y ≡ Some x = sym is ∙ e in (refl, cc)
  some_if false x y o is e = absurd (none_is (sym e ∙ is))

  pub none_if : (b : Bool) (x : X) (o : Option X) → o ≡ None → o ≡ (if b then Some x else None) → b ≡ false
  none_if true x o is e = absurd (none_is (sym is ∙ e))
  none_if false x o is e = refl

not_all : (p : Name → Bool) (x : Path) (i : ℕ) (n : Name) → slice_get x i ≡ Some n → p n ≡ false
    → list_all p x ≡ false
not_all p [] i n at h = absurd (none_is at)
not_all p (m ∷ x) zero n at h =
    ap (λ b. b && list_all p x) (ap p (ap (λ o. unwrap_or o m) at) ∙ h)
not_all p (m ∷ x) (suc i) n at h = ap (λ b. p m && b) (not_all p x i n at h) ∙ and-false (p m)

taken : (x : Path) (i : ℕ) (n : Name) → slice_get x i ≡ Some n → take (i + 1) x ≡ take i x ++ n ∷ []
taken x i n at =
    take_more x i n (slice_get_within x i n at)
    ∙ ap (λ m. take i x ++ m ∷ []) (get_or_from_slice_get x i n n at)

map_push : (f : Name → Name) (x : Path) (n : Name) → map f (x ++ n ∷ []) ≡ map f x ++ f n ∷ []
map_push f [] n = refl
map_push f (m ∷ x) n = ap (λ y. f m ∷ y) (map_push f x n)

-- A path folds up to its first name that doesn't.
pub stops : (x : Path) (i : ℕ) (n : Name) (o : Option Name) → slice_get x i ≡ Some n → o ≡ None → o ≡ folded_name n
    → None ≡ folded_path x
stops x i n o at none is =
    ap (λ b. if b then Some (fold_path unicode x) else None)
    (sym (not_all folds_to_name x i n at (none_if (folds_to_name n) (fold_name unicode n) o none is)))

pub grows : (x : Path) (i : ℕ) (n : Name) (o : Option Name) → slice_get x i ≡ Some n → (t : Name)
    → (old new : Path) → old ≡ fold_path unicode (take i x) → folds_to_path (take i x) ≡ true → o ≡ Some t
    → o ≡ folded_name n → new ≡ old ++ t ∷ []
    → (new ≡ fold_path unicode (take (i + 1) x)) × (folds_to_path (take (i + 1) x) ≡ true)
grows x i n o at t old new before known some is more =
    let two = some_if (folds_to_name n) (fold_name unicode n) t o some is in (
      more ∙ ((λ j. before j ++ two.1 j ∷ [])
          ∙ (sym (map_push (fold_name unicode) (take i x) n) ∙ ap (fold_path unicode) (sym (taken x i n at)))),
      ap folds_to_path (taken x i n at)
          ∙ (list_all-append folds_to_name (take i x) (n ∷ []) ∙ (λ j. known j && (two.0 j && true))),
    )

pub ends : (x : Path) (i : ℕ) (y : Path) → length x ≤ i → y ≡ fold_path unicode (take i x)
    → folds_to_path (take i x) ≡ true → Some y ≡ folded_path x
ends x i y all is known =
    ap Some (is ∙ ap (fold_path unicode) (take_all i x all))
    ∙ ap (λ b. if b then Some (fold_path unicode x) else None)
    (sym known ∙ ap folds_to_path (take_all i x all))

-- What a known name folds to is a name.
use Rattle.std.proofs.Common.{◌≡◌, ◌==◌, ◌<◌, ◌+◌, ℕ, lit<, arith, Bool, true, false, not, ◌&&◌, ◌||◌, List, [], ◌∷◌, ◌++◌, length, refl, sym, ap, ◌∙◌}
use Rattle.std.specs.Prelude.{nat_le, slice_index, codes, if◌then◌else◌}
use Rattle.std.specs.List.{list_all}
use Rattle.std.specs.Str.{all_scalars}
use lib.Utf8.{low_scalar, scalar}
use Rattle.std.proofs.lemmas.Bool.{and_parts, and_from}
use Rattle.std.proofs.lemmas.Bool.Decides.{nat_tests, Decides-eqb}
use Rattle.std.proofs.lemmas.List.Folds.{list_all-append}
use Rattle.hub_text.specs.laws.List.{some-item}
use Rattle.hub_path.specs.Path.{Name, is_dots, is_forbidden, is_name, name_eq}
use Rattle.hub_path.specs.laws.General.{name_eq-decides}
use Rattle.hub_folded.specs.Fold.{Folding, IsTextual, fold_name, is_upper, knows, latin, lower, marks_stand}
use Rattle.hub_folded.specs.Ranges.{ranges}
use Rattle.hub_folded.specs.Row.{Range, Row}
use Rattle.hub_folded.specs.Rows.{rows}
use Rattle.hub_folded.specs.Table.{by_rows, folding_by, is_ascii, unicode}
use Rattle.hub_folded.proofs.Paths.{no}
use Rattle.hub_folded.proofs.Textual.{latin-textual, unicode-textual}

-- A character that a name may have.
abbrev pub is_fit : ℕ → Bool
is_fit c = scalar c && not (is_forbidden c)

-- What such a character folds to has such characters alone.
abbrev pub KeepsFit : Folding → Type 0
KeepsFit F = (c : ℕ) → is_fit c ≡ true → list_all is_fit (F.to c) ≡ true

fit-scalars : (n : Name) → list_all is_fit n ≡ true → all_scalars n ≡ true
fit-scalars [] h = refl
fit-scalars (c ∷ n) h =
    let two = and_parts (is_fit c) (list_all is_fit n) h in
    and_from (scalar c) (all_scalars n) (and_parts (scalar c) (not (is_forbidden c)) two.0).0
    (fit-scalars n two.1)

fit-allowed : (n : Name) → list_all is_fit n ≡ true → list_all (λ c. not (is_forbidden c)) n ≡ true
fit-allowed [] h = refl
fit-allowed (c ∷ n) h =
    let two = and_parts (is_fit c) (list_all is_fit n) h in
    and_from (not (is_forbidden c)) (list_all (λ d. not (is_forbidden d)) n)
    (and_parts (scalar c) (not (is_forbidden c)) two.0).1 (fit-allowed n two.1)

all-fit : (n : Name) → all_scalars n ≡ true → list_all (λ c. not (is_forbidden c)) n ≡ true
    → list_all is_fit n ≡ true
all-fit [] h k = refl
all-fit (c ∷ n) h k =
    let one = and_parts (scalar c) (all_scalars n) h in
    let two = and_parts (not (is_forbidden c)) (list_all (λ d. not (is_forbidden d)) n) k in
    and_from (is_fit c) (list_all is_fit n) (and_from (scalar c) (not (is_forbidden c)) one.0 two.0)
    (all-fit n one.1 two.1)

module _ (F : Folding) (fit : KeepsFit F) (textual : IsTextual F) where
  folds-fit : (n : Name) → list_all is_fit n ≡ true → list_all is_fit (fold_name F n) ≡ true
  folds-fit [] h = refl
  folds-fit (c ∷ n) h =
      let two = and_parts (is_fit c) (list_all is_fit n) h in
      list_all-append is_fit (F.to c) (fold_name F n)
      ∙ and_from (list_all is_fit (F.to c)) (list_all is_fit (fold_name F n)) (fit c two.0)
      (folds-fit n two.1)

  -- A character folds to one or more, the first of them a dot only if it is one.
  some-first : (c : ℕ) (t u : List ℕ) → F.is_known c ≡ true → F.to c ≡ t → (length (t ++ u) == 0) ≡ false
  some-first c [] u known e = no (sym (textual.some c known) ∙ ap (λ s. length s == 0) e)
  some-first c (d ∷ t) u known e = some-item d (t ++ u)

  dot-first : (c : ℕ) (t u v : List ℕ) → F.is_known c ≡ true → F.to c ≡ t → t ++ u ≡ 46 ∷ v
      → (c ≡ 46) × (u ≡ v)
  dot-first c [] u v known e h = no (sym (textual.some c known) ∙ ap (λ s. length s == 0) e)
  dot-first c (d ∷ t) u v known e h = go (c == 46) refl
    where
      first : d ≡ 46
      first = ap (λ s. slice_index s 0) h

      go : (b : Bool) → (c == 46) ≡ b → (c ≡ 46) × (u ≡ v)
      go true is =
          let same : c ≡ 46 = (Decides-eqb c 46).0 is in
          let own : F.to c ≡ 46 ∷ [] = ap F.to same ∙ textual.ascii 46 refl in
          (same, sym (ap (λ s. tail (s ++ u)) (sym e ∙ own)) ∙ ap tail h)
        where
          tail : List ℕ → List ℕ
          tail [] = []
          tail (x ∷ xs) = xs
      go false not_dot =
          no (sym (textual.no_dot c known not_dot)
          ∙ (ap (λ s. slice_index s 0 == 46) e ∙ ap (λ x. x == 46) first))

  -- A known name that folds to dots has dots.
  nothing : (n : Name) → list_all F.is_known n ≡ true → fold_name F n ≡ [] → n ≡ []
  nothing [] known h = refl
  nothing (c ∷ n) known h =
      let two = and_parts (F.is_known c) (list_all F.is_known n) known in
      no (sym (some-first c (F.to c) (fold_name F n) two.0 refl) ∙ ap (λ s. length s == 0) h)

  dots : (ds : List ℕ) → list_all (λ d. d == 46) ds ≡ true → (n : Name)
      → list_all F.is_known n ≡ true → fold_name F n ≡ ds → n ≡ ds
  dots [] are n known h = nothing n known h
  dots (d ∷ ds) are [] known h = no (sym (some-item d ds) ∙ sym (ap (λ s. length s == 0) h))
  dots (d ∷ ds) are (c ∷ n) known h =
      let dot = and_parts (d == 46) (list_all (λ x. x == 46) ds) are in
      let is : d ≡ 46 = (Decides-eqb d 46).0 dot.0 in
      let two = and_parts (F.is_known c) (list_all F.is_known n) known in
      let both = dot-first c (F.to c) (fold_name F n) ds two.0 refl (h ∙ ap (λ x. x ∷ ds) is) in
      (λ i. (both.0 ∙ sym is) i ∷ dots ds dot.1 n two.1 both.1 i)

  not-dots : (ds : List ℕ) → list_all (λ d. d == 46) ds ≡ true → (n : Name)
      → list_all F.is_known n ≡ true → name_eq n ds ≡ false → name_eq (fold_name F n) ds ≡ false
  not-dots ds are n known other = go (name_eq (fold_name F n) ds) refl
    where
      go : (b : Bool) → name_eq (fold_name F n) ds ≡ b → b ≡ false
      go true e =
          no (sym other
          ∙ (name_eq-decides n ds).1 (dots ds are n known ((name_eq-decides (fold_name F n) ds).0 e)))
      go false e = refl

  some-left : (n : Name) → (length n == 0) ≡ false → list_all F.is_known n ≡ true
      → (length (fold_name F n) == 0) ≡ false
  some-left [] some known = some
  some-left (c ∷ n) some known =
      some-first c (F.to c) (fold_name F n) (and_parts (F.is_known c) (list_all F.is_known n) known).0 refl

  pub folds-to-name : (n : Name) → is_name n ≡ true → knows F n ≡ true
      → is_name (fold_name F n) ≡ true
  folds-to-name n is known =
      let proper = and_parts (not (length n == 0) && all_scalars n && list_all (λ c. not (is_forbidden c)) n) (not (is_dots n)) is in
      let last = and_parts (not (length n == 0) && all_scalars n) (list_all (λ c. not (is_forbidden c)) n) proper.0 in
      let first = and_parts (not (length n == 0)) (all_scalars n) last.0 in
      let all = (and_parts (list_all F.is_known n) (marks_stand F false n) known).0 in
      let fits = folds-fit n (all-fit n first.1 last.1) in
      let t = fold_name F n in
      let dotted = neither (name_eq n (codes ".")) (name_eq n (codes "..")) proper.1 in
      and_from (not (length t == 0) && all_scalars t && list_all (λ c. not (is_forbidden c)) t) (not (is_dots t))
      (and_from (not (length t == 0) && all_scalars t) (list_all (λ c. not (is_forbidden c)) t)
      (and_from (not (length t == 0)) (all_scalars t) (ap not (some-left n (unnot (length n == 0) first.0) all))
      (fit-scalars t fits)) (fit-allowed t fits))
      (λ i. not (not-dots (codes ".") refl n all dotted.0 i || not-dots (codes "..") refl n all dotted.1 i))
    where
      unnot : (b : Bool) → not b ≡ true → b ≡ false
      unnot true e = no e
      unnot false e = refl

      neither : (a b : Bool) → not (a || b) ≡ true → (a ≡ false) × (b ≡ false)
      neither true b e = no e
      neither false true e = no e
      neither false false e = (refl, refl)

-- Both modes keep such characters.
lower-fit : (c : ℕ) → is_fit c ≡ true → is_fit (lower c) ≡ true
lower-fit c h = go (is_upper c) refl
  where
    go : (b : Bool) → is_upper c ≡ b → is_fit (if b then c + 32 else c) ≡ true
    go true up =
        let two = and_parts (nat_le 65 c) (nat_le c 90) up in
        small (c + 32) (from two.0) (to two.1)
      where
        from : nat_le 65 c ≡ true → nat_le 97 (c + 32) ≡ true
        from e = grind (arith, nat_tests)

        to : nat_le c 90 ≡ true → nat_le (c + 32) 122 ≡ true
        to e = grind (arith, nat_tests)

        small : (d : ℕ) → nat_le 97 d ≡ true → nat_le d 122 ≡ true → is_fit d ≡ true
        small d l m =
            and_from (scalar d) (not (is_forbidden d)) (low_scalar d below)
            (λ i. not (((off 0 (lit< tt) i || off 10 (lit< tt) i) || off 13 (lit< tt) i) || off 47 (lit< tt) i))
          where
            below : d < 55296
            below = grind (arith, nat_tests)

            off : (k : ℕ) → k < 97 → (d == k) ≡ false
            off k s = grind (arith, nat_tests)
    go false up = h

rows-fit : (rs : List Row) (c : ℕ) → list_all (λ (r : Row). list_all is_fit r.to) rs ≡ true
    → is_fit c ≡ true → list_all is_fit (by_rows rs c) ≡ true
rows-fit [] c all h = and_from (is_fit c) true h refl
rows-fit (r ∷ rs) c all h =
    let two = and_parts (list_all is_fit r.to) (list_all (λ (s : Row). list_all is_fit s.to) rs) all in
    go (r.of == c) two.0 (rows-fit rs c two.1 h)
  where
    go : (b : Bool) → list_all is_fit r.to ≡ true → list_all is_fit (by_rows rs c) ≡ true
        → list_all is_fit (if b then r.to else by_rows rs c) ≡ true
    go true row rest = row
    go false row rest = rest

table-fit : (rs : List Row) (gs : List Range) → list_all (λ (r : Row). list_all is_fit r.to) rs ≡ true
    → KeepsFit (folding_by rs gs)
table-fit rs gs all c h = go (is_ascii c)
  where
    go : (b : Bool) → list_all is_fit (if b then lower c ∷ [] else by_rows rs c) ≡ true
    go true = and_from (is_fit (lower c)) true (lower-fit c h) refl
    go false = rows-fit rs c all h

pub unicode-name : (n : Name) → is_name n ≡ true → knows unicode n ≡ true
    → is_name (fold_name unicode n) ≡ true
unicode-name n = folds-to-name unicode (table-fit rows ranges refl) unicode-textual n

pub latin-name : (n : Name) → is_name n ≡ true → is_name (fold_name latin n) ≡ true
latin-name n is =
    folds-to-name latin (λ c h. and_from (is_fit (lower c)) true (lower-fit c h) refl) latin-textual n is
    (all n)
  where
    known-all : (n : Name) → list_all (λ c. true) n ≡ true
    known-all [] = refl
    known-all (c ∷ n) = known-all n

    stand-all : (b : Bool) (n : Name) → marks_stand latin b n ≡ true
    stand-all b [] = refl
    stand-all b (c ∷ n) = stand-all true n

    all : (n : Name) → knows latin n ≡ true
    all n = and_from (list_all (λ c. true) n) (marks_stand latin false n) (known-all n) (stand-all false n)

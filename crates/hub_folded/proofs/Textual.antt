-- Both modes fold texts as patterns need it; and the folded lines are those of a profile.
use Rattle.std.proofs.Common.{◌≡◌, ◌==◌, ◌≤◌, ◌+◌, ℕ, suc, arith, Bool, true, false, not, ◌&&◌, ◌||◌, List, [], ◌∷◌, map, length, refl, ap}
use Rattle.std.specs.Prelude.{nat_le, slice_index, if◌then◌else◌, cond}
use Rattle.std.specs.List.{list_all, filter}
use Rattle.std.proofs.lemmas.Bool.{and_parts, and_from}
use Rattle.std.proofs.lemmas.Bool.Decides.{nat_tests}
use Rattle.std.proofs.lemmas.List.{length-map}
use Rattle.hub_path.specs.Path.{Path}
use Rattle.hub_glob.specs.Specification.{Specification}
use Rattle.hub_profile.specs.Facts.{are_kept}
use Rattle.hub_profile.specs.Parts.{Parts}
use Rattle.hub_profile.specs.declared.draft.TheConstants.{PATTERN_LINES}
use Rattle.hub_unison.specs.ReadingOf.{topmost}
use Rattle.hub_folded.specs.Fold.{Folding, IsTextual, fold_path, knows_path, is_upper, latin, lower}
use Rattle.hub_folded.specs.Ranges.{ranges}
use Rattle.hub_folded.specs.Row.{Range, Row}
use Rattle.hub_folded.specs.Rows.{rows}
use Rattle.hub_folded.specs.Table.{by_rows, folding_by, has_row, in_ranges, is_ascii, unicode}
use Rattle.hub_folded.specs.declared.member.Member.{Member}
use Rattle.hub_folded.specs.Lines.{are_over, fold_spec, folded, folded_member, folded_paths, folded_specs, folded_tops, highest, knows_line, may_ignore, spread, top_of, IsWithinLines}
use Rattle.hub_folded.proofs.Paths.{no}

-- What a lower letter is.
lower-not : (c k : ℕ) → (c == k) ≡ false → (is_upper c ≡ true → (c + 32 == k) ≡ false)
    → (lower c == k) ≡ false
lower-not c k e u = go (is_upper c) refl
  where
    go : (b : Bool) → is_upper c ≡ b → ((if b then c + 32 else c) == k) ≡ false
    go true up = u up
    go false up = e

upper-no : (c : ℕ) → nat_le 65 c ≡ true → ((c + 32 == 47) ≡ false) × ((c + 32 == 46) ≡ false)
upper-no c l = (grind (arith, nat_tests), grind (arith, nat_tests))

up : (c : ℕ) → is_upper c ≡ true → nat_le 65 c ≡ true
up c h = (and_parts (nat_le 65 c) (nat_le c 90) h).0

lower-no-slash : (c : ℕ) → (c == 47) ≡ false → (not (lower c == 47) && true) ≡ true
lower-no-slash c e =
    and_from (not (lower c == 47)) true (ap not (lower-not c 47 e (λ h. (upper-no c (up c h)).0))) refl

lower-no-dot : (c : ℕ) → (c == 46) ≡ false → (lower c == 46) ≡ false
lower-no-dot c e = lower-not c 46 e (λ h. (upper-no c (up c h)).1)

pub latin-textual : IsTextual latin
latin-textual = record {
  ascii = λ c l. refl;
  ascii_known = λ c l. refl;
  some = λ c k. refl;
  no_slash = λ c k e. lower-no-slash c e;
  no_dot = λ c k e. lower-no-dot c e;
}

-- What rows make of a character is a text as patterns need it, if each row's is.
abbrev is_textual_row : Row → Bool
is_textual_row r =
    not (length r.to == 0) && list_all (λ d. not (d == 47)) r.to && not (slice_index r.to 0 == 46)

abbrev TextOf : ℕ → List ℕ → Type 0
TextOf c t =
    ((length t == 0) ≡ false) × ((c == 47) ≡ false → list_all (λ d. not (d == 47)) t ≡ true)
    × ((c == 46) ≡ false → (slice_index t 0 == 46) ≡ false)

unnot : (b : Bool) → not b ≡ true → b ≡ false
unnot true e = no e
unnot false e = refl

by-rows : (rs : List Row) (c : ℕ) → list_all is_textual_row rs ≡ true → TextOf c (by_rows rs c)
by-rows [] c all = (refl, (λ e. and_from (not (c == 47)) true (ap not e) refl), (λ e. e))
by-rows (r ∷ rs) c all =
    let parts = and_parts (is_textual_row r) (list_all is_textual_row rs) all in
    go (r.of == c) parts.0 (by-rows rs c parts.1)
  where
    go : (b : Bool) → is_textual_row r ≡ true → TextOf c (by_rows rs c)
        → TextOf c (if b then r.to else by_rows rs c)
    go true row rest =
        let two = and_parts (not (length r.to == 0) && list_all (λ d. not (d == 47)) r.to)
        (not (slice_index r.to 0 == 46)) row in
        let one = and_parts (not (length r.to == 0)) (list_all (λ d. not (d == 47)) r.to) two.0 in
        (unnot (length r.to == 0) one.0, (λ e. one.1), (λ e. unnot (slice_index r.to 0 == 46) two.1))
    go false row rest = rest

module _ (rs : List Row) (gs : List Range) (all : list_all is_textual_row rs ≡ true) where
  table-textual : IsTextual (folding_by rs gs)
  table-textual = record {
    ascii = λ c l. ap (λ b. if b then lower c ∷ [] else by_rows rs c) l;
    ascii_known = λ c l. ap (λ b. b || (has_row rs c || in_ranges gs c)) l;
    some = λ c k. some c (is_ascii c);
    no_slash = λ c k e. slash c e (is_ascii c);
    no_dot = λ c k e. dot c e (is_ascii c);
  }
    where
      some : (c : ℕ) (b : Bool) → (length (if b then lower c ∷ [] else by_rows rs c) == 0) ≡ false
      some c true = refl
      some c false = (by-rows rs c all).0

      slash : (c : ℕ) → (c == 47) ≡ false → (b : Bool)
          → list_all (λ d. not (d == 47)) (if b then lower c ∷ [] else by_rows rs c) ≡ true
      slash c e true = lower-no-slash c e
      slash c e false = (by-rows rs c all).1 e

      dot : (c : ℕ) → (c == 46) ≡ false → (b : Bool)
          → (slice_index (if b then lower c ∷ [] else by_rows rs c) 0 == 46) ≡ false
      dot c e true = lower-no-dot c e
      dot c e false = (by-rows rs c all).2 e

pub unicode-textual : IsTextual unicode
unicode-textual = table-textual rows ranges refl

-- Folded lines are those of a profile: its kept values may be kept values, ..
kept-if : (ts : List Path) (a b : Bool) → are_kept (topmost ts) ≡ a
    → are_kept (if a && b then topmost ts else [] ∷ []) ≡ true
kept-if ts true true e = e
kept-if ts true false e = refl
kept-if ts false b e = refl

highest-kept : (ts : List Path) → are_kept (highest ts) ≡ true
highest-kept ts = kept-if ts (are_kept (topmost ts)) (are_over (topmost ts) ts) refl

paths-kept : (F : Folding) (paths : List Path) → are_kept (folded_paths F paths) ≡ true
paths-kept F paths = go (list_all (knows_path F) paths) (are_kept (map (fold_path F) paths)) refl
  where
    go : (a b : Bool) → are_kept (map (fold_path F) paths) ≡ b
        → are_kept (if a && b then map (fold_path F) paths else folded_tops F paths) ≡ true
    go true true e = e
    go true false e = highest-kept (map (top_of F) paths)
    go false b e = highest-kept (map (top_of F) paths)

pub member-kept : (F : Folding) (M : Member) → are_kept (folded_member F M).paths ≡ true
member-kept F M = go M.folds M.parts
  where
    go : (b : Bool) (P : Parts) → are_kept (if b then folded F P else spread F P).paths ≡ true
    go true P = paths-kept F P.paths
    go false P = highest-kept (map (top_of F) P.paths)

pub roots-same : (F : Folding) (M : Member) → (folded_member F M).roots ≡ M.parts.roots
roots-same F M = go M.folds M.parts
  where
    go : (b : Bool) (P : Parts) → (if b then folded F P else spread F P).roots ≡ P.roots
    go true P = refl
    go false P = refl

-- .. and there are no more lines than before.
filter-length : {X : Type 0} (f : X → Bool) (xs : List X) → length (filter f xs) ≤ length xs
filter-length f [] = omega arith
filter-length f (x ∷ xs) = go (f x) (filter-length f xs)
  where
    go : (b : Bool) → length (filter f xs) ≤ length xs
        → length (cond b (x ∷ filter f xs) (filter f xs)) ≤ suc (length xs)
    go true h = omega (arith, h)
    go false h = omega (arith, h)

fewer : (F : Folding) (is nots : List Specification) (k : ℕ) → length is + length nots ≤ k
    → length (folded_specs F is) + length (map (fold_spec F) nots) ≤ k
fewer F is nots k h =
    omega (
      arith,
      h,
      length-map (filter (knows_line F) is) (fold_spec F),
      length-map nots (fold_spec F),
      filter-length (knows_line F) is,
    )

none-fewer : (k l n : ℕ) → k + l ≤ n → 0 + 0 ≤ n
none-fewer k l n h = omega arith

folded-within : (F : Folding) (P : Parts) → IsWithinLines P → IsWithinLines (folded F P)
folded-within F P h = go (may_ignore F P)
  where
    go : (b : Bool)
        → length (if b then folded_specs F P.ignore else [])
        + length (if b then map (fold_spec F) P.ignorenot else []) ≤ PATTERN_LINES
    go true = fewer F P.ignore P.ignorenot PATTERN_LINES h
    go false = none-fewer (length P.ignore) (length P.ignorenot) PATTERN_LINES h

pub member-within : (F : Folding) (M : Member) → IsWithinLines M.parts
    → IsWithinLines (folded_member F M)
member-within F M h = go M.folds M.parts h
  where
    go : (b : Bool) (P : Parts) → IsWithinLines P
        → IsWithinLines (if b then folded F P else spread F P)
    go true P h = folded-within F P h
    go false P h = none-fewer (length P.ignore) (length P.ignorenot) PATTERN_LINES h

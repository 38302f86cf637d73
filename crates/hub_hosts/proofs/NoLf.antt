-- Texts without an LF: parts of one have none.
use Rattle.std.proofs.Common.{◌≡◌, ◌∙◌, ℕ, Bool, true, false, cond, List, [], ◌∷◌, ◌++◌, Option, Some, None, take, drop, reverse, codes, length, ◌-◌, nat_eq, refl, sym, ap}
use Rattle.std.specs.Prelude.{⊤}
use Rattle.std.specs.List.{ends_with, list_any}
use Rattle.std.specs.Option.{option_map}
use Rattle.std.proofs.lemmas.Bool.{or_parts, or_from}
use Rattle.std.proofs.lemmas.List.{reverse-append, take-append-drop}
use Rattle.hub_text.specs.Lines.{is_lf, without_last_cr}
use Rattle.hub_text.specs.laws.Test.{any-append}
use Rattle.hub_hosts.specs.Words.{begins_with, behind_arrow, behind_last_arrow, from_first, is_one_of, skip, skip_end}

abbrev pub has_lf : List ℕ → Bool
has_lf text = list_any is_lf text

-- A text, if there is one, has no LF.
abbrev pub IfNoLf : Option (List ℕ) → Type 0
IfNoLf None = ⊤
IfNoLf (Some text) = has_lf text ≡ false

pub append-no_lf : (xs ys : List ℕ) → has_lf xs ≡ false → has_lf ys ≡ false → has_lf (xs ++ ys) ≡ false
append-no_lf xs ys h k = sym (any-append is_lf xs ys) ∙ or_from (has_lf xs) (has_lf ys) h k

parts-no_lf : (n : ℕ) (xs : List ℕ) → has_lf xs ≡ false → (has_lf (take n xs) ≡ false) × (has_lf (drop n xs) ≡ false)
parts-no_lf n xs h =
    or_parts (has_lf (take n xs)) (has_lf (drop n xs)) (any-append is_lf (take n xs) (drop n xs) ∙ ap has_lf (take-append-drop n xs) ∙ h)

pub take-no_lf : (n : ℕ) (xs : List ℕ) → has_lf xs ≡ false → has_lf (take n xs) ≡ false
take-no_lf n xs h = (parts-no_lf n xs h).0

pub drop-no_lf : (n : ℕ) (xs : List ℕ) → has_lf xs ≡ false → has_lf (drop n xs) ≡ false
drop-no_lf n xs h = (parts-no_lf n xs h).1

reverse-no_lf : (xs : List ℕ) → has_lf xs ≡ false → has_lf (reverse xs) ≡ false
reverse-no_lf [] h = refl
reverse-no_lf (x ∷ xs) h =
    let parts = or_parts (is_lf x) (has_lf xs) h in
    ap has_lf (reverse-append (x ∷ []) xs)
    ∙ append-no_lf (reverse xs) (x ∷ []) (reverse-no_lf xs parts.1) (or_from (is_lf x) false parts.0 refl)

either-no_lf : (b : Bool) (xs ys : List ℕ) → has_lf xs ≡ false → has_lf ys ≡ false → has_lf (cond b xs ys) ≡ false
either-no_lf true xs ys h k = h
either-no_lf false xs ys h k = k

pub skip-no_lf : (these xs : List ℕ) → has_lf xs ≡ false → has_lf (skip these xs) ≡ false
skip-no_lf these [] h = refl
skip-no_lf these (x ∷ xs) h =
    either-no_lf (is_one_of these x) (skip these xs) (x ∷ xs) (skip-no_lf these xs (or_parts (is_lf x) (has_lf xs) h).1) h

pub skip_end-no_lf : (these xs : List ℕ) → has_lf xs ≡ false → has_lf (skip_end these xs) ≡ false
skip_end-no_lf these xs h = reverse-no_lf (skip these (reverse xs)) (skip-no_lf these (reverse xs) (reverse-no_lf xs h))

pub from_first-no_lf : (these xs : List ℕ) → has_lf xs ≡ false → has_lf (from_first these xs) ≡ false
from_first-no_lf these [] h = refl
from_first-no_lf these (x ∷ xs) h =
    either-no_lf (is_one_of these x) (x ∷ xs) (from_first these xs) h (from_first-no_lf these xs (or_parts (is_lf x) (has_lf xs) h).1)

either-if : (b : Bool) (o p : Option (List ℕ)) → IfNoLf o → IfNoLf p → IfNoLf (cond b o p)
either-if true o p h k = h
either-if false o p h k = k

behind_arrow-no_lf : (found : Option (List ℕ)) (xs : List ℕ) → IfNoLf found → has_lf xs ≡ false → IfNoLf (behind_arrow found xs)
behind_arrow-no_lf found [] f h = f
behind_arrow-no_lf found (x ∷ xs) f h =
    let rest = (or_parts (is_lf x) (has_lf xs) h).1 in
    let now = cond (begins_with (codes "->") (x ∷ xs)) (Some (drop 1 xs)) found in
    behind_arrow-no_lf now xs (either-if (begins_with (codes "->") (x ∷ xs)) (Some (drop 1 xs)) found (drop-no_lf 1 xs rest) f) rest

pub behind_last_arrow-no_lf : (xs : List ℕ) → has_lf xs ≡ false → IfNoLf (behind_last_arrow xs)
behind_last_arrow-no_lf xs h = behind_arrow-no_lf None xs tt h

pub map-no_lf : (f : List ℕ → List ℕ) (o : Option (List ℕ)) → ((xs : List ℕ) → has_lf xs ≡ false → has_lf (f xs) ≡ false)
    → IfNoLf o → IfNoLf (option_map f o)
map-no_lf f None keeps h = tt
map-no_lf f (Some xs) keeps h = keeps xs h

pub if-no_lf : (b : Bool) (o p : Option (List ℕ)) → IfNoLf o → IfNoLf p → IfNoLf (cond b o p)
if-no_lf b o p h k = either-if b o p h k

pub without_last_cr-no_lf : (l : List ℕ) → has_lf l ≡ false → has_lf (without_last_cr l) ≡ false
without_last_cr-no_lf l h = by (ends_with nat_eq l (codes "\r"))
  where
    by : (b : Bool) → has_lf (cond b (take (length l - 1) l) l) ≡ false
    by true = take-no_lf (length l - 1) l h
    by false = h

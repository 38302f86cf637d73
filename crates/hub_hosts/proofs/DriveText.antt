-- The text of a path without an LF has none.
use Rattle.std.proofs.Common.{◌≡◌, ◌==◌, ◌&&◌, ℕ, Bool, true, false, cond, List, [], ◌∷◌, ◌++◌, Option, Some, None, map, length, drop, codes, refl, arith}
use Rattle.std.specs.Prelude.{⊤}
use Rattle.std.specs.Char.{is_ascii_alphabetic, to_ascii_uppercase}
use Rattle.std.specs.Option.{option_or}
use Rattle.std.proofs.lemmas.Bool.{or_from, or_parts}
use Rattle.std.proofs.lemmas.Bool.Decides.{nat_tests}
use Rattle.hub_text.specs.Lines.{is_lf}
use Rattle.hub_hosts.specs.Drives.{at_letter, below_of, below_or, by_cygdrive, by_letter, drive_text, is_end, on_drive, plain, separators, slashed, text_of}
use Rattle.hub_hosts.specs.Table.{slash}
use Rattle.hub_hosts.specs.Words.{begins_with, skip}
use Rattle.hub_hosts.specs.declared.drive.Below.{Below}
use Rattle.hub_hosts.proofs.NoLf.{drop-no_lf, has_lf, skip-no_lf, skip_end-no_lf}

abbrev IfNoLfBelow : Option (Below (List ℕ)) → Type 0
IfNoLfBelow None = ⊤
IfNoLfBelow (Some below) = has_lf (text_of below) ≡ false

slashed-no_lf : (b : ℕ) → is_lf b ≡ false → is_lf (slashed b) ≡ false
slashed-no_lf b h = grind (arith, nat_tests, h)

slashes-no_lf : (bs : List ℕ) → has_lf bs ≡ false → has_lf (map slashed bs) ≡ false
slashes-no_lf [] h = refl
slashes-no_lf (b ∷ bs) h =
    let parts = or_parts (is_lf b) (has_lf bs) h in
    or_from (is_lf (slashed b)) (has_lf (map slashed bs)) (slashed-no_lf b parts.0) (slashes-no_lf bs parts.1)

capital-no_lf : (c : ℕ) → is_lf c ≡ false → is_lf (to_ascii_uppercase c) ≡ false
capital-no_lf c h = grind (arith, nat_tests, h)

drive_text-no_lf : (letter : ℕ) (rest : List ℕ) → is_lf letter ≡ false → has_lf rest ≡ false → has_lf (drive_text letter rest) ≡ false
drive_text-no_lf letter rest h k =
    or_from (is_lf letter) (has_lf (cond (length rest == 0) [] (slash ++ map slashed rest))) h (by (length rest == 0))
  where
    by : (b : Bool) → has_lf (cond b [] (slash ++ map slashed rest)) ≡ false
    by true = refl
    by false = slashes-no_lf rest k

on_drive-no_lf : (letter : ℕ) (path : List ℕ) → is_lf letter ≡ false → has_lf path ≡ false → has_lf (text_of (on_drive letter path)) ≡ false
on_drive-no_lf letter path h k =
    drive_text-no_lf (to_ascii_uppercase letter) (on_drive letter path).rest (capital-no_lf letter h)
    (skip_end-no_lf separators (skip separators path) (skip-no_lf separators path k))

at_letter-no_lf : (word text : List ℕ) → has_lf text ≡ false → IfNoLfBelow (at_letter word text)
at_letter-no_lf word [] h = tt
at_letter-no_lf word (c ∷ cs) h =
    let rest = drop (length word) cs in
    by rest (begins_with word cs) (is_ascii_alphabetic c && is_end rest)
    (on_drive-no_lf c rest (or_parts (is_lf c) (has_lf cs) h).0 (drop-no_lf (length word) cs (or_parts (is_lf c) (has_lf cs) h).1))
  where
    by : (rest : List ℕ) (b d : Bool) → has_lf (text_of (on_drive c rest)) ≡ false
        → IfNoLfBelow (cond b (cond d (Some (on_drive c rest)) None) None)
    by rest true true k = k
    by rest true false k = tt
    by rest false d k = tt

by_cygdrive-no_lf : (path : List ℕ) → has_lf path ≡ false → IfNoLfBelow (by_cygdrive path)
by_cygdrive-no_lf path h = by (begins_with slash path && begins_with (codes "cygdrive/") (skip slash path))
  where
    by : (b : Bool) → IfNoLfBelow (cond b (at_letter [] (skip slash (drop 9 (skip slash path)))) None)
    by true =
        at_letter-no_lf [] (skip slash (drop 9 (skip slash path)))
        (skip-no_lf slash (drop 9 (skip slash path)) (drop-no_lf 9 (skip slash path) (skip-no_lf slash path h)))
    by false = tt

plain-no_lf : (path : List ℕ) → has_lf path ≡ false → has_lf (text_of (plain path)) ≡ false
plain-no_lf path h = skip_end-no_lf slash (skip slash path) (skip-no_lf slash path h)

pub below_of-no_lf : (path : List ℕ) → has_lf path ≡ false → has_lf (text_of (below_of path)) ≡ false
below_of-no_lf path h = by (by_letter path) (by_cygdrive path) (at_letter-no_lf (codes ":") path h) (by_cygdrive-no_lf path h)
  where
    by : (o p : Option (Below (List ℕ))) → IfNoLfBelow o → IfNoLfBelow p → has_lf (text_of (below_or path (option_or o p))) ≡ false
    by None None k l = plain-no_lf path h
    by None (Some below) k l = l
    by (Some below) p k l = k

-- The names of a drive, and the roots here on one.
use Rattle.std.proofs.Common.{◌≡◌, ◌∙◌, ◌==◌, ◌&&◌, ◌||◌, ℕ, Bool, true, false, not, cond, List, [], ◌∷◌, ◌++◌, Option, Some, None, codes, take, drop, length, refl, sym, ap, arith}
use Rattle.std.specs.Prelude.{is_some, nat_eq}
use Rattle.std.specs.Char.{is_ascii_alphabetic, to_ascii_uppercase}
use Rattle.std.specs.Cmp.Lexicographic.{pointwise}
use Rattle.std.specs.Option.{option_map, option_or}
use Rattle.std.proofs.lemmas.Bool.{and_parts, eqb-true}
use Rattle.std.proofs.lemmas.Bool.Decides.{nat_tests}
use Rattle.std.proofs.lemmas.Str.Ascii.{uppercase-uppercase}
use Rattle.hub_hosts.specs.Drives.{at_letter, below_of, below_or, by_cygdrive, is_end, is_on_drive, on_drive, on_drive_if, text_of}
use Rattle.hub_hosts.specs.Remotes.{folds_names, folds_remote, folds_at, is_local, is_local_drive, local, local_of, path_of, path_of_local, remote_in, remote_of, remote_on}
use Rattle.hub_hosts.specs.Table.{Row, slash}
use Rattle.hub_hosts.specs.Words.{begins_with, host_in, is_one_of, skip}

-- A path that begins with a letter and `:`, and one that begins with `/cygdrive/` and a letter.
by-letter : (letter : ℕ) (rest : List ℕ) → is_ascii_alphabetic letter ≡ true → is_end rest ≡ true
    → below_of (letter ∷ 58 ∷ rest) ≡ on_drive letter rest
by-letter letter rest h k =
    let path = letter ∷ 58 ∷ rest in
    λ i. below_or path (option_or (cond (h i && k i) (Some (on_drive letter rest)) None) (by_cygdrive path))

no-slash : (letter : ℕ) → is_ascii_alphabetic letter ≡ true → is_one_of slash letter ≡ false
no-slash letter h = grind (arith, nat_tests, h)

by-cygdrive : (letter : ℕ) (rest : List ℕ) → is_ascii_alphabetic letter ≡ true → is_end rest ≡ true
    → below_of (codes "/cygdrive/" ++ letter ∷ rest) ≡ on_drive letter rest
by-cygdrive letter rest h k =
    let path = codes "/cygdrive/" ++ letter ∷ rest in
    ap (λ b. below_or path (at_letter [] (cond b (skip slash rest) (letter ∷ rest)))) (no-slash letter h)
    ∙ (λ i. below_or path (cond (h i && k i) (Some (on_drive letter rest)) None))

pub cygdrive : (letter : ℕ) (path : List ℕ) → is_ascii_alphabetic letter ≡ true
    → below_of (codes "/cygdrive/" ++ letter ∷ slash ++ path) ≡ below_of (letter ∷ codes ":/" ++ path)
cygdrive letter path h = by-cygdrive letter (47 ∷ path) h refl ∙ sym (by-letter letter (47 ∷ path) h refl)

capital-letter : (letter : ℕ) → is_ascii_alphabetic letter ≡ true → is_ascii_alphabetic (to_ascii_uppercase letter) ≡ true
capital-letter letter h = grind (arith, nat_tests, h)

pub capital : (letter : ℕ) (path : List ℕ) → is_ascii_alphabetic letter ≡ true
    → below_of (letter ∷ codes ":/" ++ path) ≡ below_of (to_ascii_uppercase letter ∷ codes ":/" ++ path)
capital letter path h =
    by-letter letter (47 ∷ path) h refl
    ∙ (ap (λ l. record { drive = Some l; rest = (on_drive letter (47 ∷ path)).rest }) (sym (uppercase-uppercase letter))
    ∙ sym (by-letter (to_ascii_uppercase letter) (47 ∷ path) (capital-letter letter h) refl))

pub backslash : (letter : ℕ) (path : List ℕ) → is_ascii_alphabetic letter ≡ true
    → below_of (letter ∷ codes ":\\" ++ path) ≡ below_of (letter ∷ codes ":/" ++ path)
backslash letter path h = by-letter letter (92 ∷ path) h refl ∙ sym (by-letter letter (47 ∷ path) h refl)

-- A root here doesn't begin with a scheme.
no-drive : (c : ℕ) (rest : List ℕ) → c == 58 ≡ false → is_local (115 ∷ c ∷ rest) ≡ false
no-drive c rest e = ap (λ t. is_some (cond (t && pointwise nat_eq (take 0 rest) []) (on_drive_if 115 rest) None)) e

no-scheme : (c : ℕ) (more root : List ℕ) → c == 58 ≡ false → is_local root ≡ true → begins_with (115 ∷ c ∷ more) root ≡ false
no-scheme c more [] e h = refl
no-scheme c more (a ∷ []) e h = by (a == 115)
  where
    by : (p : Bool) → p && false ≡ false
    by true = refl
    by false = refl
no-scheme c more (a ∷ b ∷ rest) e h = by (a == 115) (b == c) refl refl
  where
    by : (p q : Bool) → a == 115 ≡ p → b == c ≡ q → p && (q && pointwise nat_eq (take (length more) rest) more) ≡ false
    by false q f g = refl
    by true false f g = refl
    by true true f g =
        let w : false ≡ true = sym ((λ i. is_local (eqb-true a 115 f i ∷ eqb-true b c g i ∷ rest)) ∙ no-drive c rest e) ∙ h in cc

not-remote : (root : List ℕ) → is_local root ≡ true → remote_of root ≡ None
not-remote root h =
    λ i. cond (no-scheme 115 (codes "h://") root refl h i) (Some (remote_in (drop 6 root)))
    (cond (no-scheme 111 (codes "cket://") root refl h i) (Some (remote_in (drop 9 root))) None)

pub path_here : (rows : List Row) (root : List ℕ) → is_local_drive root ≡ true
    → path_of rows None root ≡ Some (slash ++ text_of (below_of root))
path_here rows root h =
    let parts = and_parts (is_local root) (is_on_drive (below_of root)) h in
    let below = below_of root in
    ap (λ o. option_map path_of_local (local_of rows root o)) (not-remote root parts.0)
    ∙ (ap (λ b. option_map path_of_local (cond b (Some (local [] below)) None)) h
    ∙ ap Some (on-drive parts.1))
  where
    on-drive : is_on_drive (below_of root) ≡ true → path_of_local (local [] (below_of root)) ≡ slash ++ text_of (below_of root)
    on-drive k = ap (λ b. cond (not b && length (below_of root).rest == 0) slash (slash ++ text_of (below_of root))) k

pub folds_here : (rows : List Row) (machine : Option (List ℕ)) (root : List ℕ) → is_local_drive root ≡ true
    → folds_names rows machine root ≡ true
folds_here rows None root h =
    ap (folds_remote rows root) (not-remote root (and_parts (is_local root) (is_on_drive (below_of root)) h).0) ∙ h
folds_here rows (Some machine) root h =
    let parts = and_parts (is_local root) (is_on_drive (below_of root)) h in
    ap (λ b. folds_remote rows root (cond b (Some (remote_on machine root)) (remote_of root))) parts.0
    ∙ ap (λ b. b || folds_at rows (host_in (remote_on machine root).name)) parts.1

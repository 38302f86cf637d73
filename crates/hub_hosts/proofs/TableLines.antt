-- The paths of a table's rows have no LF, and are absolute or empty.
use Rattle.std.proofs.Common.{◌≡◌, ◌∙◌, ◌+◌, ◌==◌, ◌&&◌, ◌⊎◌, ⊎_elim, inl, inr, not, bytes_eq, length, reverse, ap, ℕ, Bool, true, false, cond, List, [], ◌∷◌, ◌++◌, Option, Some, None, Ok, Err, refl, subst}
use Rattle.std.specs.Prelude.{⊤}
use Rattle.std.specs.List.{All, find}
use Rattle.std.specs.Option.{option_map, option_or}
use Rattle.std.proofs.lemmas.Bool.{and_parts, eqb-true}
use Rattle.std.proofs.lemmas.List.{reverse-append}
use Rattle.std.proofs.lemmas.List.Elements.{All-head, All-nil, All-push, All-tail}
use Rattle.hub_text.specs.declared.line.Line.{Line}
use Rattle.hub_text.specs.Lines.{lines_of, without_last_cr}
use Rattle.hub_hosts.specs.Remotes.{base_for, path_for}
use Rattle.hub_hosts.specs.Table.{Row, Rows, add_line, add_lines, add_row, and_then, blanks, has_row, is_for, is_row, name_in, folding_row, folds_word, path_in, row_at, row_of, row_with, rows_of, said_by, says_nothing, slash, word_of}
use Rattle.hub_hosts.specs.Words.{begins_with, from_first, host_in, is_one_of, skip, skip_end}
use Rattle.hub_hosts.specs.declared.fault.HostsFault.TheVariants.{SecondLine}
use Rattle.hub_hosts.specs.declared.remote.Remote.{Remote}
use Rattle.hub_hosts.proofs.NoLf.{from_first-no_lf, has_lf, skip-no_lf, skip_end-no_lf, without_last_cr-no_lf}
use Rattle.hub_text.specs.laws.WholeLines.{AreLines, AreLines-lines_of}

-- A row's path: it has no LF, and it is absolute or empty.
abbrev pub is_base : List ℕ → Bool
is_base [] = true
is_base (b ∷ bs) = begins_with slash (b ∷ bs)

abbrev pub IsBase : List ℕ → Type 0
IsBase path = (has_lf path ≡ false) × (is_base path ≡ true)

abbrev pub HavePaths : List Row → Type 0
HavePaths rows = All (λ row. IsBase row.path) rows

abbrev pub IfBase : Option (List ℕ) → Type 0
IfBase None = ⊤
IfBase (Some path) = IsBase path

abbrev IfPaths : Rows → Type 0
IfPaths (Ok rows) = HavePaths rows
IfPaths (Err e) = ⊤

abbrev IfRow : Option Row → Type 0
IfRow None = ⊤
IfRow (Some row) = IsBase row.path

-- A path that begins with a slash still does without slashes at its end, or is empty.
skip-slash : (us : List ℕ) → (skip slash (us ++ 47 ∷ []) ≡ []) ⊎ ((vs : List ℕ) × (skip slash (us ++ 47 ∷ []) ≡ vs ++ 47 ∷ []))
skip-slash [] = inl refl
skip-slash (u ∷ us) = by (is_one_of slash u) (skip-slash us)
  where
    by : (b : Bool) → (skip slash (us ++ 47 ∷ []) ≡ []) ⊎ ((vs : List ℕ) × (skip slash (us ++ 47 ∷ []) ≡ vs ++ 47 ∷ []))
        → (cond b (skip slash (us ++ 47 ∷ [])) (u ∷ us ++ 47 ∷ []) ≡ []) ⊎ ((vs : List ℕ) × (cond b (skip slash (us ++ 47 ∷ [])) (u ∷ us ++ 47 ∷ []) ≡ vs ++ 47 ∷ []))
    by true h = h
    by false h = inr (u ∷ us, refl)

base-slash : (ps : List ℕ) → is_base (skip_end slash (47 ∷ ps)) ≡ true
base-slash ps =
    let turned : reverse (47 ∷ ps) ≡ reverse ps ++ 47 ∷ [] = reverse-append (47 ∷ []) ps in
    ap (λ t. is_base (reverse (skip slash t))) turned
    ∙ ⊎_elim
    (λ none. ap (λ t. is_base (reverse t)) none)
    (λ some. ap (λ t. is_base (reverse t)) some.1 ∙ ap is_base (reverse-append some.0 (47 ∷ [])))
    (skip-slash (reverse ps))

base-path : (path : List ℕ) → begins_with slash path ≡ true → is_base (skip_end slash path) ≡ true
base-path [] h = cc
base-path (p ∷ ps) h =
    let same : p ≡ 47 = eqb-true p 47 (and_parts (p == 47) true h).0 in
    ap (λ c. is_base (skip_end slash (c ∷ ps))) same ∙ base-slash ps

either-rows : (b : Bool) (r s : Rows) → IfPaths r → IfPaths s → IfPaths (cond b r s)
either-rows true r s h k = h
either-rows false r s h k = k

either-row : (b : Bool) (r : Row) → (b ≡ true → IsBase r.path) → IfRow (cond b (Some r) None)
either-row true r h = h refl
either-row false r h = tt

row_at-paths : (folds_names : Bool) (said : List ℕ) → has_lf said ≡ false → IfRow (row_at folds_names said)
row_at-paths folds_names said h =
    let name = name_in (word_of said) in
    let path = path_in said in
    either-row (is_row name path) (row_with folds_names (word_of said) path) (λ row. (
      skip_end-no_lf slash path (skip-no_lf blanks (from_first blanks said) (from_first-no_lf blanks said h)),
      base-path path (and_parts (not (is_one_of name 47)) (begins_with slash path)
          (and_parts (not (length name == 0)) (not (is_one_of name 47) && begins_with slash path) row).1).1,
    ))

or-row : (o p : Option Row) → IfRow o → IfRow p → IfRow (option_or o p)
or-row None p h k = k
or-row (Some row) p h k = h

if-row : (b : Bool) (o : Option Row) → IfRow o → IfRow (cond b o None)
if-row true o h = h
if-row false o h = tt

row_of-paths : (said : List ℕ) → has_lf said ≡ false → IfRow (row_of said)
row_of-paths said h =
    or-row (row_at false said) (folding_row said) (row_at-paths false said h)
    (if-row (bytes_eq (word_of said) folds_word) (row_at true (path_in said))
    (row_at-paths true (path_in said) (skip-no_lf blanks (from_first blanks said) (from_first-no_lf blanks said h))))

push-paths : (rows : List Row) (row : Row) → HavePaths rows → IsBase row.path → HavePaths (rows ++ row ∷ [])
push-paths rows row h k = All-push (λ r. IsBase r.path) rows row h k

add_row-paths : (n : ℕ) (rows : List Row) (o : Option Row) → HavePaths rows → IfRow o → IfPaths (add_row n rows o)
add_row-paths n rows None h k = tt
add_row-paths n rows (Some row) h k =
    either-rows (has_row rows row.name row.is_for_home) (Err (SecondLine n)) (Ok (rows ++ row ∷ [])) tt (push-paths rows row h k)

add_line-paths : (n : ℕ) (rows : List Row) (said : List ℕ) → HavePaths rows → has_lf said ≡ false → IfPaths (add_line n rows said)
add_line-paths n rows said h k =
    either-rows (says_nothing said) (Ok rows) (add_row n rows (row_of said)) h (add_row-paths n rows (row_of said) h (row_of-paths said k))

then-paths : (r : Rows) (more : List Row → Rows) → IfPaths r → ((rows : List Row) → HavePaths rows → IfPaths (more rows)) → IfPaths (and_then r more)
then-paths (Ok rows) more h k = k rows h
then-paths (Err e) more h k = tt

said_by-no_lf : (line : List ℕ) → has_lf line ≡ false → has_lf (said_by line) ≡ false
said_by-no_lf line h =
    skip_end-no_lf blanks (skip blanks (without_last_cr line)) (skip-no_lf blanks (without_last_cr line) (without_last_cr-no_lf line h))

add_lines-paths : (n : ℕ) (rows : List Row) (ls : List (Line (List ℕ))) → AreLines ls → HavePaths rows → IfPaths (add_lines n rows ls)
add_lines-paths n rows [] a h = h
add_lines-paths n rows (l ∷ ls) a h =
    then-paths (add_line n rows (said_by l.text)) (λ more. add_lines (n + 1) more ls)
    (add_line-paths n rows (said_by l.text) h (said_by-no_lf l.text a.0))
    (λ more k. add_lines-paths (n + 1) more ls a.2 k)

pub rows_of-paths : (table : List ℕ) (rows : List Row) → rows_of table ≡ Ok rows → HavePaths rows
rows_of-paths table rows e = subst IfPaths e (add_lines-paths 1 [] (lines_of table) (AreLines-lines_of table) (All-nil (λ row. IsBase row.path)))

found-path : (test : Row → Bool) (rows : List Row) → HavePaths rows → IfBase (option_map (λ row. row.path) (find test rows))
found-path test [] h = tt
found-path test (row ∷ rows) h =
    by (test row) (All-head (λ r. IsBase r.path) row rows h) (found-path test rows (All-tail (λ r. IsBase r.path) row rows h))
  where
    by : (b : Bool) → IsBase row.path → IfBase (option_map (λ r. r.path) (find test rows))
        → IfBase (option_map (λ r. r.path) (cond b (Some row) (find test rows)))
    by true h k = h
    by false h k = k

or-base : (o p : Option (List ℕ)) → IfBase o → IfBase p → IfBase (option_or o p)
or-base None p h k = k
or-base (Some x) p h k = h

pub base_for-base : (rows : List Row) (r : Remote (List ℕ)) → HavePaths rows → IfBase (base_for rows r)
base_for-base rows r h =
    or-base (path_for rows r.name r.is_in_home) (path_for rows (host_in r.name) r.is_in_home)
    (found-path (is_for r.name r.is_in_home) rows h) (found-path (is_for (host_in r.name) r.is_in_home) rows h)

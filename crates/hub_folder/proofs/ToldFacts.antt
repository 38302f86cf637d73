-- Profiles by told files are those by their names.
use Rattle.std.proofs.Common.{◌≡◌, ◌∙◌, ◌≤◌, ◌+◌, ◌&&◌, ◌||◌, ◌++◌, inl, inr, not, ℕ, Bool, true, false, cond, length, List, [], ◌∷◌, filter, map, bytes_eq, Result, Ok, Err, IfErr, IsErrAnd, refl, sym, ap, subst, arith}
use Rattle.std.specs.List.{All, list_any}
use Rattle.std.specs.Result.{is_ok}
use Rattle.std.proofs.lemmas.List.Elements.{All-head, All-map, All-tail, All-weaker}
use Rattle.std.proofs.lemmas.List.Sums.{sum_by-cons, sum_by_push}
use Rattle.hub_text.specs.laws.Test.{any-map}
use Rattle.hub_include.specs.Bundle.{text_of}
use Rattle.hub_include.specs.Files.{Known}
use Rattle.hub_include.specs.Includes.{lines_of, of_line}
use Rattle.hub_folder.specs.Folders.{HasProfileFiles, IsUntakenFolder, place_of, have_file, have_root, is_included, is_profile, profile_of, profiles_of, says_something, sets_root}
use Rattle.hub_folder.specs.Operands.{File, bytes_in}
use Rattle.hub_folder.specs.Reading.{Lists, Reads}
use Rattle.hub_folder.specs.Taken.{Agrees, IsUntaken, IsUntakenAfter, IsUntakenOf, lines_in, text_bytes, told_lines}
use Rattle.hub_folder.specs.Told.{AreTold, IsOverLimit, IsTold, all_bytes_told, bytes_told, file_told, includes_told, is_profile_told, lines_told, profile_told, profiles_told}
use Rattle.hub_folder.specs.declared.fault.Untaken.{Untaken}
use Rattle.hub_folder.specs.declared.fault.Untaken.TheVariants as untaken
use Rattle.hub_folder.specs.declared.told.Told.{Told}

-- A test of borrowed lines is one of lines.
pub file-any : (name : List ℕ) (t : Told) → list_any (λ l. bytes_eq l.file.now name) t.lines.items ≡ have_file name (lines_told t)
file-any name t = any-map (λ l. bytes_eq l.file name) of_line t.lines.items

pub root-any : (t : Told) → list_any (λ l. sets_root l.text.now) t.lines.items ≡ have_root (lines_told t)
root-any t = any-map (λ l. sets_root l.text) of_line t.lines.items

pub without-root-any : (t : Told)
    → (not (list_any (λ l. sets_root l.text.now) t.lines.items) && list_any (λ l. says_something l.text.now) t.lines.items)
    ≡ (not (have_root (lines_told t)) && list_any (λ l. says_something l.text) (lines_told t))
without-root-any t = λ i. not (root-any t i) && any-map (λ l. says_something l.text) of_line t.lines.items i

pub lines-told : (known : Known) (t : Told) → IsTold known t → lines_in known (file_told t) ≡ lines_told t
lines-told known t h = ap told_lines h

includes-told : (known : Known) (name : List ℕ) (t : Told) → IsTold known t
    → (not (bytes_eq (file_told t) name) && have_file name (lines_in known (file_told t))) ≡ includes_told name t
includes-told known name t h = ap (λ ls. not (bytes_eq (file_told t) name) && have_file name ls) (lines-told known t h)

any-told : (known : Known) (name : List ℕ) (ts : List Told) → All (IsTold known) ts
    → list_any (λ t. not (bytes_eq (file_told t) name) && have_file name (lines_in known (file_told t))) ts ≡ list_any (includes_told name) ts
any-told known name [] a = refl
any-told known name (t ∷ ts) a =
    (λ i. includes-told known name t (All-head (IsTold known) t ts a) i || any-told known name ts (All-tail (IsTold known) t ts a) i)

pub included-told : (known : Known) (name : List ℕ) (ts : List Told) → All (IsTold known) ts
    → is_included known (map file_told ts) name ≡ list_any (includes_told name) ts
included-told known name ts a =
    sym (any-map (λ other. not (bytes_eq other name) && have_file name (lines_in known other)) file_told ts)
    ∙ any-told known name ts a

pub profile-told : (known : Known) (all : List Told) (t : Told) → All (IsTold known) all → IsTold known t
    → is_profile known (map file_told all) (file_told t) ≡ is_profile_told all t
profile-told known all t a h =
    λ i. have_root (lines-told known t h i) && not (included-told known (file_told t) all a i)

picked : (known : Known) (place : List ℕ) (all : List Told) (t : Told) (rest : List (List ℕ × List ℕ)) (b c : Bool) → IsTold known t → b ≡ c
    → cond b (profile_of known place (file_told t) ∷ rest) rest ≡ cond c (profile_told place t ∷ rest) rest
picked known place all t rest b c h e =
    λ i. cond (e i) ((place ++ file_told t, text_of (lines-told known t h i)) ∷ rest) rest

pub map-cond : {X Y : Type 0} (f : X → Y) (x : X) (xs : List X) (b : Bool) → map f (cond b (x ∷ xs) xs) ≡ cond b (f x ∷ map f xs) (map f xs)
map-cond f x xs true = refl
map-cond f x xs false = refl

some-told : (known : Known) (place : List ℕ) (all ts : List Told) → All (IsTold known) all → All (IsTold known) ts
    → map (profile_of known place) (filter (is_profile known (map file_told all)) (map file_told ts)) ≡ profiles_told place all ts
some-told known place all [] a b = refl
some-told known place all (t ∷ ts) a b =
    let h = All-head (IsTold known) t ts b in
    let more = some-told known place all ts a (All-tail (IsTold known) t ts b) in
    map-cond (profile_of known place) (file_told t) (filter (is_profile known (map file_told all)) (map file_told ts)) (is_profile known (map file_told all) (file_told t))
    ∙ (λ i. cond (is_profile known (map file_told all) (file_told t)) (profile_of known place (file_told t) ∷ more i) (more i))
    ∙ picked known place all t (profiles_told place all ts) _ _ h (profile-told known all t a h)
    ∙ sym (map-cond (profile_told place) t (filter (is_profile_told all) ts) (is_profile_told all t))

-- The profiles by told files.
pub told-profiles : (known : Known) (place : List ℕ) (names : List (List ℕ)) (ts : List Told) → AreTold known names ts
    → profiles_told place ts ts ≡ profiles_of known place names
told-profiles known place names ts are =
    sym (some-told known place ts ts are.lines_are are.lines_are)
    ∙ (λ i. map (profile_of known place) (filter (is_profile known (are.names_are i)) (are.names_are i)))

-- The lines of each can be told.
pub told-each : (known : Known) (names : List (List ℕ)) (ts : List Told) → AreTold known names ts
    → All (λ name. is_ok (lines_of known name) ≡ true) names
told-each known names ts are =
    subst (All (λ name. is_ok (lines_of known name) ≡ true)) are.names_are
    (All-map (λ name. is_ok (lines_of known name) ≡ true) file_told ts
    (All-weaker (IsTold known) (λ t. is_ok (lines_of known (file_told t)) ≡ true) (λ t h. ap is_ok h) ts are.lines_are))

-- The bytes of told files are those by their names,
pub told-bytes : (known : Known) (ts : List Told) → All (IsTold known) ts → text_bytes known (map file_told ts) ≡ all_bytes_told ts
told-bytes known [] a = refl
told-bytes known (t ∷ ts) a =
    sum_by-cons (λ name. length (text_of (lines_in known name))) (file_told t) (map file_told ts)
    ∙ (λ i. length (text_of (lines-told known t (All-head (IsTold known) t ts a) i)) + told-bytes known ts (All-tail (IsTold known) t ts a) i)
    ∙ sym (sum_by-cons bytes_told t ts)

-- and the profiles among them have no more.
pub picked-bytes : (place : List ℕ) (all ts : List Told) → bytes_in (profiles_told place all ts) ≤ all_bytes_told ts
picked-bytes place all [] = omega arith
picked-bytes place all (t ∷ ts) = by (is_profile_told all t) (picked-bytes place all ts)
  where
    by : (b : Bool) → bytes_in (profiles_told place all ts) ≤ all_bytes_told ts
        → bytes_in (map (profile_told place) (cond b (t ∷ filter (is_profile_told all) ts) (filter (is_profile_told all) ts))) ≤ all_bytes_told (t ∷ ts)
    by true h =
        omega (arith, h, sum_by-cons (λ (file : File). length file.1) (profile_told place t) (profiles_told place all ts), sum_by-cons bytes_told t ts)
    by false h = omega (arith, h, sum_by-cons bytes_told t ts)

-- A fault of a profile is one after others,
pub untaken-after : (reads : Reads) (place : List ℕ) (taken : ℕ) (before : List (List ℕ)) (name : List ℕ) (e : Untaken)
    → IsUntaken reads place name e → IsUntakenAfter reads place taken before name e
untaken-after reads place taken before name (untaken.File path fault) h = h
untaken-after reads place taken before name (untaken.Gone path) h = absurd h
untaken-after reads place taken before name (untaken.Folder path fault) h = absurd h
untaken-after reads place taken before name (untaken.Line path fault) h = absurd h
untaken-after reads place taken before name (untaken.TooManyFiles path) h = h
untaken-after reads place taken before name (untaken.TooLong path) h = absurd h
untaken-after reads place taken before name untaken.OutOfMemory h = h

-- or its text is too long after theirs.
pub over-limit : (reads : Reads) (place : List ℕ) (taken bytes : ℕ) (known : Known) (ts : List Told) (t : Told) (e : Untaken)
    → Agrees reads place known → All (IsTold known) ts → IsTold known t → bytes ≡ taken + all_bytes_told ts
    → IsOverLimit place bytes t e → IsUntakenAfter reads place taken (map file_told ts) (file_told t) e
over-limit reads place taken bytes known ts t (untaken.File path fault) agrees all one sum h = cc
over-limit reads place taken bytes known ts t (untaken.Gone path) agrees all one sum h = cc
over-limit reads place taken bytes known ts t (untaken.Folder path fault) agrees all one sum h = cc
over-limit reads place taken bytes known ts t (untaken.Line path fault) agrees all one sum h = cc
over-limit reads place taken bytes known ts t (untaken.TooManyFiles path) agrees all one sum h = cc
over-limit reads place taken bytes known ts t (untaken.TooLong path) agrees all one sum h =
    let f : List ℕ → ℕ = λ name. length (text_of (lines_in known name)) in (
      known,
      agrees,
      h.0,
      omega (arith, h.1, sum, sum_by_push f (map file_told ts) (file_told t), told-bytes known ts all, ap (λ ls. length (text_of ls)) (lines-told known t one)),
      told-each known (map file_told ts) ts (record { names_are = refl; lines_are = all }),
    )
over-limit reads place taken bytes known ts t untaken.OutOfMemory agrees all one sum h = tt

-- It is one of files of the folder.
pub untaken-of : (reads : Reads) (place : List ℕ) (taken : ℕ) (names before : List (List ℕ)) (name : List ℕ) (after : List (List ℕ)) (e : Untaken)
    → names ≡ before ++ name ∷ after → IsUntakenAfter reads place taken before name e → IsUntakenOf reads place taken names e
untaken-of reads place taken names before name after e is h = inr (before, name, after, is, h)

-- A fault of files of a folder is one of the folder.
pub untaken-folder : (reads : Reads) (lists : Lists) (taken : ℕ) (folder : List ℕ) (names : List (List ℕ)) (e : Untaken)
    → HasProfileFiles lists folder names → IsUntakenOf reads (place_of folder) taken names e → IsUntakenFolder reads lists taken folder e
untaken-folder reads lists taken folder names (untaken.File path fault) has h = inr (names, has, h)
untaken-folder reads lists taken folder names (untaken.Gone path) has h = inr (names, has, h)
untaken-folder reads lists taken folder names (untaken.Folder path fault) has (inl e) = cc
untaken-folder reads lists taken folder names (untaken.Folder path fault) has (inr h) = absurd h.4
untaken-folder reads lists taken folder names (untaken.Line path fault) has h = inr (names, has, h)
untaken-folder reads lists taken folder names (untaken.TooManyFiles path) has h = inr (names, has, h)
untaken-folder reads lists taken folder names (untaken.TooLong path) has h = inr (names, has, h)
untaken-folder reads lists taken folder names untaken.OutOfMemory has h = inl refl

-- An error that is passed up.
pub passed_up : {T E : Type 0} (r : Result T E) (e : E) (P : E → Type 0) → IsErrAnd r (λ y. y ≡ e) → P e → IfErr r P
passed_up (Ok x) e P is p = tt
passed_up (Err y) e P is p = subst P (sym is) p

pub only-error : {T E : Type 0} (r : Result T E) (e : E) (P : E → Type 0) → IfErr r (λ y. y ≡ e) → P e → IfErr r P
only-error (Ok x) e P is p = tt
only-error (Err y) e P is p = subst P (sym is) p

-- Names, paths and their order.
use Rattle.std.specs.Prelude.{ℕ, Bool, true, not, ◌&&◌, ◌||◌, ◌==◌, nat_eq, List, [], ◌∷◌, ◌++◌, length, map, fold, codes, Option, Some, None, if◌then◌else◌, encode_utf8_all}
use Rattle.std.specs.Cmp.Lexicographic.{pointwise, slice_cmp}
use Rattle.std.specs.Ordering.{nat_cmp}
use Rattle.std.specs.declared.cmp.Ordering.{Ordering}
use Rattle.std.specs.List.{join_with_byte, starts_with, list_all, slice_split}
use Rattle.std.specs.Str.{all_scalars}
use Rattle.std.specs.FinMap.Entries.{put}

-- A name, by its characters. A path, by its names: the empty list stands for the whole replica.
abbrev pub Name : Type 0
Name = List ℕ

abbrev pub Path : Type 0
Path = List Name

-- Names are compared by their characters, and paths by their names: a prefix comes first.
abbrev pub name_eq : Name → Name → Bool
name_eq = pointwise nat_eq

abbrev pub path_eq : Path → Path → Bool
path_eq = pointwise name_eq

abbrev pub name_cmp : Name → Name → Ordering
name_cmp = slice_cmp nat_cmp

abbrev pub path_cmp : Path → Path → Ordering
path_cmp = slice_cmp name_cmp

-- The characters that no name has: NUL, LF, CR and `/`.
abbrev pub is_forbidden : ℕ → Bool
is_forbidden c = c == 0 || c == 10 || c == 13 || c == 47

-- `.` and `..` are not names.
abbrev pub is_dots : Name → Bool
is_dots n = name_eq n (codes ".") || name_eq n (codes "..")

-- A name is a nonempty list of characters, none of them forbidden, and is neither `.` nor `..`.
abbrev pub is_name : Name → Bool
is_name n =
    not (length n == 0) && all_scalars n && list_all (λ c. not (is_forbidden c)) n
    && not (is_dots n)

-- The text of a path joins its names by `/`.
abbrev pub text_of : Path → List ℕ
text_of p = join_with_byte 47 p

-- p is over q if p is a prefix of q by names, equal included.
abbrev pub is_over : Path → Path → Bool
is_over p q = starts_with name_eq q p

-- The nonempty prefixes of a path, the shortest first.
abbrev pub prefixes : Path → List Path
prefixes [] = []
prefixes (n ∷ p) = (n ∷ []) ∷ map (λ q. n ∷ q) (prefixes p)

-- The last name of a path.
abbrev pub last_name : Path → Name
last_name [] = []
last_name (n ∷ []) = n
last_name (n ∷ m ∷ p) = last_name (m ∷ p)

-- The path without its last name.
abbrev pub parent : Path → Path
parent [] = []
parent (n ∷ []) = []
parent (n ∷ m ∷ p) = n ∷ parent (m ∷ p)

-- A place is a list of names: a path, or the empty list for the whole replica.
abbrev pub is_place : Path → Bool
is_place p = list_all is_name p

-- A path is a nonempty list of names.
abbrev pub is_path : Path → Bool
is_path p = not (length p == 0) && is_place p

-- No item of the list is over another one.
abbrev pub none_over : List Path → Bool
none_over [] = true
none_over (p ∷ ps) = list_all (λ q. not (is_over p q || is_over q p)) ps && none_over ps

-- The paths of the children that have these names, below a path or the whole replica.
abbrev pub children_named : Path → List Name → List Path
children_named p ns = map (λ n. p ++ n ∷ []) ns

-- The names in a text, cut at `/`.
abbrev pub path_of : List ℕ → Path
path_of t = slice_split (λ c. c == 47) t

-- The name, and the path, that has this text, if there is one.
abbrev pub name_in : List ℕ → Option Name
name_in t = if is_name t then Some t else None

abbrev pub path_in : List ℕ → Option Path
path_in t = if is_path (path_of t) then Some (path_of t) else None

-- The text of a root, in UTF-8: a slash and the text of its names.
abbrev pub root_bytes : Path → List ℕ
root_bytes p = codes "/" ++ encode_utf8_all (text_of p)

-- These paths in ascending order, each once.
abbrev pub ascending : List Path → List Path
ascending ps = map (λ e. e.0) (fold (λ es p. put path_cmp p true es) [] ps)

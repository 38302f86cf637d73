-- Lines in another spelling: values of `path` lines that Unison reads and the plain reader refuses, in
-- the plain reader's spelling, and lines that it is to refuse.
use Rattle.std.specs.Prelude.{◌≡◌, true, ℕ, Bool, not, ◌&&◌, ◌||◌, nat_eq, List, [], ◌∷◌, ◌++◌, Option, Some, None, Ok, if◌then◌else◌, codes, bytes_eq, encode_utf8_all}
use Rattle.std.specs.List.{filter, flat_map, starts_with}
use Rattle.std.specs.Str.{is_utf8, chars}
use Rattle.hub_path.specs.Path.{Name, Path, is_place, path_of}
use Rattle.hub_path.specs.Reading.{begins_with_slash, without_last_slash}
use Rattle.hub_profile.specs.Reading.{kept_reading}
use Rattle.hub_preferences.specs.Kinds.{kind_of, is_in_root}
use Rattle.hub_preferences.specs.declared.kind.LineKind.{LineKind}
use Rattle.hub_profile.specs.Lines.{trimmed_line, is_setting, has_equals, name_and_value, is_one_of}

-- Unison takes a name that is empty or `.` for nothing: by `./a`, `a//b` and `a/./` it synchronizes
-- `a`, `a/b` and `a`, and by `.` the whole replica (observed with Unison 2.52.1).
abbrev pub is_nothing : Name → Bool
is_nothing n = is_one_of (codes "" ∷ codes "." ∷ []) n

abbrev pub names_of : List ℕ → Path
names_of v = filter (λ n. not (is_nothing n)) (path_of v)

-- Names with a slash after each. The plain reader drops the last slash.
abbrev pub with_slashes : Path → List ℕ
with_slashes ns = flat_map (λ n. n ++ 47 ∷ []) ns

-- The plain reader reads these names of their text with slashes.
abbrev pub ReadsBack : Path → Type 0
ReadsBack ns = kept_reading (with_slashes ns) ≡ Ok ns

-- They are those of a place, and the bytes have each of them with a slash after it.
abbrev pub HaveSlashes : Path → List ℕ → Type 0
HaveSlashes ns bytes = (is_place ns ≡ true) × (bytes ≡ encode_utf8_all (with_slashes ns))

abbrev pub begins_with_blank : List ℕ → Bool
begins_with_blank cs = starts_with nat_eq cs (codes " ") || starts_with nat_eq cs (codes "\t")

-- The same value but for a slash at the end.
abbrev pub is_same_value : List ℕ → List ℕ → Bool
is_same_value v w = bytes_eq (without_last_slash v) (without_last_slash w)

-- Whether a value is respelled. Not one with a slash at its start or a name `..`, which Unison refuses,
-- too, nor one that would lose a blank.
abbrev pub can_stand_for : List ℕ → List ℕ → Bool
can_stand_for w v = not (begins_with_blank w) && not (is_same_value w v)

abbrev pub is_respelled : List ℕ → Bool
is_respelled v =
    not (begins_with_slash v)
    && (is_place (names_of v) && can_stand_for (with_slashes (names_of v)) v)

-- The line of a `path` value in the plain reader's spelling.
abbrev pub path_line : List ℕ → List ℕ
path_line v = codes "path = " ++ encode_utf8_all (with_slashes (names_of v))

-- The other spelling of a line, by its name and its value, by its text without blanks around it, and by
-- its bytes. None for a line that the plain reader reads as Unison does, or that isn't a `path` line.
abbrev pub spelling_of_value : List ℕ → Option (List ℕ)
spelling_of_value v = if is_respelled v then Some (path_line v) else None

abbrev pub spelling_of_pair : List ℕ × List ℕ → Option (List ℕ)
spelling_of_pair pair = if is_one_of (codes "path" ∷ []) pair.0 then spelling_of_value pair.1 else None

abbrev pub spelling_of_text : List ℕ → Option (List ℕ)
spelling_of_text t =
    if is_setting t && has_equals t then spelling_of_pair (name_and_value t) else None

abbrev pub spelling : List ℕ → Option (List ℕ)
spelling l = if is_utf8 l then spelling_of_text (trimmed_line (chars l)) else None

-- The line in the place of one that names a file that may lie in a root. The plain reader refuses it by
-- its name.
abbrev pub refused_line : List ℕ
refused_line = codes "logfile in a root" ++ codes " ="

-- The other line in the place of one of that kind.
abbrev pub spelling_as : LineKind → List ℕ → Option (List ℕ)
spelling_as k l = if is_in_root k then Some refused_line else spelling l

-- The same of a line, where these are the roots of the bundle.
abbrev pub other_spelling : List Path → List ℕ → Option (List ℕ)
other_spelling roots l = spelling_as (kind_of roots l) l

-- A line in its other spelling, if it has one.
abbrev pub or_spelling : Option (List ℕ) → List ℕ → List ℕ
or_spelling None l = l
or_spelling (Some t) l = t

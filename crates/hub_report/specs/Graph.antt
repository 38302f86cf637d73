-- The graph of profiles for Graphviz: the profiles, their roots, and what clashes.
use Rattle.std.specs.Prelude.{ℕ, ◌+◌, ◌==◌, Bool, false, ◌||◌, if◌then◌else◌}
use Rattle.std.specs.Prelude.{List, [], ◌∷◌, ◌++◌, Option, None, Some}
use Rattle.std.specs.Prelude.{codes, chars, encode_utf8, encode_utf8_all, map}
use denote.Ref.{Bor}
use Rattle.std.specs.BTreeSet.{insert_key}
use Rattle.std.specs.Cmp.Lexicographic.{slice_cmp}
use Rattle.std.specs.List.{flat_map, list_any}
use Rattle.std.specs.Ordering.{nat_cmp}
use Rattle.hub_path.specs.Path.{Path}
use Rattle.hub_path.specs.declared.side.Side.{Side}
use Rattle.hub_path.specs.declared.side.Side.TheVariants.{Left, Right}
use Rattle.hub_profile.specs.Parts.{Parts, at_side}
use Rattle.hub_cert.specs.declared.fault.CheckFault.{CheckFault}
use Rattle.hub_cert.specs.declared.fault.CheckFault.TheVariants as fault
use Rattle.hub_rounds.specs.Lines.{subject_of}
use Rattle.hub_rounds.specs.declared.placing.Obstacle.TheVariants.{Breach, TooLarge}
use Rattle.hub_rounds.specs.declared.subject.Subject.{Subject}
use Rattle.hub_rounds.specs.declared.subject.Subject.TheVariants as subject
use Rattle.hub_report.specs.Pairs.{are_joined}
use Rattle.hub_report.specs.Refusal.{joined, name_at, path_text, text_of_root}
use Rattle.hub_report.specs.Undecided.{clashing_pair}
use Rattle.hub_report.specs.declared.pair.Pair.{Pair}

-- A backslash or a quote.
abbrev pub needs_backslash : ℕ → Bool
needs_backslash c = c == 92 || c == 34

-- A character between quotes: a backslash comes before a backslash and before a quote.
abbrev pub in_quotes : ℕ → List ℕ
in_quotes c = if needs_backslash c then codes "\\" ++ encode_utf8 c else encode_utf8 c

-- A text between quotes.
unfoldable pub escaped : List ℕ → List ℕ
escaped t = flat_map in_quotes (chars t)

-- The lines before those of profiles.
abbrev pub head_text : List ℕ
head_text =
    joined (codes "graph clashes {\n" ∷ codes "    graph [rankdir = LR];\n"
    ∷ codes "    node [fontname = \"sans-serif\"];\n"
    ∷ codes "    edge [fontname = \"sans-serif\"];\n" ∷ [])

-- The box of a profile of that name.
unfoldable pub box_line : List ℕ → List ℕ → List ℕ
box_line style name =
    joined (codes "    \"profile " ∷ name ∷ codes "\" [shape = box, label = \"" ∷ name ∷ codes "\""
    ∷ style ∷ codes "];\n" ∷ [])

-- The line that joins a profile to a node of that kind and name, in that style; and to a root.
unfoldable pub edge : List ℕ → List ℕ → List ℕ → List ℕ → List ℕ
edge name kind node style =
    joined (codes "    \"profile " ∷ name ∷ codes "\" -- \"" ∷ kind ∷ codes " " ∷ node
    ∷ codes "\" [" ∷ style ∷ codes "];\n" ∷ [])

unfoldable pub root_edge : List ℕ → List ℕ → List ℕ
root_edge name root = edge name (codes "root") root (codes "color = gray50")

-- The root of a profile on that side.
abbrev pub root_text_at : Parts → Side → List ℕ
root_text_at P side = text_of_root (at_side P.roots side)

-- The box of a profile, and the lines to its two roots.
abbrev pub lines_of_profile : List ℕ → Parts → List ℕ
lines_of_profile style P =
    let name = escaped (encode_utf8_all P.name) in
    box_line style name
    ++ (root_edge name (escaped (root_text_at P Left))
    ++ root_edge name (escaped (root_text_at P Right)))

-- The profile of that number may break a rule.
abbrev pub is_breach : ℕ → Subject → Bool
is_breach i (subject.Alone p (Breach r)) = p == i
is_breach i _ = false

abbrev pub has_breach : List CheckFault → ℕ → Bool
has_breach es i = list_any (λ e. is_breach i (subject_of e)) es

-- Whether it may is too large to decide.
abbrev pub is_large_breach : ℕ → Subject → Bool
is_large_breach i (subject.Alone p (TooLarge r)) = p == i
is_large_breach i _ = false

abbrev pub has_large_breach : List CheckFault → ℕ → Bool
has_large_breach es i = list_any (λ e. is_large_breach i (subject_of e)) es

-- The style of the box of the profile of that number.
abbrev pub box_style : List CheckFault → ℕ → List ℕ
box_style es i =
    if has_breach es i then codes ", color = red"
    else (if has_large_breach es i then codes ", color = red, style = dashed" else [])

-- The lines of the profile of that number.
abbrev pub lines_of_numbered : List CheckFault → ℕ → Parts → List ℕ
lines_of_numbered es i P = lines_of_profile (box_style es i) P

-- The lines of profiles, of which the first has this number.
abbrev pub profile_lines : List CheckFault → ℕ → List Parts → List ℕ
profile_lines es i [] = []
profile_lines es i (P ∷ Ps) = lines_of_numbered es i P ++ profile_lines es (i + 1) Ps

-- The texts that are borrowed.
abbrev pub texts_in : List (Bor (List ℕ)) → List (List ℕ)
texts_in ts = map (λ t. t.now) ts

-- These texts, which are in the order of their bytes, with one more if it isn't there.
abbrev pub with_new_text : List (List ℕ) → List ℕ → List (List ℕ)
with_new_text = insert_key (slice_cmp nat_cmp)

-- These texts, with those of the roots of a profile.
abbrev pub with_roots : List (List ℕ) → Parts → List (List ℕ)
with_roots ts P = with_new_text (with_new_text ts (root_text_at P Left)) (root_text_at P Right)

-- These texts, with those of the roots of these profiles.
abbrev pub root_texts_of : List (List ℕ) → List Parts → List (List ℕ)
root_texts_of ts [] = ts
root_texts_of ts (P ∷ Ps) = root_texts_of (with_roots ts P) Ps

-- The line of a root.
unfoldable pub folder_line : List ℕ → List ℕ
folder_line root =
    joined (codes "    \"root " ∷ root ∷ codes "\" [shape = folder, label = \"" ∷ root
    ∷ codes "\"];\n" ∷ [])

abbrev pub folder : List ℕ → List ℕ
folder root = folder_line (escaped root)

-- The lines of the roots of these profiles.
abbrev pub root_lines : List Parts → List ℕ
root_lines Ps = flat_map folder (root_texts_of [] Ps)

-- The red line that joins two profiles of these names, with a path; and the dashed one.
unfoldable pub red_edge : List ℕ → List ℕ → List ℕ → List ℕ
red_edge writer other path =
    joined (codes "    \"profile " ∷ writer ∷ codes "\" -- \"profile " ∷ other
    ∷ codes "\" [color = red, fontcolor = red, label = \"" ∷ path ∷ codes "\"];\n" ∷ [])

abbrev pub dashed_edge : List ℕ → List ℕ → List ℕ
dashed_edge writer other = edge writer (codes "profile") other (codes "color = red, style = dashed")

-- The name of the profile of that number.
abbrev pub name_shown : List Parts → ℕ → List ℕ
name_shown Ps i = escaped (name_at Ps i)

-- The red line of two profiles that clash, with a path that shows it.
abbrev pub overlap_edge : List Parts → Pair → Path → List ℕ
overlap_edge Ps p path =
    red_edge (name_shown Ps p.writer) (name_shown Ps p.other) (escaped (path_text path))

-- The dashed line of two profiles of which it isn't decided whether they clash.
abbrev pub undecided_line : List Parts → Pair → List ℕ
undecided_line Ps p = dashed_edge (name_shown Ps p.writer) (name_shown Ps p.other)

-- Which are joined after a line for two profiles: two that are joined get no second line.
abbrev pub joined_after : List Pair → Option Pair → List Pair
joined_after ps None = ps
joined_after ps (Some p) = if are_joined ps p then ps else ps ++ p ∷ []

abbrev pub unless_joined : List Pair → Pair → List ℕ → List ℕ
unless_joined ps p line = if are_joined ps p then [] else line

-- The two profiles of an overlap.
abbrev pub overlap_in : CheckFault → Option Pair
overlap_in (fault.Overlap w o place held path) = Some (record { writer = w; other = o })
overlap_in _ = None

-- The red line of two profiles that share an archive; and the same if these are joined before.
abbrev pub archive_line : List Parts → Pair → List ℕ
archive_line Ps p =
    red_edge (name_shown Ps p.writer) (name_shown Ps p.other) (codes "same archive")

abbrev pub archive_edge : List Parts → List Pair → Pair → List ℕ
archive_edge Ps ps p = unless_joined ps p (archive_line Ps p)

-- Two profiles of these numbers.
abbrev pub pair_of : ℕ × ℕ → Pair
pair_of numbers = record { writer = numbers.0; other = numbers.1 }

-- The red lines of profiles of these numbers that share archives, in their order; and which profiles
-- are joined after them.
abbrev pub archive_edges : List Parts → List Pair → List (ℕ × ℕ) → List ℕ
archive_edges Ps ps [] = []
archive_edges Ps ps (a ∷ archives) =
    archive_edge Ps ps (pair_of a)
    ++ archive_edges Ps (joined_after ps (Some (pair_of a))) archives

abbrev pub joined_by_archives : List Pair → List (ℕ × ℕ) → List Pair
joined_by_archives ps [] = ps
joined_by_archives ps (a ∷ archives) =
    joined_by_archives (joined_after ps (Some (pair_of a))) archives

-- The red line of a fault, if these are joined before.
abbrev pub red_line : List Parts → List Pair → CheckFault → List ℕ
red_line Ps ps (fault.Overlap w o place held path) =
    let p : Pair = record { writer = w; other = o } in
    unless_joined ps p (overlap_edge Ps p path)
red_line Ps ps _ = []

-- The red lines of these faults in their order; and which profiles are joined after them.
abbrev pub red_lines : List Parts → List Pair → List CheckFault → List ℕ
red_lines Ps ps [] = []
red_lines Ps ps (e ∷ es) = red_line Ps ps e ++ red_lines Ps (joined_after ps (overlap_in e)) es

abbrev pub joined_by_red : List Pair → List CheckFault → List Pair
joined_by_red ps [] = ps
joined_by_red ps (e ∷ es) = joined_by_red (joined_after ps (overlap_in e)) es

-- The dashed line of two profiles, if these are joined before.
abbrev pub dashed_line : List Parts → List Pair → Option Pair → List ℕ
dashed_line Ps ps None = []
dashed_line Ps ps (Some p) = unless_joined ps p (undecided_line Ps p)

-- The two profiles of a fault that doesn't show whether they clash: that is too large to decide, or
-- their roots are nested.
abbrev pub dashed_in : CheckFault → Option Pair
dashed_in (fault.TooLarge g) = clashing_pair g
dashed_in (fault.Missing g) = clashing_pair g
dashed_in _ = None

-- The dashed lines of these faults in their order.
abbrev pub dashed_lines : List Parts → List Pair → List CheckFault → List ℕ
dashed_lines Ps ps [] = []
dashed_lines Ps ps (e ∷ es) =
    dashed_line Ps ps (dashed_in e) ++ dashed_lines Ps (joined_after ps (dashed_in e)) es

-- A red line for each two profiles that clash, then one for each other two that share an archive, and
-- then a dashed one for each other two of which it isn't decided whether they clash.
abbrev pub joining_lines : List Parts → List CheckFault → List (ℕ × ℕ) → List ℕ
joining_lines Ps es archives =
    let red : List Pair = joined_by_red [] es in
    red_lines Ps [] es
    ++ (archive_edges Ps red archives ++ dashed_lines Ps (joined_by_archives red archives) es)

-- The graph of profiles with these faults, and of which these numbers share archives.
abbrev pub graph_text : List Parts → List CheckFault → List (ℕ × ℕ) → List ℕ
graph_text Ps es archives =
    head_text
    ++ (profile_lines es 0 Ps
    ++ (root_lines Ps ++ (joining_lines Ps es archives ++ codes "}\n")))

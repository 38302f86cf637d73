-- The readings of profiles, as functions of these.
use Rattle.std.specs.Prelude.{ℕ, Bool, not, ◌&&◌, ◌||◌, ◌==◌, nat_lt, List, [], ◌∷◌, ◌++◌, length, map, Option, Some, None, if◌then◌else◌, IsTrue}
use Rattle.std.specs.List.{list_any, list_all, filter, fold, flat_map}
use Rattle.hub_path.specs.Path.{Path, is_over, parent, path_eq}
use Rattle.hub_glob.specs.declared.piece.Part.TheVariants.{Brace}
use Rattle.hub_glob.specs.contracts.path_spec.PathSpecPartialEq.TheImpl as tested
use Rattle.hub_glob.specs.Specification.{Specification}
use Rattle.hub_glob.specs.Glob.{choices}
use Rattle.hub_glob.specs.Writing.{spec_text}
use Rattle.hub_profile.specs.declared.partial.Partial.{Partial}
use Rattle.hub_profile.specs.declared.rule.Rule.{Rule}
use Rattle.hub_profile.specs.Facts.{are_kept}
use Rattle.hub_profile.specs.Parts.{Parts, some_passes}
use Rattle.hub_reach.specs.Reach.{reach, write}
use Rattle.hub_unison.specs.Cautious.{cover, has_star, with_patterns, with_tops}
use Rattle.hub_unison.specs.Kept.{own_lines, spare_lines, cut_from}
use Rattle.hub_unison.specs.Lines.{spelled}
use Rattle.hub_unison.specs.Matching.{all_simple, all_known, widened}
use Rattle.hub_unison.specs.Rules.{for_rules}
use Rattle.hub_unison.specs.declared.kept.Kept.{Kept}
use Rattle.hub_unison.specs.declared.kept.Kept.TheVariants.{Nothing, Cut, Alone, Sparing}
use Rattle.hub_unison.specs.Spares.{is_plain, pattern_spares}
use Rattle.hub_unison.specs.UnisonReach.{is_starred}

-- Whether a specification is spelled by its own text. That may have too many characters: the set
-- `[a-c]` is written `[abc]`.
abbrev pub is_read_back : Specification → Bool
is_read_back s = some_passes (λ t. tested.eq-value.it t s) (spelled (spec_text s))

abbrev pub read_back : Specification → Option Specification
read_back s = if is_read_back s then Some s else None

-- The specification that matches what the spares of another one match.
abbrev pub spare_of : Specification → Specification
spare_of s = record { kind = s.kind; pattern = Brace (pattern_spares s.pattern) ∷ [] }

abbrev pub has_spares : Specification → Bool
has_spares s = not (length (pattern_spares s.pattern) == 0)

-- An `ignore` line stays if it is known what Unison matches by it at most, and each spare can be
-- written in an `ignorenot` line. This is then a line for its spares. One that can't be written would
-- pass a limit of patterns.
abbrev pub line_stays : Specification → Bool
line_stays s =
    is_read_back s && all_simple s.pattern && (not (has_spares s) || is_read_back (spare_of s))

abbrev pub line_kept : Specification → Kept
line_kept s =
    if line_stays s then (if has_spares s then Sparing s (spare_of s) else Alone s)
    else (if all_simple s.pattern then Cut else Nothing)

-- A line for spares isn't needed if what it matches is ignored for certain by one of the `ignore`
-- lines: one that is read alike, has this kind, and has these choices. Nor is it if it is one of the
-- `ignorenot` lines.
abbrev pub braced : Specification → Specification
braced s = record { kind = s.kind; pattern = Brace (choices s.pattern) ∷ [] }

abbrev pub owns : Specification → Specification → Bool
owns s spare =
    is_plain s.pattern && (is_read_back (braced s) && tested.eq-value.it (braced s) spare)

abbrev pub is_owned : List Specification → Specification → Bool
is_owned ss spare = list_any (λ s. owns s spare) ss

abbrev pub is_among : List Specification → Specification → Bool
is_among spared spare = list_any (λ s. tested.eq-value.it s spare) spared

abbrev pub needed : List Specification → List Specification → Kept → Kept
needed ss spared Nothing = Nothing
needed ss spared Cut = Cut
needed ss spared (Alone s) = Alone s
needed ss spared (Sparing s spare) =
    if is_owned ss spare || is_among spared spare then Alone s else Sparing s spare

-- What is kept of each of the `ignore` lines beside the others and these `ignorenot` lines.
abbrev pub each_kept : List Specification → List Specification → List Kept
each_kept ss spared = map (λ s. needed ss spared (line_kept s)) ss

-- An `ignorenot` line can stay, or one with stars in its place, if it is known what Unison matches by it
-- at most.
abbrev pub spare_stays : Specification → Bool
spare_stays s = all_known s.pattern && is_read_back (widened s)

-- A bar stays if Unison matches for certain what hubsync has its pattern match.
abbrev pub bar_stays : Partial → Bool
bar_stays b = is_read_back b.spec && is_plain b.spec.pattern

abbrev pub kept_bars : List Partial → List Partial
kept_bars bars = filter bar_stays bars

-- A kept value, or its parent if its last name is `*`.
abbrev pub cut_value : Path → Path
cut_value s = if is_starred s then parent s else s

-- Of some paths those that are below no other one, each once, in their order.
abbrev pub is_below_some : List Path → Path → Bool
is_below_some ps q = list_any (λ p. is_over p q && nat_lt (length p) (length q)) ps

abbrev pub with_top : List Path → List Path → Path → List Path
with_top ps tops q =
    if is_below_some ps q || list_any (λ top. path_eq top q) tops then tops else tops ++ q ∷ []

abbrev pub topmost : List Path → List Path
topmost ps = fold (with_top ps) [] ps

-- They may be kept values, and are over all that the others stand for.
abbrev pub are_tops : List Path → List Path → Bool
are_tops tops paths = are_kept tops && cover tops paths

-- The kept values in place of some that end with `*`.
abbrev pub top_values : List Path → List Path
top_values paths =
    if are_tops (topmost (map cut_value paths)) paths then topmost (map cut_value paths) else [] ∷ []

-- A profile with these lines.
abbrev pub with_kept : Parts → List Kept → List Specification → List Partial → Parts
with_kept P ks spared partial =
    with_patterns P (flat_map own_lines ks) (spared ++ flat_map spare_lines ks) partial

-- The cautious reading of a profile. If a kept value ends with `*`, or it isn't known what Unison
-- matches at most by an `ignorenot` line, nothing is ignored.
abbrev pub cautious_of : Parts → Parts
cautious_of P =
    if has_star P then with_tops P (top_values P.paths) (kept_bars P.partial)
    else (if list_all spare_stays P.ignorenot
    then with_kept P (each_kept P.ignore (map widened P.ignorenot)) (map widened P.ignorenot) (kept_bars P.partial)
    else with_patterns P [] [] (kept_bars P.partial))

-- The numbers, from 0 on, of the `ignore` lines that it leaves out since a pattern would be too long.
abbrev pub lines_cut : Parts → List ℕ
lines_cut P =
    if has_star P then []
    else (if list_all spare_stays P.ignorenot then cut_from 0 (each_kept P.ignore (map widened P.ignorenot)) else [])

-- The reading of a profile beside rules.
abbrev pub reading_of : List Rule → Parts → Parts
reading_of [] P = cautious_of P
reading_of (R ∷ Rs) P = for_rules P (top_values P.paths)

-- Each line of the profile is read alike by hubsync and Unison.
abbrev pub is_read_alike : Parts → Bool
is_read_alike P =
    not (has_star P) && list_all (λ s. is_read_back s && is_plain s.pattern) P.ignore
    && list_all (λ s. is_read_back s && all_simple s.pattern) P.ignorenot
    && list_all bar_stays P.partial

-- A profile with these `ignore` lines.
abbrev pub with_ignored : Parts → List Specification → Parts
with_ignored P ss = record P { ignore = ss }

-- The new reading reaches, and writes at each root, no path that the old one doesn't.
pub record IsNoWider (old new : Parts) : Type 0 where
  pub reach : (p : Path) → IsTrue (reach new p) → IsTrue (reach old p)
  pub write : (r p : Path) → IsTrue (write new r p) → IsTrue (write old r p)

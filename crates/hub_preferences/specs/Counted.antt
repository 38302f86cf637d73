-- Which lines of a bundle a cautious reading leaves out, and the bundle without them.
use Rattle.std.specs.Prelude.{◌≡◌, ◌++◌, Vec, ℕ, Bool, true, false, not, ◌&&◌, ◌||◌, nat_eq, List, [], ◌∷◌, drop, Option, None, is_some, if◌then◌else◌}
use Rattle.std.specs.List.{list_any, starts_with}
use Rattle.hub_text.specs.declared.line.Line.{Line}
use Rattle.hub_text.specs.Lines.{line_text, lines_of, text_of_lines}
use Rattle.hub_bundle.specs.Files.{is_heading, heading_word}
use Rattle.hub_bundle.specs.declared.part.Kind.TheVariants.{Profile}
use Rattle.hub_preferences.specs.Kinds.{kind_of, overrides_force, sets_force, is_unread_ignorenot}
use Rattle.hub_path.specs.Path.{Path}
use Rattle.hub_preferences.specs.Places.{roots_in}
use Rattle.hub_preferences.specs.Spellings.{other_spelling, or_spelling}
use Rattle.hub_preferences.specs.declared.kind.LineKind.{LineKind}
use Rattle.hub_preferences.specs.declared.kind.LineKind.TheVariants as kind
use Rattle.hub_preferences.specs.declared.section.Section.{Section}

-- What these lines are, up to the next heading, where these are the roots of the bundle. So they are
-- below.
abbrev pub kinds_below : List Path → List (Line (List ℕ)) → List LineKind
kinds_below roots [] = []
kinds_below roots (l ∷ ls) =
    if is_heading l.text then [] else kind_of roots l.text ∷ kinds_below roots ls

-- What the lines of these bytes are, up to the next heading.
abbrev pub kinds_in : List Path → List ℕ → List LineKind
kinds_in roots bytes = kinds_below roots (lines_of bytes)

-- No section of a profile.
abbrev pub no_profile : Section
no_profile = record { is_profile = false; overrides_force = false; lacks_ignorenot = false }

-- The section of a profile whose lines are these.
abbrev pub profile_of : List LineKind → Section
profile_of ks = record {
  is_profile = true;
  overrides_force = list_any overrides_force ks;
  lacks_ignorenot = list_any is_unread_ignorenot ks;
}

abbrev pub is_profile_heading : List ℕ → Bool
is_profile_heading l = starts_with nat_eq l (heading_word Profile)

-- The section below a heading that stands above these lines.
abbrev pub section_below : List Path → List ℕ → List (Line (List ℕ)) → Section
section_below roots heading ls =
    if is_profile_heading heading then profile_of (kinds_below roots ls) else no_profile

-- The section of a line: that of the line above it, or the one that it begins.
abbrev pub section_at : List Path → Section → List ℕ → List (Line (List ℕ)) → Section
section_at roots s l below = if is_heading l then section_below roots l below else s

-- Whether a line of that kind is left out, above lines of these kinds. Of several `force` lines the
-- last one counts.
abbrev pub is_kind_left_out : Section → LineKind → List LineKind → Bool
is_kind_left_out s kind.Stays below = false
is_kind_left_out s kind.LeftOut below = true
is_kind_left_out s kind.Force below = s.overrides_force || list_any sets_force below
is_kind_left_out s kind.ForcesNoRoot below = true
is_kind_left_out s kind.OverridesForce below = true
is_kind_left_out s kind.Ignore below = s.lacks_ignorenot
is_kind_left_out s kind.UnreadIgnoreNot below = true
is_kind_left_out s kind.InRoot below = false

-- Whether a line of a section is left out. Only lines of profiles are.
abbrev pub is_left_out : List Path → Section → List ℕ → List (Line (List ℕ)) → Bool
is_left_out roots s l below =
    s.is_profile
    && (not (is_heading l) && is_kind_left_out s (kind_of roots l) (kinds_below roots below))

-- A line is added at the end of bytes.
abbrev pub AddsLine : {Z : Type 0} → Vec ℕ Z → Vec ℕ Z → Line (List ℕ) → Type 0
AddsLine old new l = new.items ≡ old.items ++ line_text l

-- A line of this text.
abbrev pub line_of : List ℕ → Bool → Line (List ℕ)
line_of text is_ended = record { text = text; is_ended = is_ended }

-- A line that is left out becomes a comment of the same length.
abbrev pub comment : Line (List ℕ) → Line (List ℕ)
comment l = record { text = 35 ∷ drop 1 l.text; is_ended = l.is_ended }

-- The other spelling of a line of a section. Only lines of profiles have one.
abbrev pub spelling_in : List Path → Section → List ℕ → Option (List ℕ)
spelling_in roots s l =
    if s.is_profile && not (is_heading l) then other_spelling roots l else None

abbrev pub spelled : List Path → Section → Line (List ℕ) → Line (List ℕ)
spelled roots s l =
    record { text = or_spelling (spelling_in roots s l.text) l.text; is_ended = l.is_ended }

abbrev pub counted_line :
    List Path → Section → Line (List ℕ) → List (Line (List ℕ)) → Line (List ℕ)
counted_line roots s l below =
    if is_left_out roots s l.text below then comment l else spelled roots s l

-- These lines, where the first one is in a section or begins one.
abbrev pub counted_lines :
    List Path → Section → List (Line (List ℕ)) → List (Line (List ℕ))
counted_lines roots s [] = []
counted_lines roots s (l ∷ ls) =
    counted_line roots (section_at roots s l.text ls) l ls
    ∷ counted_lines roots (section_at roots s l.text ls) ls

-- The lines of a bundle, those that count as the plain reader spells them. All its roots matter to
-- each of its lines.
abbrev pub lines_that_count : List ℕ → List (Line (List ℕ))
lines_that_count bytes = counted_lines (roots_in bytes) no_profile (lines_of bytes)

-- The bundle with its lines that count, as the plain reader spells them, and comments in place of the
-- others. A line by which Unison may write a file in a root of one of the profiles gets a name that the
-- plain reader refuses.
abbrev pub counted_bundle : List ℕ → List ℕ
counted_bundle bytes = text_of_lines (lines_that_count bytes)

-- Whether one of these lines is left out or has another spelling, where the first one is in a section or
-- begins one.
abbrev pub changes : List Path → Section → List ℕ → List (Line (List ℕ)) → Bool
changes roots s l below = is_left_out roots s l below || is_some (spelling_in roots s l)

abbrev pub changes_some : List Path → Section → List (Line (List ℕ)) → Bool
changes_some roots s [] = false
changes_some roots s (l ∷ ls) =
    changes roots (section_at roots s l.text ls) l.text ls
    || changes_some roots (section_at roots s l.text ls) ls

-- The same of a bundle.
abbrev pub is_changed : List ℕ → Bool
is_changed bytes = changes_some (roots_in bytes) no_profile (lines_of bytes)

-- A line stands as it was, if this holds of the roots of the bundle, of its section, of it, and of the
-- lines below it.
abbrev pub LineStaysIf :
    (List Path → Section → Line (List ℕ) → List (Line (List ℕ)) → Type 0) → Type 0
LineStaysIf P =
    (roots : List Path) (s : Section) (l : Line (List ℕ)) (below : List (Line (List ℕ)))
    → P roots s l below → counted_line roots s l below ≡ l

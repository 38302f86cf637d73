-- What a line of a profile is to a cautious reading.
use Rattle.std.specs.Prelude.{ℕ, Bool, true, false, not, ◌&&◌, ◌==◌, nat_eq, List, [], ◌∷◌, Option, Some, None, if◌then◌else◌, codes}
use Rattle.std.specs.List.{fold, starts_with}
use Rattle.std.specs.Result.{is_ok}
use Rattle.std.specs.Str.{is_utf8, chars}
use Rattle.hub_glob.specs.Reading.{spec_reading}
use Rattle.hub_profile.specs.Arrow.{has_arrow, before_arrow, after_arrow}
use Rattle.hub_profile.specs.Lines.{trimmed, trimmed_line, is_setting, has_equals, name_and_value, is_one_of}
use Rattle.hub_path.specs.Path.{Path}
use Rattle.hub_preferences.specs.Places.{is_apart, is_part_of_name}
use Rattle.hub_preferences.specs.Table.{meaning_named}
use Rattle.hub_preferences.specs.declared.kind.LineKind.{LineKind}
use Rattle.hub_preferences.specs.declared.kind.LineKind.TheVariants as kind
use Rattle.hub_preferences.specs.declared.table.Meaning.{Meaning}
use Rattle.hub_preferences.specs.declared.table.Rule.{Rule}
use Rattle.hub_preferences.specs.declared.table.Rule.TheVariants as rule

-- The values of `force` that name no root.
abbrev pub names_no_root : List ℕ → Bool
names_no_root v = is_one_of (codes "newer" ∷ codes "older" ∷ codes "" ∷ []) v

-- The values that switch a preference off, or leave it as it is without a line.
abbrev pub is_off : List ℕ → Bool
is_off v = is_one_of (codes "false" ∷ codes "default" ∷ []) v

abbrev pub is_central : List ℕ → Bool
is_central v = is_one_of (codes "central" ∷ []) v

-- The plain reader reads the pattern.
abbrev pub is_pattern : List ℕ → Bool
is_pattern v = is_ok (spec_reading v)

abbrev pub ends_with_space : List ℕ → Bool
ends_with_space cs = fold (λ _ c. c == 32) false cs

-- Unison sees the last arrow of a value, and no other one, by what stands before and after it: it
-- cuts at an arrow that has a space on both sides, and with two of them it bars nothing.
abbrev pub is_seen : List ℕ → List ℕ → Bool
is_seen before after =
    ends_with_space before && (starts_with nat_eq after (codes " ") && not (has_arrow before))

-- A bar on some paths that means the same to Unison and to the plain reader.
abbrev pub is_bar : List ℕ → Bool
is_bar v =
    has_arrow v
    && (is_seen (before_arrow v) (after_arrow v) && is_pattern (trimmed (before_arrow v)))

abbrev pub left_out_if : Bool → LineKind
left_out_if b = if b then kind.LeftOut else kind.Stays

-- A file that may lie in one of these roots is refused.
abbrev pub left_out_if_apart : Bool → LineKind
left_out_if_apart b = if b then kind.LeftOut else kind.InRoot

-- What a line is that sets a preference of that rule to that value, where these are the roots of the
-- bundle.
abbrev pub kind_by : List Path → Rule → List ℕ → LineKind
kind_by roots rule.Stays v = kind.Stays
kind_by roots rule.LeftOut v = kind.LeftOut
kind_by roots rule.LeftOutIfOff v = left_out_if (is_off v)
kind_by roots rule.LeftOutIfCentral v = left_out_if (is_central v)
kind_by roots rule.LeftOutIfName v = left_out_if (is_part_of_name v)
kind_by roots rule.LeftOutIfApart v = left_out_if_apart (is_apart roots v)
kind_by roots rule.Force v = if names_no_root v then kind.ForcesNoRoot else kind.Force
kind_by roots rule.OverridesForce v = kind.OverridesForce
kind_by roots rule.Ignore v = if is_pattern v then kind.Ignore else kind.LeftOut
kind_by roots rule.IgnoreNot v = if is_pattern v then kind.Stays else kind.UnreadIgnoreNot
kind_by roots rule.PartialBar v = left_out_if (not (is_bar v))

-- A line that sets no preference of the tables stays, and then the plain reader refuses it.
abbrev pub kind_named : List Path → Option Meaning → List ℕ → LineKind
kind_named roots None v = kind.Stays
kind_named roots (Some m) v = kind_by roots m.rule v

abbrev pub kind_of_pair : List Path → List ℕ × List ℕ → LineKind
kind_of_pair roots pair = kind_named roots (meaning_named pair.0) pair.1

-- What a line without blanks around it is.
abbrev pub kind_of_text : List Path → List ℕ → LineKind
kind_of_text roots t =
    if is_setting t && has_equals t then kind_of_pair roots (name_and_value t) else kind.Stays

-- What a line is. One that isn't text stays.
abbrev pub kind_of : List Path → List ℕ → LineKind
kind_of roots l =
    if is_utf8 l then kind_of_text roots (trimmed_line (chars l)) else kind.Stays

-- A line overrides the `force` lines of its profile, or is one of these, or is an `ignorenot` line
-- whose pattern can't be read.
abbrev pub overrides_force : LineKind → Bool
overrides_force kind.OverridesForce = true
overrides_force _ = false

abbrev pub sets_force : LineKind → Bool
sets_force kind.Force = true
sets_force kind.ForcesNoRoot = true
sets_force _ = false

abbrev pub is_unread_ignorenot : LineKind → Bool
is_unread_ignorenot kind.UnreadIgnoreNot = true
is_unread_ignorenot _ = false

-- It names a file that may lie in a root.
abbrev pub is_in_root : LineKind → Bool
is_in_root kind.InRoot = true
is_in_root _ = false

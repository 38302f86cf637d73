-- What a profile and a rule say, said from a root above their own: the same names come before each
-- path.
use Rattle.std.specs.Prelude.{ℕ, Bool, true, ◌&&◌, ◌||◌, ◌==◌, List, [], ◌∷◌, ◌++◌, length, map, if◌then◌else◌}
use Rattle.std.specs.List.{list_all, list_any, filter}
use Rattle.hub_path.specs.Path.{Path, is_over, text_of}
use Rattle.hub_path.specs.declared.side.Side.{Side}
use Rattle.hub_path.specs.declared.side.Side.TheVariants.{Left, Right}
use Rattle.hub_glob.specs.declared.piece.Piece.{Piece}
use Rattle.hub_glob.specs.declared.piece.Piece.TheVariants.{Lit}
use Rattle.hub_glob.specs.declared.piece.Part.TheVariants.{Brace}
use Rattle.hub_glob.specs.declared.path_spec.Kind.TheVariants as kind
use Rattle.hub_glob.specs.Glob.{choices}
use Rattle.hub_glob.specs.Specification.{Specification, is_name_kind}
use Rattle.hub_profile.specs.Parts.{Parts}
use Rattle.hub_profile.specs.declared.bars.Bars.{Bars}
use Rattle.hub_profile.specs.declared.partial.Partial.{Partial}
use Rattle.hub_profile.specs.declared.rule.Rule.{Rule}
use Rattle.hub_unison.specs.ReadingOf.{is_read_back}

-- The pieces that match one text alone.
abbrev pub literal : List ℕ → List Piece
literal t = map (λ c. Lit c) t

-- The specification that matches the path x alone.
abbrev pub just : Path → Specification
just x = record { kind = kind.Path; pattern = Brace (literal (text_of x) ∷ []) ∷ [] }

-- These pieces after the text of x and a slash.
abbrev pub in_front : Path → List Piece → List Piece
in_front x ps = literal (text_of x) ++ Lit 47 ∷ ps

-- The specification that matches `x ++ p` exactly where this one matches p, for each path p. A last
-- name is the same from every root.
abbrev pub lifted_spec : Path → Specification → Specification
lifted_spec x s =
    if is_name_kind s.kind then s
    else record s { pattern = Brace (map (in_front x) (choices s.pattern)) ∷ [] }

-- Nothing may be changed at x.
abbrev pub all_bars : Bars
all_bars = record { create = true; update = true; delete = true }

abbrev pub fixed_at : Side → Path → Partial
fixed_at side x = record { side = side; bars = all_bars; spec = just x }

abbrev pub lifted_bar : Path → Partial → Partial
lifted_bar x b = record b { spec = lifted_spec x b.spec }

-- A profile, said from above: at `x ++ p` it reaches and may do what the profile reaches and may do
-- at p. Where it keeps its whole replica, x becomes a kept value. The profile passes through x alone:
-- so no line ignores x, and nothing may be changed at it.
abbrev pub lifted : Path → Parts → Parts
lifted x P =
    record P {
      paths = map (λ v. x ++ v) P.paths;
      ignore = map (lifted_spec x) P.ignore;
      ignorenot = just x ∷ map (lifted_spec x) P.ignorenot;
      partial = fixed_at Left x ∷ fixed_at Right x ∷ map (lifted_bar x) P.partial;
    }

-- A profile said from a root that is its own, or above it by the names x.
abbrev pub said_from : Path → Parts → Parts
said_from x P = if length x == 0 then P else lifted x P

abbrev pub said_spec : Path → Specification → Specification
said_spec x s = if length x == 0 then s else lifted_spec x s

-- Whether its specifications can be written, within the limits of what is read. Also those that stay
-- as they are, are written and read.
abbrev pub are_said : Path → Parts → Bool
are_said x P =
    list_all (λ s. is_read_back (said_spec x s)) P.ignore
    && list_all (λ s. is_read_back (said_spec x s)) P.ignorenot
    && list_all (λ b. is_read_back (said_spec x b.spec)) P.partial

abbrev pub can_be_said : Path → Parts → Bool
can_be_said x P = (length x == 0 || is_read_back (just x)) && are_said x P

-- What a profile that ignores nothing keeps below x, where nothing may be changed at x itself.
abbrev pub paths_below : Path → List Path → List Path
paths_below x vs =
    if list_any (λ v. is_over v x) vs then x ∷ [] else filter (λ v. is_over x v) vs

abbrev pub only_below : Path → Parts → Parts
only_below x P =
    record P {
      paths = paths_below x P.paths;
      partial = fixed_at Left x ∷ fixed_at Right x ∷ P.partial;
    }

abbrev pub can_be_below : Path → Parts → Bool
can_be_below x P = is_read_back (just x) && are_said [] P

-- A rule, said from the root r above its own by the names x.
abbrev pub lifted_rule : Path → Path → Rule → Rule
lifted_rule r x R = record R { root = r; spec = lifted_spec x R.spec }

-- Patterns that begin with other characters than kept values: they match nothing that is reached.
use Rattle.std.proofs.Common.{◌==◌, ℕ, Bool, true, ◌&&◌, ◌||◌, List, [], ◌∷◌}
use Rattle.std.specs.Prelude.{Option, Some, None}
use Rattle.std.specs.List.{list_any}
use Rattle.hub_path.specs.Path.{Path, text_of}
use Rattle.hub_glob.specs.Specification.{Specification, is_name_kind}
use Rattle.hub_glob.specs.declared.piece.Piece.TheVariants.{Lit, Any, Run, OneOf}
use Rattle.hub_glob.specs.declared.piece.Part.{Part}
use Rattle.hub_glob.specs.declared.piece.Part.TheVariants.{One, Brace}

-- The literal character with which a pattern begins.
abbrev pub first_literal : List Part → Option ℕ
first_literal [] = None
first_literal (Brace cs ∷ ps) = None
first_literal (One Any ∷ ps) = None
first_literal (One Run ∷ ps) = None
first_literal (One (OneOf cs) ∷ ps) = None
first_literal (One (Lit c) ∷ ps) = Some c

-- The literal characters with which the pattern begins are those of the text, as far as both go.
abbrev pub begins_like : List Part → List ℕ → Bool
begins_like [] t = true
begins_like (Brace cs ∷ ps) t = true
begins_like (One Any ∷ ps) t = true
begins_like (One Run ∷ ps) t = true
begins_like (One (OneOf cs) ∷ ps) t = true
begins_like (One (Lit c) ∷ ps) [] = true
begins_like (One (Lit c) ∷ ps) (d ∷ t) = c == d && begins_like ps t

-- As far as the literal prefix of the pattern tells, the specification may match a path at or below
-- the kept value. One that is matched with the last name alone always may.
abbrev pub may_meet : Specification → Path → Bool
may_meet s v = is_name_kind s.kind || begins_like s.pattern (text_of v)

abbrev pub may_meet_one : Specification → List Path → Bool
may_meet_one s vs = list_any (may_meet s) vs

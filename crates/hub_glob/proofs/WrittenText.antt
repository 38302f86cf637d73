-- The text of a readable specification is made of characters (Unicode scalar values).
use Rattle.std.proofs.Common.{◌≡◌, ℕ, Bool, true, ◌&&◌, ◌==◌, List, [], ◌∷◌, ◌++◌, refl, ap, ◌∙◌}
use Rattle.std.specs.List.{AllByRecursion}
use Rattle.std.specs.Str.{all_scalars}
use Rattle.std.proofs.lemmas.Bool.{and_parts}
use lib.Utf8.{scalar}
use Rattle.hub_glob.specs.declared.piece.Piece.{Piece}
use Rattle.hub_glob.specs.declared.piece.Piece.TheVariants.{Lit, Any, Run, OneOf}
use Rattle.hub_glob.specs.declared.piece.Part.{Part}
use Rattle.hub_glob.specs.declared.piece.Part.TheVariants.{One, Brace}
use Rattle.hub_glob.specs.declared.path_spec.Kind.{Kind}
use Rattle.hub_glob.specs.declared.path_spec.Kind.TheVariants as kind
use Rattle.hub_glob.specs.Specification.{Specification, is_name_kind}
use Rattle.hub_glob.specs.Readable.{AreReadableMembers, IsReadablePiece, IsReadablePart, IsReadable}
use Rattle.hub_glob.specs.Reading.{is_special}
use Rattle.hub_glob.specs.laws.Scalars.{either-scalars}
use Rattle.hub_glob.specs.Writing.{literal, member_text, members_text, piece_text, pieces_text, choices_text, pattern_part_text, pattern_text, kind_word, spec_text}

abbrev IsText : List ℕ → Type 0
IsText cs = all_scalars cs ≡ true

append-scalars : (xs ys : List ℕ) → IsText xs → IsText ys → IsText (xs ++ ys)
append-scalars [] ys h k = k
append-scalars (x ∷ xs) ys h k =
    let (one, more) = and_parts (scalar x) (all_scalars xs) h in ap (λ b. b && all_scalars (xs ++ ys)) one ∙ append-scalars xs ys more k

literal-scalars : (c : ℕ) → scalar c ≡ true → IsText (literal c)
literal-scalars c h = either-scalars (is_special c) (92 ∷ c ∷ []) (c ∷ []) (ap (λ b. b && true) h) (ap (λ b. b && true) h)

member-scalars : (c d : ℕ) → scalar c ≡ true → IsText (member_text c d)
member-scalars c d h =
    let one = literal-scalars c h in either-scalars (d == 45) (literal c ++ 45 ∷ literal c) (literal c) (append-scalars (literal c) (45 ∷ literal c) one one) one

members-scalars : (cs : List ℕ) → AreReadableMembers cs → IsText (members_text cs)
members-scalars [] f = refl
members-scalars (c ∷ []) f = literal-scalars c f.1
members-scalars (c ∷ d ∷ []) f = append-scalars (literal c) (members_text (d ∷ [])) (literal-scalars c f.1) (members-scalars (d ∷ []) f.3)
members-scalars (c ∷ d ∷ e ∷ cs) f =
    append-scalars (member_text c d) (members_text (d ∷ e ∷ cs)) (member-scalars c d f.1) (members-scalars (d ∷ e ∷ cs) f.3)

piece-scalars : (n : Bool) (p : Piece) → IsReadablePiece n p → IsText (piece_text p)
piece-scalars n (Lit c) f = literal-scalars c f.1
piece-scalars n Any f = refl
piece-scalars n Run f = refl
piece-scalars n (OneOf []) f = absurd f
piece-scalars n (OneOf (c ∷ cs)) f = append-scalars (members_text (c ∷ cs)) (93 ∷ []) (members-scalars (c ∷ cs) f.2) refl

pieces-scalars : (n : Bool) (ps : List Piece) → AllByRecursion (IsReadablePiece n) ps → IsText (pieces_text ps)
pieces-scalars n [] f = refl
pieces-scalars n (p ∷ ps) f = append-scalars (piece_text p) (pieces_text ps) (piece-scalars n p f.0) (pieces-scalars n ps f.1)

choices-scalars : (n : Bool) (cs : List (List Piece)) → AllByRecursion (AllByRecursion (IsReadablePiece n)) cs → IsText (choices_text cs)
choices-scalars n [] f = refl
choices-scalars n (c ∷ []) f = pieces-scalars n c f.0
choices-scalars n (c ∷ d ∷ cs) f =
    append-scalars (pieces_text c) (44 ∷ choices_text (d ∷ cs)) (pieces-scalars n c f.0) (choices-scalars n (d ∷ cs) f.1)

part-scalars : (n : Bool) (p : Part) → IsReadablePart n p → IsText (pattern_part_text p)
part-scalars n (One p) f = piece-scalars n p f
part-scalars n (Brace []) f = absurd f
part-scalars n (Brace (c ∷ cs)) f = append-scalars (choices_text (c ∷ cs)) (125 ∷ []) (choices-scalars n (c ∷ cs) f) refl

pattern-scalars : (n : Bool) (ps : List Part) → AllByRecursion (IsReadablePart n) ps → IsText (pattern_text ps)
pattern-scalars n [] f = refl
pattern-scalars n (p ∷ ps) f = append-scalars (pattern_part_text p) (pattern_text ps) (part-scalars n p f.0) (pattern-scalars n ps f.1)

kind_word-scalars : (k : Kind) → IsText (kind_word k)
kind_word-scalars kind.Name = refl
kind_word-scalars kind.Path = refl
kind_word-scalars kind.BelowPath = refl

pub spec_text-scalars : (s : Specification) → IsReadable s → IsText (spec_text s)
spec_text-scalars s f =
    append-scalars (kind_word s.kind) (32 ∷ pattern_text s.pattern) (kind_word-scalars s.kind) (pattern-scalars (is_name_kind s.kind) s.pattern f.parts)

use Rattle.std.proofs.Common.{◌≡◌, ◌∙◌, ℕ, List, [], ◌∷◌, refl, sym, ap, subst, IfErr, OnOk}
use Rattle.std.specs.List.{flat_map}
use Rattle.hub_glob.specs.declared.piece.Piece.{Piece}
use Rattle.hub_glob.specs.declared.piece.Piece.TheVariants.{OneOf}
use Rattle.hub_automaton.specs.Alphabet as alphabet
use Rattle.hub_automaton.proofs.mentions.PieceMentioning.put_in.Goals as goal

singles : (cs : List ℕ) → flat_map (λ c. c ∷ []) cs ≡ cs
singles [] = refl
singles (c ∷ cs) = ap (λ ds. c ∷ ds) (singles cs)

-- The characters of a set, one by one, are those of its piece.
set_characters : (set : List ℕ) (p : Piece) → p ≡ OneOf set → flat_map (λ c. c ∷ []) set ≡ alphabet.piece_characters p
set_characters set p is = singles set ∙ ap alphabet.piece_characters (sym is)

pub returns-in-OneOf-clause-ok : goal.returns-in-OneOf-clause-ok
returns-in-OneOf-clause-ok c =
    subst (λ (cs : List ℕ). OnOk c.put_in-in-OneOf.result (c.put_in-in-OneOf.new.mentioned.items ≡ alphabet.with_characters c.args.mentioned.now.items cs))
    (set_characters c.in-OneOf.set c.args.self.now c.in-OneOf.is) c.put_in-in-OneOf.ensures.ok

pub returns-in-OneOf-clause-err : goal.returns-in-OneOf-clause-err
returns-in-OneOf-clause-err c =
    subst (λ (cs : List ℕ). IfErr c.put_in-in-OneOf.result (alphabet.RefusesCharacters c.args.mentioned.now.items cs)) (set_characters c.in-OneOf.set c.args.self.now c.in-OneOf.is)
    c.put_in-in-OneOf.ensures.err

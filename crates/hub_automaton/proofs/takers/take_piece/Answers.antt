use Rattle.hub_automaton.proofs.Takings.{lit_taken, set_taken}
use Rattle.hub_automaton.proofs.takers.take_piece.Goals as goal

pub returns-in-Lit : goal.returns-in-Lit
returns-in-Lit c = λ kind. lit_taken c.args.alphabet.now c.args.takers.now c.take_character.new.takers c.args.place kind c.args.piece.now c.in-Lit.character c.in-Lit.is c.take_character.ensures

pub returns-in-OneOf : goal.returns-in-OneOf
returns-in-OneOf c = λ kind.
    set_taken c.args.alphabet.now c.args.takers.now c.take_set.new.takers c.args.place kind c.args.piece.now c.in-OneOf.set c.as_slice.result.now c.in-OneOf.is c.as_slice.ensures c.take_set.ensures

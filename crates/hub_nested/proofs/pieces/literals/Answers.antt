use Rattle.std.proofs.Common.{◌≡◌, ◌++◌, [], ◌∷◌, List, ap, sym, ◌∙◌, chars}
use Rattle.std.proofs.lemmas.Iterator.{YieldsList-from_chars}
use Rattle.std.proofs.lemmas.Iterator.Consumers.{YieldsList-end}
use Rattle.std.proofs.lemmas.List.{map-append, map-id}
use Rattle.hub_glob.specs.declared.piece.Piece.{Piece}
use Rattle.hub_glob.specs.declared.piece.Piece.TheVariants.{Lit}
use Rattle.hub_nested.specs.Lifted.{literal}
use Rattle.hub_nested.proofs.pieces.literals.Goals as goal

pub loop-character-preserved : goal.loop-character-preserved
loop-character-preserved c =
    let x = c.in-Some.character in
    c.in_ok-push.ensures.ok ∙ ap (λ (ps : List Piece). ps ++ Lit x ∷ []) c.loop-character.invariant
    ∙ sym (map-append (λ d. Lit d) c.loop-character.yielded (x ∷ []))

pub returns : goal.returns
returns c =
    let all = YieldsList-end (YieldsList-from_chars c.args.text.now c.utf8.text cc) c.loop-character.yielded _ c.loop-character.yielded_by _ _ c.in-None.is c.next.ensures.steps in
    let read : c.loop-character.yielded ≡ chars c.args.text.now = sym (map-id c.loop-character.yielded) ∙ all.0 in
    c.loop-character.invariant ∙ ap literal read

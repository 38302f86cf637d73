use Rattle.std.proofs.Common.{◌≡◌, [], ◌∷◌, ◌++◌, map, ap, ◌∙◌}
use Rattle.hub_path.specs.Path.{text_of}
use Rattle.hub_glob.specs.declared.piece.Piece.TheVariants.{Lit}
use Rattle.hub_automaton.proofs.Paths.{text_chars}
use Rattle.hub_automaton.proofs.builder.path_choices.Goals as goal

pub returns : goal.returns
returns c =
    let p = c.args.path.now in
    let one : c.in_ok-literals.field-0 ≡ map Lit (text_of p) =
    c.in_ok-literals.ensures ∙ ap (map Lit) (text_chars p c.as_str.result.now c.len-valid.ensures.valid (c.as_str.ensures.value ∙ c.in_ok-text.ensures)) in
    c.in_ok-push.ensures.ok ∙ (λ j. c.new-choices.ensures j ++ one j ∷ [])

use Rattle.std.proofs.Common.{refl, sym, ap, ◌∙◌, map}
use Rattle.std.specs.List.{list_any}
use Rattle.hub_path.specs.Path.{text_of}
use Rattle.hub_text.specs.laws.Test.{any-map}
use Rattle.hub_automaton.specs.Spots.{alternatives_of, is_matched}
use Rattle.hub_automaton.proofs.SpecStates.{same_matches}
use Rattle.hub_automaton.proofs.Spotted.{specs_law}
use Rattle.hub_automaton.proofs.laws.what_is_kept_tells_what_matches.Goals as goal

pub returns : goal.returns
returns c = λ specs p q h k same.
    let ls = map alternatives_of specs in
    sym (specs_law ls specs p refl h) ∙ any-map (λ b. b) (λ a. is_matched a (text_of p)) ls ∙ ap (list_any (λ b. b)) (same_matches ls (text_of p) (text_of q) same)
    ∙ sym (any-map (λ b. b) (λ a. is_matched a (text_of q)) ls) ∙ specs_law ls specs q refl k

use Rattle.std.proofs.Common.{◌≡◌, ◌+◌, ◌∙◌, ℕ, List, Option, sym, ap, rules, tests}
use Rattle.std.specs.List.{position}
use Rattle.std.specs.Option.{option_map}
use Rattle.std.proofs.lemmas.Iterator.Search.{position_from_yields_List}
use Rattle.hub_text.specs.declared.line.Line.{Line}
use Rattle.hub_text.specs.Lines.{lines_of}
use Rattle.hub_text.specs.Takes.{of_bytes}
use Rattle.hub_text.specs.laws.Takes.{YieldsList-lines}
use Rattle.hub_bundle.specs.Files.{heading_line, is_heading}
use Rattle.hub_bundle.proofs.part.heading_line.Goals as goal

abbrev number_of : Option ℕ → Option ℕ
number_of index = option_map (λ i. i + 1) index

pub returns-in_err-index : goal.returns-in_err-index
returns-in_err-index c =
    let found : c.position.result ≡ position (λ (l : Line (List ℕ)). is_heading l.text) (lines_of c.new.result) =
    position_from_yields_List (λ (l : Line (List ℕ)). is_heading l.text) c.position.new.self _ c.position.result c.position.ensures.ran (YieldsList-lines of_bytes c.new.result) (λ x b q k. search (rules, tests)) in
    c.from_residual.ensures ∙ (ap number_of (sym c.in_err-index.was ∙ found) ∙ ap (λ s. heading_line (lines_of s)) c.new.ensures)

pub returns : goal.returns
returns c =
    let found : c.position.result ≡ position (λ (l : Line (List ℕ)). is_heading l.text) (lines_of c.new.result) =
    position_from_yields_List (λ (l : Line (List ℕ)). is_heading l.text) c.position.new.self _ c.position.result c.position.ensures.ran (YieldsList-lines of_bytes c.new.result) (λ x b q k. search (rules, tests)) in
    ap number_of (sym c.in_ok-index.was ∙ found) ∙ ap (λ s. heading_line (lines_of s)) c.new.ensures

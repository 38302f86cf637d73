use Rattle.std.proofs.Common.{◌≡◌, ◌∙◌, ◌+◌, true, false, ℕ, List, Option, Some, None, refl, sym, ap, rules, tests}
use Rattle.std.specs.Option.{option_map}
use Rattle.std.proofs.lemmas.Iterator.Search.{find_from_yields_List}
use denote.Ref.{Bor}
use Rattle.hub_text.specs.declared.line.Line.{Line}
use Rattle.hub_text.specs.Lines.{lines_of}
use Rattle.hub_text.specs.Takes.{of_bytes}
use Rattle.hub_text.specs.laws.Takes.{yields-numbered_lines}
use Rattle.hub_bundle.proofs.Lines.{ends_blank, unless_heading, stray_line-find}
use Rattle.hub_bundle.proofs.bundle.stray_line_of.Goals as goal
use Rattle.hub_bundle.specs.Files.{is_heading}

-- The result, by what `find` returned.
abbrev after_find : Option (ℕ × Line (Bor (List ℕ))) → Option ℕ
after_find r = unless_heading (option_map (λ (p : ℕ × Line (Bor (List ℕ))). (p.0, of_bytes p.1)) r)

pub returns-in_err-index : goal.returns-in_err-index
returns-in_err-index c =
    let bytes = c.args.bytes.now in
    let found = find_from_yields_List ends_blank c.find.new.self _ c.find.result c.find.ensures.ran (yields-numbered_lines of_bytes {s = c.enumerate.result} bytes (cc) (cc)) (λ x b q k. search (rules, tests)) in
    c.from_residual.ensures ∙ (ap after_find (sym c.in_err-index.was) ∙ (ap unless_heading found ∙ stray_line-find 0 (lines_of bytes)))

pub returns-then-is_heading : goal.returns-then-is_heading
returns-then-is_heading c =
    let bytes = c.args.bytes.now in
    let found = find_from_yields_List ends_blank c.find.new.self _ c.find.result c.find.ensures.ran (yields-numbered_lines of_bytes {s = c.enumerate.result} bytes (cc) (cc)) (λ x b q k. search (rules, tests)) in
    let heading : is_heading c.in_ok-index.line.text.now ≡ true = sym c.is_heading.ensures ∙ c.if-is_heading.true in
    let none : after_find (Some (c.in_ok-index.index, c.in_ok-index.line)) ≡ None = rw heading refl in
    sym none ∙ (ap after_find (sym c.in_ok-index.was) ∙ (ap unless_heading found ∙ stray_line-find 0 (lines_of bytes)))

pub returns : goal.returns
returns c =
    let bytes = c.args.bytes.now in
    let found = find_from_yields_List ends_blank c.find.new.self _ c.find.result c.find.ensures.ran (yields-numbered_lines of_bytes {s = c.enumerate.result} bytes (cc) (cc)) (λ x b q k. search (rules, tests)) in
    let plain : is_heading c.in_ok-index.line.text.now ≡ false = sym c.is_heading.ensures ∙ c.if-is_heading.false in
    let some : after_find (Some (c.in_ok-index.index, c.in_ok-index.line)) ≡ Some (c.in_ok-index.index + 1) = rw plain refl in
    sym some ∙ (ap after_find (sym c.in_ok-index.was) ∙ (ap unless_heading found ∙ stray_line-find 0 (lines_of bytes)))

use Rattle.std.proofs.Common.{rules, tests, refl, sym, ap, ◌∙◌, ℕ, List, Bool, Option, bytes_eq}
use Rattle.std.specs.Option.{option_map}
use Rattle.std.proofs.lemmas.Iterator.{YieldsList-from_slice}
use Rattle.std.proofs.lemmas.Iterator.Search.{find_from_yields_List}
use denote.Ref.{Bor}
use Rattle.hub_profile.specs.LineByLine.{rows_of}
use Rattle.hub_profile.proofs.Words.{look_up-find}
use Rattle.hub_profile.proofs.line_by_line.named.Goals as goal

-- Whether a row has a name, and what is beside it.
abbrev has_name : {K : Type 0} → List ℕ → Bor (List ℕ) × K → Bool
has_name name row = bytes_eq row.0.now name

abbrev beside : {K : Type 0} → Option (Bor (List ℕ) × K) → Option K
beside {K = K} r = option_map (λ (row : Bor (List ℕ) × K). row.1) r

abbrev key_in : {K : Type 0} → Option (Bor (Bor (List ℕ) × K)) → Option K
key_in {K = K} r = beside (option_map (λ (row : Bor (Bor (List ℕ) × K)). row.now) r)

pub returns-in_err-key : goal.returns-in_err-key
returns-in_err-key g c = λ words.
    let rows = c.iter.result.rest.now in
    let test = has_name c.args.name.now in
    let found = find_from_yields_List {all = rows} test _ _ c.find.result c.find.ensures.ran (YieldsList-from_slice rows refl) (λ x b q k. search (rules, tests)) in
    c.from_residual.ensures ∙ (ap key_in (sym c.in_err-key.was) ∙ (ap beside found ∙ look_up-find c.args.name.now rows (rows_of c.args.rows.now) c.utf8.name (ap rows_of c.iter.ensures.rest) words))

pub returns : goal.returns
returns g c = λ words.
    let rows = c.iter.result.rest.now in
    let test = has_name c.args.name.now in
    let found = find_from_yields_List {all = rows} test _ _ c.find.result c.find.ensures.ran (YieldsList-from_slice rows refl) (λ x b q k. search (rules, tests)) in
    ap key_in (sym c.in_ok-key.was) ∙ (ap beside found ∙ look_up-find c.args.name.now rows (rows_of c.args.rows.now) c.utf8.name (ap rows_of c.iter.ensures.rest) words)

use Rattle.std.proofs.Common.{rules, tests, refl, sym, ap, ◌∙◌, ℕ, List, Bool, Option, bytes_eq}
use Rattle.std.specs.Option.{option_map}
use Rattle.std.proofs.lemmas.Iterator.{YieldsList-from_slice}
use Rattle.std.proofs.lemmas.Iterator.Search.{find_from_yields_List}
use denote.Ref.{Bor}
use Rattle.hub_preferences.specs.Table.{means, meanings_of}
use Rattle.hub_preferences.specs.declared.table.Preference.{Preference}
use Rattle.hub_preferences.specs.declared.table.Meaning.{Meaning}
use Rattle.hub_preferences.proofs.Words.{look_up-find}
use Rattle.hub_preferences.proofs.table.named.Goals as goal

-- Whether a row has a name, and what is beside it.
abbrev has_name : List ℕ → Bor (List ℕ) × Preference → Bool
has_name name row = bytes_eq row.0.now name

abbrev beside : Option (Bor (List ℕ) × Preference) → Option Meaning
beside r = option_map (λ (row : Bor (List ℕ) × Preference). means row.1.rule row.1.effect) r

abbrev key_in : Option (Bor (Bor (List ℕ) × Preference)) → Option Meaning
key_in r = beside (option_map (λ (row : Bor (Bor (List ℕ) × Preference)). row.now) r)

pub returns-in_err-preference : goal.returns-in_err-preference
returns-in_err-preference c = λ table same words.
    let rows = c.iter.result.rest.now in
    let test = has_name c.args.name.now in
    let found = find_from_yields_List {all = rows} test _ _ c.find.result c.find.ensures.ran (YieldsList-from_slice rows refl) (λ x b q k. search (rules, tests)) in
    c.from_residual.ensures ∙ (ap key_in (sym c.in_err-preference.was) ∙ (ap beside found ∙ look_up-find c.args.name.now rows table c.utf8.name (ap meanings_of c.iter.ensures.rest ∙ same) words))

pub returns : goal.returns
returns c = λ table same words.
    let rows = c.iter.result.rest.now in
    let test = has_name c.args.name.now in
    let found = find_from_yields_List {all = rows} test _ _ c.find.result c.find.ensures.ran (YieldsList-from_slice rows refl) (λ x b q k. search (rules, tests)) in
    ap key_in (sym c.in_ok-preference.was) ∙ (ap beside found ∙ look_up-find c.args.name.now rows table c.utf8.name (ap meanings_of c.iter.ensures.rest ∙ same) words)

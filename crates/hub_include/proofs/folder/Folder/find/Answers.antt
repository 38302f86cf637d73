use Rattle.std.proofs.Common.{◌≡◌, ◌∙◌, Some, sym, ap, string_bytes}
use Rattle.std.proofs.lemmas.Map.Lookups.{exact_bytes}
use Rattle.hub_include.specs.Files as files
use Rattle.hub_include.proofs.folder.Folder.find.Goals as goal

pub returns-in-Some : goal.returns-in-Some
returns-in-Some c =
    let p = c.in-Some in
    let name = c.args.name.now in
    let key : name ≡ string_bytes p.name.now = exact_bytes name (string_bytes p.name.now) p.ensures.same_key in
    c.found_as.ensures
    ∙ (ap (λ n. files.found_as n (Some p.bytes.now)) (c.as_str.ensures.value ∙ sym key)
    ∙ ap (files.found_as name) p.ensures.value)

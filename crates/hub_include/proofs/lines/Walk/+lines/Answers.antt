use Rattle.std.proofs.Common.{◌≡◌, ◌∙◌, ◌⊎◌, ◌-◌, List, ℕ, ◌∷◌, [], ◌++◌, Ok, Err, OnOk, IfErr, map, sym, ap, subst, arith}
use Rattle.std.proofs.lemmas.List.{map-append}
use denote.Ref.{Bor}
use Rattle.hub_include.specs.declared.fault.LinesFault.TheVariants.{OutOfMemory}
use Rattle.hub_include.specs.Files.{known_of, of_file}
use Rattle.hub_include.specs.Includes.{Told, add_file, follow, of_line}
use Rattle.hub_include.proofs.Following.{follow-open}
use Rattle.hub_include.proofs.lines.Walk.+lines.Goals as goal

pub push_file-returns-clause-ok : goal.push_file-returns-clause-ok
push_file-returns-clause-ok t c =
    let known = known_of c.args.self.now.folder.now in
    let names = map (λ (o : Bor (List ℕ)). o.now) c.args.opened.now in
    let f = of_file c.args.file in
    let done = map of_line c.args.lines.now.items in
    let items : c.as_slice.result.now ≡ c.args.opened.now ++ c.args.file.name ∷ [] =
    c.as_slice.ensures.value ∙ (c.in_ok-push.ensures.items ∙ ap (λ xs. xs ++ c.args.file.name ∷ []) c.in_ok-within.ensures.items) in
    let named : map (λ (o : Bor (List ℕ)). o.now) c.as_slice.result.now ≡ names ++ f.name ∷ [] =
    ap (map (λ (o : Bor (List ℕ)). o.now)) items ∙ map-append (λ (o : Bor (List ℕ)). o.now) c.args.opened.now (c.args.file.name ∷ []) in
    let added : List (List ℕ) → Told = λ ns. add_file (follow known (c.args.left - 1) ns) known ns f done in
    let same : follow known c.args.left names (of_line c.args.at) f done ≡ added (map (λ (o : Bor (List ℕ)). o.now) c.as_slice.result.now) =
    follow-open known c.args.left names (of_line c.args.at) f done (omega arith) ∙ ap added (sym named) in
    subst (λ (told : Told). OnOk c.push_lines.result (told ≡ Ok (map of_line c.push_lines.new.lines.items))) (sym same) c.push_lines.ensures.ok

pub push_file-returns-clause-err : goal.push_file-returns-clause-err
push_file-returns-clause-err t c =
    let known = known_of c.args.self.now.folder.now in
    let names = map (λ (o : Bor (List ℕ)). o.now) c.args.opened.now in
    let f = of_file c.args.file in
    let done = map of_line c.args.lines.now.items in
    let items : c.as_slice.result.now ≡ c.args.opened.now ++ c.args.file.name ∷ [] =
    c.as_slice.ensures.value ∙ (c.in_ok-push.ensures.items ∙ ap (λ xs. xs ++ c.args.file.name ∷ []) c.in_ok-within.ensures.items) in
    let named : map (λ (o : Bor (List ℕ)). o.now) c.as_slice.result.now ≡ names ++ f.name ∷ [] =
    ap (map (λ (o : Bor (List ℕ)). o.now)) items ∙ map-append (λ (o : Bor (List ℕ)). o.now) c.args.opened.now (c.args.file.name ∷ []) in
    let added : List (List ℕ) → Told = λ ns. add_file (follow known (c.args.left - 1) ns) known ns f done in
    let same : follow known c.args.left names (of_line c.args.at) f done ≡ added (map (λ (o : Bor (List ℕ)). o.now) c.as_slice.result.now) =
    follow-open known c.args.left names (of_line c.args.at) f done (omega arith) ∙ ap added (sym named) in
    subst (λ (told : Told). IfErr c.push_lines.result (λ e. e ≡ OutOfMemory ⊎ told ≡ Err e)) (sym same) c.push_lines.ensures.err

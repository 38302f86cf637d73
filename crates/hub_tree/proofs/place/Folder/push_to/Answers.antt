use Rattle.std.proofs.Common.{List, ℕ, [], ◌∷◌, ◌++◌, ap, sym, ◌∙◌}
use Rattle.std.specs.Str.{encode_utf8_all}
use Rattle.hub_path.specs.Path.{text_of}
use Rattle.hub_path.specs.Shared.{shared_names}
use Rattle.hub_tree.proofs.Places.{appended-below}
use Rattle.hub_tree.proofs.place.Folder.push_to.Goals as goal

pub returns-in_ok-push-clause-text : goal.returns-in_ok-push-clause-text
returns-in_ok-push-clause-text c n =
    let old : List ℕ = c.args.text.now.items in
    let same = c.deref.ensures ∙ ap shared_names (sym c.in-Some.is) ∙ c.self.view_is in
    ap (λ t. t ++ encode_utf8_all n)
    (c.in_ok-push.ensures.items ∙ ap (λ t. t ++ 47 ∷ []) (c.in_ok-extend_from_slice.ensures.items ∙ ap (λ t. old ++ t) c.bytes.ensures.bytes))
    ∙ appended-below old c.deref.result.now n c.bytes.ensures.some
    ∙ ap (λ p. old ++ encode_utf8_all (text_of (p ++ n ∷ []))) same

use Rattle.std.proofs.Common.{◌≡◌, List, ℕ, [], ◌++◌, true, ap, sym, ◌∙◌, subst}
use Rattle.std.specs.Prelude.{chars}
use Rattle.std.specs.Str.{encode_utf8_all}
use Rattle.hub_path.specs.Path.{Path, is_place, path_of, text_of}
use Rattle.hub_path.specs.laws.ReadBack.{path-place}
use Rattle.hub_tree.proofs.Places.{names-of-text}
use Rattle.hub_tree.proofs.place.Place.folder.Goals as goal

pub invariant_of-new : goal.invariant_of-new
invariant_of-new c =
    let p : Path = c.args.self.now in
    let text = c.in_ok-push_to.ensures.text ∙ ap (λ t. t ++ encode_utf8_all (text_of p)) c.in_ok-bytes.ensures.items in
    let names = ap (λ t. path_of (chars t)) text ∙ names-of-text p c.in_ok-push_to.ensures.valid in
    text ∙ ap (λ q. encode_utf8_all (text_of q)) (sym names)

pub invariant_of-result : goal.invariant_of-result
invariant_of-result c =
    let p : Path = c.args.self.now in
    let text = c.in_ok-push_to.ensures.text ∙ ap (λ t. t ++ encode_utf8_all (text_of p)) c.in_ok-bytes.ensures.items in
    let names = ap (λ t. path_of (chars t)) text ∙ names-of-text p c.in_ok-push_to.ensures.valid in
    subst (λ (q : Path). is_place q ≡ true) (sym (c.in_ok-new.ensures.ok ∙ names)) (path-place p c.in_ok-push_to.ensures.valid)

pub returns : goal.returns
returns c =
    let p : Path = c.args.self.now in
    let text = c.in_ok-push_to.ensures.text ∙ ap (λ t. t ++ encode_utf8_all (text_of p)) c.in_ok-bytes.ensures.items in
    c.in_ok-new.ensures.ok ∙ ap (λ t. path_of (chars t)) text ∙ names-of-text p c.in_ok-push_to.ensures.valid

use Rattle.std.proofs.Common.{◌≡◌, ◌++◌, [], ◌∷◌, sym, ap, ◌∙◌, subst}
use Rattle.std.specs.Prelude.{IfOk, IsTrue}
use Rattle.hub_path.specs.Path.{Name, Path, is_name, is_place}
use Rattle.hub_path.specs.laws.General.{is_place-push}
use Rattle.hub_path.proofs.rel_path.RelPath.child.Goals as goal

pub sharing-requires : goal.sharing-requires
sharing-requires c =
    let names = c.in_ok-push.ensures.items ∙ ap (λ (ns : Path). ns ++ c.args.name ∷ []) (c.in_ok-names.ensures ∙ c.names.ensures.names) in
    subst (λ (ns : Path). IsTrue (is_place ns)) (sym names)
    (is_place-push c.args.self.now c.args.name c.names.ensures.valid (subst (λ (n : Name). IsTrue (is_name n)) c.name.view_is c.name.invariant))

pub returns : goal.returns
returns c =
    let names = c.in_ok-push.ensures.items ∙ ap (λ (ns : Path). ns ++ c.args.name ∷ []) (c.in_ok-names.ensures ∙ c.names.ensures.names) in
    subst (λ (ns : Path). IfOk c.sharing.result (λ p. p ≡ ns)) names c.sharing.ensures

use Rattle.std.proofs.Common.{List, [], ◌∷◌, ◌++◌, sym, ap, subst, ◌∙◌}
use Rattle.std.specs.FinMap as fin
use Rattle.hub_path.specs.Path.{Path}
use Rattle.hub_tree.specs.Marked.{with_entries}
use Rattle.hub_tree.specs.declared.contents.Mark.{Mark}
use Rattle.hub_tree.proofs.Inserted.{IsGood, good_more}
use Rattle.hub_tree.specs.laws.MarkMaps.{is_path-names}
use Rattle.hub_tree.proofs.archive.builder.ArchiveBuilder.push.Goals as goal

pub invariant_of-self-in_ok-push : goal.invariant_of-self-in_ok-push
invariant_of-self-in_ok-push c =
    let done : List (Path × Mark) = c.self.inside.marks.items in
    subst (λ (es : List (Path × Mark)). IsGood (with_entries fin.empty es))
    (sym (c.in_ok-push.ensures.items ∙ ap (λ (p : Path). done ++ (p, c.in-Some.mark) ∷ []) c.in_ok-copy.ensures))
    (good_more done c.args.path.now c.args.mark c.in-Some.mark c.self.invariant (is_path-names _ c.requires c.len-names.ensures.valid) c.has_digest.ensures (sym c.in-Some.ensures))

pub invariant_of-self-in_err-push : goal.invariant_of-self-in_err-push
invariant_of-self-in_err-push c = subst (λ (es : List (Path × Mark)). IsGood (with_entries fin.empty es)) (sym c.in_err-push.ensures.items) c.self.invariant

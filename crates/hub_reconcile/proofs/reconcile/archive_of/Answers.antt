use Rattle.std.proofs.Common.{List, ◌++◌, sym, ap, subst, ◌∙◌}
use Rattle.std.specs.FinMap as fin
use Rattle.std.specs.List.{flat_map}
use Rattle.std.proofs.lemmas.Result.{IfOk-weaker}
use Rattle.hub_path.specs.Path.{Path}
use Rattle.hub_tree.specs.Marked.{with_entries}
use Rattle.hub_tree.specs.Tree.{Archive, IsArchive}
use Rattle.hub_tree.specs.declared.contents.Mark.{Mark}
use Rattle.hub_reconcile.specs.forms.Groups.{HaveMarkNames, group_marks, kept_marks}
use Rattle.hub_reconcile.specs.Merge.{told_marks}
use Rattle.hub_reconcile.specs.Picture.{told_by}
use Rattle.hub_reconcile.specs.Shown.{shown}
use Rattle.hub_reconcile.specs.Sync.{of_side}
use Rattle.hub_reconcile.proofs.Partitions.{have_all_names}
use Rattle.hub_reconcile.proofs.Pictured.{named}
use Rattle.hub_reconcile.proofs.Renewed.{others_named, renewed}
use Rattle.hub_reconcile.proofs.reconcile.archive_of.Goals as goal

pub keep_all-requires : goal.keep_all-requires
keep_all-requires c =
    let V = c.args.picture.now in
    subst (λ (es : List (Path × Mark)). HaveMarkNames es) (sym c.requires.others)
    (others_named V.profile.now V.archive.now (of_side (told_by V.left.now) (told_by V.right.now)) (subst (λ (a : Archive). IsArchive a) c.archive.ensures c.mark_at-top.ensures.archive))

pub add_marks-requires : goal.add_marks-requires
add_marks-requires c = let V = c.args.picture.now in have_all_names (shown V) (named V) _ c.requires.groups.groups

pub returns : goal.returns
returns c =
    let V = c.args.picture.now in
    IfOk-weaker c.build.result _ _
    (λ (a : Archive) e.
    e
    ∙ (ap (with_entries fin.empty)
    (c.in_ok-add_marks.ensures
    ∙ (ap (λ (es : List (Path × Mark)). es ++ kept_marks (flat_map group_marks c.args.groups.now)) (c.in_ok-keep_all.ensures ∙ ap (λ (es : List (Path × Mark)). es ++ kept_marks (told_marks c.args.others.now)) c.new-marks.ensures)
    ∙ ap (λ (es : List (Path × Mark)). kept_marks es ++ kept_marks (flat_map group_marks c.args.groups.now)) c.requires.others))
    ∙ renewed V.profile.now V.archive.now (of_side (told_by V.left.now) (told_by V.right.now)) (subst (λ (a : Archive). IsArchive a) c.archive.ensures c.mark_at-top.ensures.archive) c.args.groups.now c.requires.groups))
    c.build.ensures

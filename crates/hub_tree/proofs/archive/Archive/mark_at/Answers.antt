use Rattle.std.proofs.Common.{sym, ap, ◌∙◌}
use Rattle.std.specs.Option.{unwrap_or}
use Rattle.std.specs.FinMap.{get-from_entries}
use Rattle.hub_tree.specs.Tree.{old_mark_at}
use Rattle.hub_tree.specs.declared.contents.Mark.TheVariants.{Absent}
use Rattle.hub_tree.specs.laws.Order.{path_total}
use Rattle.hub_tree.proofs.archive.Archive.mark_at.Goals as goal

pub returns-in-Some-clause-mark : goal.returns-in-Some-clause-mark
returns-in-Some-clause-mark c =
    let p = c.args.path.now in
    ap (λ o. unwrap_or o Absent) (c.in-Some.ensures.value ∙ sym (get-from_entries path_total c.self.inside.marks.entries p)) ∙ ap (λ a. old_mark_at a p) c.self.view_is

pub returns-in-None-clause-mark : goal.returns-in-None-clause-mark
returns-in-None-clause-mark c =
    let p = c.args.path.now in
    ap (λ o. unwrap_or o Absent) (c.in-None.ensures.value ∙ sym (get-from_entries path_total c.self.inside.marks.entries p)) ∙ ap (λ a. old_mark_at a p) c.self.view_is

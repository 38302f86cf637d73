use Rattle.std.proofs.Common.{T, List, [], ◌∷◌, ◌++◌, sym, ap, ◌∙◌, subst}
use Rattle.std.specs.FinMap.Entries.{is_sorted}
use Rattle.hub_path.specs.Path.{Name, name_cmp}
use Rattle.hub_tree.specs.Levels.{all_ascend}
use Rattle.hub_tree.specs.Nodes.{kids_of}
use Rattle.hub_tree.specs.declared.entries.Level.{Level}
use Rattle.hub_tree.specs.declared.node.Node.{Node}
use Rattle.hub_tree.specs.laws.Ascending.{is_sorted-from}
use Rattle.hub_tree.proofs.LookUp.{kids-file, kids-directory}
use Rattle.hub_tree.proofs.Walk.{entered_file, entered_directory, ascend-push}
use Rattle.hub_tree.proofs.entries.enter.Goals as goal

pub returns-in-File-clause-left : goal.returns-in-File-clause-left
returns-in-File-clause-left c =
    entered_file c.args.levels.now.items c.push.new.self.items c.args.level c.args.name.now c.args.node.now c.in_ok-push.ensures.items
    (ap kids_of c.in-File.is ∙ kids-file c.in-File.blob)

pub returns-in-File-clause-ascend : goal.returns-in-File-clause-ascend
returns-in-File-clause-ascend c =
    subst (λ (ls : List Level). T (all_ascend ls)) (sym c.in_ok-push.ensures.items) (ascend-push c.args.levels.now.items c.args.level c.requires.levels c.requires.level)

pub returns-in_ok-push-in-Directory-clause-left : goal.returns-in_ok-push-in-Directory-clause-left
returns-in_ok-push-in-Directory-clause-left c =
    let inner : Level = record { path = c.in_ok-folder-in-Directory.field-0; children = c.iter.result } in
    entered_directory c.args.levels.now.items c.push.new.self.items c.push-in-Directory.new.self.items c.args.level inner c.args.name.now c.args.node.now c.deref.result.now.entries
    c.in_ok-push.ensures.items c.in_ok-push-in-Directory.ensures.items
    (c.in_ok-folder-in-Directory.ensures ∙ c.in_ok-path.ensures)
    c.iter.ensures.rest (ap kids_of c.in-Directory.is ∙ kids-directory c.in-Directory.children ∙ ap (λ m. m.entries) (sym c.deref.ensures))

pub returns-in_ok-push-in-Directory-clause-ascend : goal.returns-in_ok-push-in-Directory-clause-ascend
returns-in_ok-push-in-Directory-clause-ascend c =
    let inner : Level = record { path = c.in_ok-folder-in-Directory.field-0; children = c.iter.result } in
    let sorted : T (is_sorted name_cmp inner.children) = subst (λ (cs : List (Name × Node)). T (is_sorted name_cmp cs)) (sym c.iter.ensures.rest) (is_sorted-from name_cmp _ c.iter.ensures.ordered) in
    let first : T (all_ascend c.push.new.self.items) = subst (λ (ls : List Level). T (all_ascend ls)) (sym c.in_ok-push.ensures.items) (ascend-push c.args.levels.now.items c.args.level c.requires.levels c.requires.level) in
    subst (λ (ls : List Level). T (all_ascend ls)) (sym c.in_ok-push-in-Directory.ensures.items) (ascend-push c.push.new.self.items inner first sorted)

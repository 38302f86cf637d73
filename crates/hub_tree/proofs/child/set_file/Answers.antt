use Rattle.std.proofs.Common.{refl, sym, ◌∙◌}
use Rattle.hub_tree.specs.declared.contents.Contents.TheVariants.{File}
use Rattle.hub_tree.proofs.Setting.{occupied_fault, is_refused}
use Rattle.hub_tree.proofs.child.set_file.Goals as goal

pub returns-then-is_occupied : goal.returns-then-is_occupied
returns-then-is_occupied c = is_refused (occupied_fault c.args.children.now.entries c.args.name.now (File c.args.blob) refl (sym c.is_occupied.ensures ∙ c.if-is_occupied.true)) refl

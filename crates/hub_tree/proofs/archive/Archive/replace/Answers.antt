use Rattle.std.proofs.Common.{List, sym, ap, subst, refl, Some, ◌∙◌}
use Rattle.std.specs.FinMap.{from_entries, get-from_entries}
use Rattle.std.specs.FinMap.Entries.{find}
use Rattle.std.specs.Option.{unwrap_or}
use Rattle.hub_path.specs.Path.{Path, path_cmp}
use Rattle.hub_tree.specs.Tree.{Archive, old_mark_at, with_kept, IsArchive, HasPaths, HasDigests}
use Rattle.hub_tree.specs.declared.contents.Mark.{Mark}
use Rattle.hub_tree.specs.declared.contents.Mark.TheVariants.{Absent}
use Rattle.hub_tree.specs.laws.MarkMaps.{changed_marks, IsArchive-set, is_path-names}
use Rattle.hub_tree.specs.laws.Order.{path_total}
use Rattle.hub_tree.proofs.Inserted.{IsGood}
use Rattle.hub_tree.proofs.archive.Archive.replace.Goals as goal

pub returns-in-None-clause-ok : goal.returns-in-None-clause-ok
returns-in-None-clause-ok c =
    changed_marks _ _ _ _ _ c.self.view_is c.remove-old.ensures.updates.0
    ∙ ap (with_kept c.args.self.now c.args.path.now) (sym c.in-None.is ∙ c.kept.ensures)

pub invariant_of-self : goal.invariant_of-self
invariant_of-self c =
    let old : Archive = from_entries c.self.inside.marks.entries in
    subst (λ (a : Archive). IsArchive a × HasPaths a × HasDigests a)
    (sym (changed_marks _ _ old _ _ refl c.remove-old.ensures.updates.0 ∙ ap (with_kept old c.args.path.now) (sym c.in-None.is ∙ c.kept.ensures)))
    (IsArchive-set old c.args.path.now c.args.mark c.self.invariant (is_path-names _ c.requires c.len-names.ensures.valid) c.has_digest.ensures)

pub returns-in_ok-old-in-Some-clause-ok : goal.returns-in_ok-old-in-Some-clause-ok
returns-in_ok-old-in-Some-clause-ok c =
    changed_marks _ _ _ _ _ c.self.view_is c.in_ok-old-in-Some.ensures.updates.0
    ∙ ap (λ p. with_kept c.args.self.now p (Some c.in-Some.mark)) c.in_ok-copy-in-Some.ensures
    ∙ ap (with_kept c.args.self.now c.args.path.now) c.in-Some.ensures

pub invariant_of-self-in-Some : goal.invariant_of-self-in-Some
invariant_of-self-in-Some c =
    let old : Archive = from_entries c.self.inside.marks.entries in
    subst (λ (a : Archive). IsArchive a × HasPaths a × HasDigests a)
    (sym (changed_marks _ _ old _ _ refl c.in_ok-old-in-Some.ensures.updates.0
    ∙ ap (λ p. with_kept old p (Some c.in-Some.mark)) c.in_ok-copy-in-Some.ensures
    ∙ ap (with_kept old c.args.path.now) c.in-Some.ensures))
    (IsArchive-set old c.args.path.now c.args.mark c.self.invariant (is_path-names _ c.requires c.len-names.ensures.valid) c.has_digest.ensures)

pub returns-in-None-clause-old : goal.returns-in-None-clause-old
returns-in-None-clause-old c =
    let p = c.args.path.now in
    c.unwrap_or.ensures ∙ ap (λ o. unwrap_or o Absent) (c.remove-old.ensures.value ∙ sym (get-from_entries path_total c.self.inside.marks.entries p))
    ∙ ap (λ (a : Archive). old_mark_at a p) c.self.view_is

pub returns-in_ok-old-in-Some-clause-old : goal.returns-in_ok-old-in-Some-clause-old
returns-in_ok-old-in-Some-clause-old c =
    let p = c.args.path.now in
    c.unwrap_or-in-Some.ensures
    ∙ ap (λ o. unwrap_or o Absent)
    (c.in_ok-old-in-Some.ensures.old ∙ ap (λ (q : Path). find path_cmp q c.self.inside.marks.entries) c.in_ok-copy-in-Some.ensures
    ∙ sym (get-from_entries path_total c.self.inside.marks.entries p))
    ∙ ap (λ (a : Archive). old_mark_at a p) c.self.view_is

pub invariant_of-self-in_err-old-in-Some : goal.invariant_of-self-in_err-old-in-Some
invariant_of-self-in_err-old-in-Some c = subst (λ (es : List (Path × Mark)). IsGood (from_entries {R = path_cmp} es)) (sym c.in_err-old-in-Some.ensures.err) c.self.invariant

use Rattle.std.proofs.Common.{◌≡◌, ◌≤◌, ℕ, true, ◌∷◌, take, length, Some, ap, sym, ◌∙◌, subst}
use Rattle.std.proofs.lemmas.List.{length-take-le}
use Rattle.std.proofs.lemmas.List.Sums.{prefix_len-le-length}
use Rattle.hub_reconcile.specs.forms.Groups.{IsFated}
use Rattle.hub_reconcile.specs.Rows.{AreRows, is_different, paths_of}
use Rattle.hub_reconcile.specs.Shown.{shown}
use Rattle.hub_reconcile.proofs.Pictured.{plain_fated, tops_rows, tops_below, tops_all, item_fated}
use Rattle.hub_reconcile.proofs.group.group_of.Goals as goal

pub returns-then-not-differs-clause-group : goal.returns-then-not-differs-clause-group
returns-then-not-differs-clause-group c =
    let e = c.if-not-differs.true in
    record {
      rows = (c.requires.1.rows.0, tt);
      fated = plain_fated c.args.picture.now c.requires.0 c.args.first.now c.args.after.now c.requires.1 (sym c.differs.ensures ∙ e);
    }

pub fate_of-requires-clause-below : goal.fate_of-requires-clause-below
fate_of-requires-clause-below c =
    ap (λ n. paths_of (take n c.args.after.now)) c.count_below.ensures
    ∙ tops_below c.args.picture.now c.requires.0 c.args.first.now c.args.after.now c.requires.1

pub fate_of-requires-clause-whole : goal.fate_of-requires-clause-whole
fate_of-requires-clause-whole c =
    ap (λ n. paths_of (c.args.first.now ∷ take n c.args.after.now)) c.count_below.ensures
    ∙ tops_all c.args.picture.now c.requires.0 c.args.first.now c.args.after.now c.requires.1

pub fate_of-requires-clause-rows : goal.fate_of-requires-clause-rows
fate_of-requires-clause-rows c =
    subst (λ n. AreRows (shown c.args.picture.now) (c.args.first.now ∷ take n c.args.after.now)) (sym c.count_below.ensures)
    (tops_rows c.args.picture.now c.requires.0 c.args.first.now c.args.after.now c.requires.1)

pub returns-clause-group : goal.returns-clause-group
returns-clause-group c =
    let V = c.args.picture.now in
    let r = c.args.first.now in
    let rs = c.args.after.now in
    let d : is_different r ≡ true = sym c.differs.ensures ∙ c.if-not-differs.false in
    record {
      rows = subst (λ n. AreRows (shown V) (r ∷ take n rs)) (sym c.count_below.ensures) (tops_rows V c.requires.0 r rs c.requires.1);
      fated = subst (λ (n : ℕ). IsFated (shown V) r.path.now (paths_of (take n rs)) (Some c.in_ok-fate_of.field-0)) (sym c.count_below.ensures)
          (item_fated V c.requires.0 r rs c.requires.1 c.in_ok-fate_of.field-0 d (sym c.in_ok-fate_of.ensures));
    }

pub slice_bounds-below-end-2 : goal.slice_bounds-below-end-2
slice_bounds-below-end-2 c =
    sym (length-take-le c.count_below.result c.args.after.now (subst (λ n. n ≤ length c.args.after.now) (sym c.count_below.ensures) (prefix_len-le-length _ c.args.after.now)))

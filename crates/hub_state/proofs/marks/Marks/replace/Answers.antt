use Rattle.std.proofs.Common.{◌≡◌, List, ◌++◌, sym, ap, ◌∙◌, subst}
use Rattle.std.specs.FinMap as fin
use Rattle.std.specs.declared.cmp.Ordering.TheVariants.{Less}
use Rattle.hub_path.specs.Path.{Path, path_cmp}
use Rattle.hub_tree.specs.Marked.{kept_entries, with_entries}
use Rattle.hub_tree.specs.declared.contents.Mark.{Mark}
use Rattle.hub_state.proofs.MarkLists.{is_less, ends-none, ends-more}
use Rattle.hub_state.proofs.marks.Marks.replace.Goals as goal

pub invariant_of-self-then-lt : goal.invariant_of-self-then-lt
invariant_of-self-then-lt c q h =
    let p : Path = c.args.path.now in
    let listed : List (Path × Mark) = c.self.inside.listed in
    let all = c.in_ok-push.ensures.ok ∙ ap (λ k. listed ++ kept_entries p k) c.requires.some in
    ap (λ es. fin.get (with_entries fin.empty es) q) all
    ∙ ends-more c.self.inside.last p listed c.args.mark (is_less _ (sym c.lt.ensures ∙ c.if-lt.true)) c.self.invariant q
    (subst (λ (r : Path). path_cmp r q ≡ Less) c.in_ok-last.ensures h)

pub invariant_of-self-in_err-made : goal.invariant_of-self-in_err-made
invariant_of-self-in_err-made c = ends-none c.self.inside.last c.replace-listed.new.dest (c.replace-listed.ensures.after ∙ c.new.ensures)

pub invariant_of-self-in_err-old : goal.invariant_of-self-in_err-old
invariant_of-self-in_err-old c = ends-none c.self.inside.last c.replace-listed.new.dest (c.replace-listed.ensures.after ∙ c.new.ensures)

pub invariant_of-self-2 : goal.invariant_of-self-2
invariant_of-self-2 c = ends-none c.self.inside.last c.replace-listed.new.dest (c.replace-listed.ensures.after ∙ c.new.ensures)

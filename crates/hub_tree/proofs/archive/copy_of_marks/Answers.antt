use Rattle.std.proofs.Common.{List, ◌++◌, ap, sym, ◌∙◌, append-nil}
use Rattle.std.proofs.lemmas.Result.{IfOk-weaker}
use Rattle.hub_path.specs.Path.{Path}
use Rattle.hub_tree.specs.declared.contents.Mark.{Mark}
use Rattle.hub_tree.proofs.Inserted.{collected_in_order}
use Rattle.hub_tree.proofs.Pushed.{one_pushed}
use Rattle.hub_tree.proofs.archive.copy_of_marks.Goals as goal

pub loop-path-preserved : goal.loop-path-preserved
loop-path-preserved c =
    one_pushed {X = Path × Mark} c.loop-path.copies.items c.push.new.self.items c.loop-path.path-iterator c.next.new.self c.args.marks.now.entries (c.in-Some.path.now, c.in-Some.mark.now) _
    c.in_ok-push.ensures.items (ap (λ (p : Path). (p, c.in-Some.mark.now)) c.in_ok-copy.ensures) c.in-Some.ensures.steps c.loop-path.invariant

pub returns : goal.returns
returns c =
    let done : List (Path × Mark) = c.loop-path.copies.items in
    let all = sym (append-nil done) ∙ ap (λ (es : List (Path × Mark)). done ++ es) (sym c.in-None.ensures.steps.0) ∙ c.loop-path.invariant in
    IfOk-weaker c.map_of.result _ _
    (λ m h. collected_in_order done c.args.marks.now.entries m h all c.iter-path-items.ensures.ordered)
    c.map_of.ensures

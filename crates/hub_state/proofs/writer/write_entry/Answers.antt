use Rattle.std.proofs.Common.{List, ℕ, [], sym, append-nil}
use Rattle.std.proofs.lemmas.Result.{on_ok_weaker}
use Rattle.hub_tree.specs.Stored.{stored_contents}
use Rattle.hub_state.specs.Writing.{contents_lines, joined_lines}
use Rattle.hub_state.proofs.Passing.{passes-start, passes-step}
use Rattle.hub_state.proofs.writer.write_entry.Goals as goal

pub returns-clause-ok : goal.returns-clause-ok
returns-clause-ok g c =
    let a = g.W.Write.contents c.args.output.now.device in
    let b = g.W.Write.contents c.pass_block.new.output.device in
    let x : List ℕ = c.args.text.now.items in
    let y : List ℕ = c.push_entry.new.text.items in
    let line : List ℕ = joined_lines (contents_lines c.args.version (c.args.path.now, stored_contents c.args.stored)) in
    on_ok_weaker c.pass_block.result (λ h. passes-step a a b x x y c.pass_block.new.text.items [] line [] line (passes-start a x) c.in_ok-push_entry.ensures h (sym (append-nil line))) c.pass_block.ensures.ok

use Rattle.std.proofs.Common.{◌≡◌, ◌∷◌, [], ◌++◌, ◌+◌, length, List, take, ap, sym, ◌∙◌, subst, arith}
use Rattle.std.specs.Prelude.{slice_set}
use Rattle.std.proofs.lemmas.List.{take_more}
use Rattle.hub_job.specs.declared.log.Entry.{Entry}
use Rattle.hub_runner.proofs.Splitting.{by_job, count_of_lists, none_split, split_more, split_same}
use Rattle.hub_runner.proofs.entries.split_by_job.Goals as goal
use Rattle.hub_runner.proofs.entries.split_by_job.Goals.{then-entry-n+in_ok-push, else-entry-n}

pub loop-entry-init : goal.loop-entry-init
loop-entry-init c = c.in_ok-lists.ensures ∙ none_split c.args.n

pub index_mut-requires : goal.index_mut-requires
index_mut-requires c =
    let before : List Entry = take c.loop-entry.entry-index c.args.history.now in
    let count : length c.loop-entry.lists.items ≡ c.args.n = count_of_lists c.args.n c.loop-entry.lists.items before c.loop-entry.invariant in
    let vec = c.loop-entry.lists.ok.0 in
    let within = c.if-entry-n.true in
    omega (arith, count, vec, within)

pub loop-entry-preserved : goal.loop-entry-preserved
loop-entry-preserved c =
    let n = c.args.n in
    let e = c.entry-item.result in
    let i = c.loop-entry.entry-index in
    let before : List Entry = take i c.args.history.now in
    let lists = c.loop-entry.lists.items in
    let more : take (i + 1) c.args.history.now ≡ before ++ e ∷ [] =
    take_more c.args.history.now i e c.loop-entry-test.true ∙ ap (λ (d : Entry). before ++ d ∷ []) (sym c.entry-item.is) in
    subst (λ (ds : List Entry). c.if-entry-n.lists.items ≡ by_job n ds) (sym more)
    (elim c.if-entry-n.branch [
      | then-entry-n+in_ok-push w ↦ ap (λ ls. ls.items) w.lists-is
          ∙ (ap (slice_set lists e.job) (w.in_ok-push.ensures.ok ∙ ap (λ (d : Entry). w.index_mut.result.now ++ d ∷ []) w.new.ensures)
          ∙ split_more n lists before c.loop-entry.invariant e w.index_mut.result.now w.if-entry-n.true w.index_mut.ensures.value)
      | else-entry-n w ↦ ap (λ ls. ls.items) w.lists-is ∙ split_same n lists before c.loop-entry.invariant e w.if-entry-n.false
    ])

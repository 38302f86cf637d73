use Rattle.std.proofs.Common.{rules, refl, sym, ◌∙◌, subst}
use Rattle.std.specs.Prelude.{IsTrue, slice_get}
use Rattle.hub_job.specs.History.{IsAnswerOf}
use Rattle.hub_history.specs.Book.{BookValue, entry_of, has_job}
use Rattle.hub_history.proofs.Pushed.{answer_at, nothing_changed, pushed}
use Rattle.hub_history.proofs.book.Book.apply.Goals as goal

pub invariant_of-self-in_err-append_entry : goal.invariant_of-self-in_err-append_entry
invariant_of-self-in_err-append_entry c =
    let same = c.in_ok-answer.ensures.after ∙ nothing_changed c.self.inside.tree c.args.op c.in_ok-answer.answer c.in_ok-answer.ensures.fits c.in_err-append_entry.ensures.shared in
    rw (same, c.in_err-append_entry.ensures.err, c.in_ok-reserve.ensures.items) c.self.invariant

pub returns-in_err-append_entry-clause-err : goal.returns-in_err-append_entry-clause-err
returns-in_err-append_entry-clause-err c =
    let same = c.in_ok-answer.ensures.after ∙ nothing_changed c.self.inside.tree c.args.op c.in_ok-answer.answer c.in_ok-answer.ensures.fits c.in_err-append_entry.ensures.shared in
    rw (same, c.in_err-append_entry.ensures.err, c.in_ok-reserve.ensures.items, c.self.view_is) (search rules)

pub invariant_of-self-2 : goal.invariant_of-self-2
invariant_of-self-2 c =
    let has = subst (λ B. IsTrue (has_job B.profiles B.root c.args.job)) (sym c.self.view_is) c.requires in
    pushed c.self.inside.profiles.now c.self.inside.root c.self.inside.opening c.self.inside.tree c.perform.new.tree c.self.inside.history.items c.reserve.new.self.items c.append_entry.new.history.items c.args.job c.args.op c.in_ok-answer.answer c.in_ok-answer.answer
    c.self.invariant (answer_at c.self.inside.profiles.now c.self.inside.root c.self.inside.tree c.args.job c.args.op c.in_ok-answer.answer c.index-self-job.result has c.in_ok-answer.ensures.answer)
    c.in_ok-answer.ensures.after refl c.in_ok-reserve.ensures.items c.in_ok-append_entry.ensures.ok

pub returns-clause-answer : goal.returns-clause-answer
returns-clause-answer c =
    let has = subst (λ B. IsTrue (has_job B.profiles B.root c.args.job)) (sym c.self.view_is) c.requires in
    subst (λ (B : BookValue). IsAnswerOf B.root B.tree (entry_of c.args.job c.args.op c.in_ok-answer.answer) (slice_get B.profiles c.args.job)) c.self.view_is
    (answer_at c.self.inside.profiles.now c.self.inside.root c.self.inside.tree c.args.job c.args.op c.in_ok-answer.answer c.index-self-job.result has c.in_ok-answer.ensures.answer)

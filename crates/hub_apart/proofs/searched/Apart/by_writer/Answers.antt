use Rattle.std.proofs.Common.{List, rules, sym, subst}
use Rattle.std.proofs.lemmas.List.Sorted.{IsNonDecreasingBy-from_sort_by_key, answers_always}
use Rattle.hub_cert.specs.declared.fault.CheckFault.{CheckFault}
use Rattle.hub_apart.specs.Ordered.{AreByWriter, KeepTheirOrder, writer_of}
use Rattle.hub_apart.proofs.ByWriter.{kept}
use Rattle.hub_apart.proofs.searched.Apart.by_writer.Goals as goal

pub returns-clause-order : goal.returns-clause-order
returns-clause-order c =
    subst AreByWriter (sym c.from_vec.ensures)
    (IsNonDecreasingBy-from_sort_by_key writer_of _ c.in_ok-sort_by_key.ensures.sorted (λ a r q k. search rules))

pub returns-clause-kept : goal.returns-clause-kept
returns-clause-kept c =
    let stable = c.in_ok-sort_by_key.ensures.stable writer_of (answers_always _ _ _ (λ f a r g h. search rules)) in
    let sorted = subst (λ (es : List CheckFault). KeepTheirOrder es c.sort_by_key.new.self.items) c.into_vec-lines.ensures (kept _ _ stable) in
    subst (λ (es : List CheckFault). KeepTheirOrder c.args.self.lines es) (sym c.from_vec.ensures) sorted

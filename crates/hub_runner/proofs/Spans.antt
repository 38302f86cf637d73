-- What spans of jobs in a history show of pairs.
use Rattle.std.proofs.Common.{◌≡◌, ◌<◌, ◌+◌, Bool, ℕ, List, length, get_or, Some, refl, ap, ◌∙◌, subst, arith}
use Rattle.std.specs.Prelude.{true, slice_get}
use Rattle.std.proofs.lemmas.Option.{get_or_from_slice_get, slice_get_within}
use Rattle.hub_text.specs.laws.List.{also-here, has-item}
use Rattle.hub_job.specs.declared.log.Entry.{Entry}
use Rattle.hub_runner.specs.Order.{AreSpans, ShowsOrder, StandInOrder}
use Rattle.hub_runner.specs.declared.order.Span.{Span}
use Rattle.hub_runner.specs.declared.pairs.JobPair.{JobPair}

-- The first i of the pairs stand in order.
abbrev pub StandInOrderUpTo : ℕ → List Entry → List JobPair → ℕ → Type 0
StandInOrderUpTo n history pairs i =
    (k : ℕ) (p : JobPair) → k < i → slice_get pairs k ≡ Some p → p.earlier < p.later → p.later < n
    → StandInOrder p history

module _ (n : ℕ) (history : List Entry) (spans : List Span)
    (are : AreSpans n (length history) history spans) where
  shown_in_order : (p : JobPair) → ShowsOrder spans p true → p.earlier < p.later → p.later < n
      → StandInOrder p history
  shown_in_order p shows up low a b e f at there first second =
      let count = are.count in
      let one = has-item spans p.earlier (omega (arith, count, up, low)) in
      let two = has-item spans p.later (omega (arith, count, low)) in
      let apart = shows one.0 two.0 one.1 two.1 refl up in
      let place = are.stand a e one.0 (slice_get_within history a e at) at
      (ap (slice_get spans) first ∙ one.1) in
      let other = are.stand b f two.0 (slice_get_within history b f there) there
      (ap (slice_get spans) second ∙ two.1) in
      let x = place.1 in
      let y = other.0 in
      omega (arith, apart, x, y)

  pub one_pair_more : (pairs : List JobPair) (i : ℕ) (p : JobPair) (same : List Span) (b : Bool)
      → i < length pairs → same ≡ spans → b ≡ true → ShowsOrder same (get_or pairs i p) b
      → StandInOrderUpTo n history pairs i → StandInOrderUpTo n history pairs (i + 1)
  one_pair_more pairs i p same b l e is shows before =
      let w = has-item pairs i l in
      let own = subst (λ (q : JobPair). ShowsOrder same q b) (get_or_from_slice_get pairs i w.0 p w.1) shows in
      let here = subst (λ (ss : List Span). ShowsOrder ss w.0 b) e own in
      also-here (λ (q : JobPair). q.earlier < q.later → q.later < n → StandInOrder q history) pairs i w.0
      w.1 (shown_in_order w.0 (subst (λ (c : Bool). ShowsOrder spans w.0 c) is here)) before

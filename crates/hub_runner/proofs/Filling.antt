-- Slots that jobs are put into, by their numbers.
use Rattle.std.proofs.Common.{◌≡◌, ◌<◌, inl, inr, List, [], ◌∷◌, ◌++◌, length, Option, Some, ap, sym, ◌∙◌, subst, length-set, arith}
use Rattle.std.specs.Prelude.{ℕ, slice_get, slice_set}
use Rattle.std.proofs.lemmas.Bool.{cases_eq}
use Rattle.std.proofs.lemmas.List.{length-map}
use Rattle.std.proofs.lemmas.Option.{same_Some, slice_get_within}
use Rattle.hub_text.specs.laws.List.{put-here, snoc-cases, snoc-new, snoc-old}
use Rattle.hub_job.specs.JobValue.{JobValue}
use Rattle.hub_job.specs.Run.{Runs}
use Rattle.hub_schedule.specs.laws.Lists.{map_at, set_there}
use Rattle.hub_runner.specs.forms.Ordered.{AreInOrder, AreNumbered, IsJobOf}
use Rattle.hub_runner.specs.forms.Slots.{AreFull, filled}

-- Each slot has a job of its number; each of the first jobs has one in its slot.
pub record IsFilling (n : ℕ) (front : List JobValue) (slots : List (Option JobValue)) : Type 0 where
  pub count : length slots ≡ n
  pub each : (j : ℕ) (e : JobValue) → slice_get slots j ≡ Some (Some e) → IsJobOf front e × (e.number ≡ j)
  pub full : (k : ℕ) (J : JobValue) → slice_get front k ≡ Some J → (e : JobValue) × (slice_get slots J.number ≡ Some (Some e))

-- One job more.
later : (front : List JobValue) (J e : JobValue) → IsJobOf front e → IsJobOf (front ++ J ∷ []) e
later front J e of = record { place = of.place; there = snoc-old front J e of.place of.there; run = of.run }

pub job_last : (front : List JobValue) (J : JobValue) → Runs J.profile J.archive J.number [] J.log → IsJobOf (front ++ J ∷ []) J
job_last front J run = record { place = length front; there = snoc-new front J; run = run }

module _ (n : ℕ) (front : List JobValue) (slots : List (Option JobValue)) (filling : IsFilling n front slots) (J : JobValue) (of : IsJobOf (front ++ J ∷ []) J) (within : J.number < n) where
  abbrev more : List (Option JobValue)
  more = slice_set slots J.number (Some J)

  inside : J.number < length slots
  inside = let c = filling.count in omega (arith, c, within)

  each_more : (j : ℕ) (x : JobValue) → slice_get more j ≡ Some (Some x) → IsJobOf (front ++ J ∷ []) x × (x.number ≡ j)
  each_more j x h =
      elim (cases_eq j J.number) [
        | inl same ↦
            let there = sym (put-here slots J.number (Some J) inside) ∙ (ap (slice_get more) (sym same) ∙ h) in
            let one : J ≡ x = same_Some J x (same_Some (Some J) (Some x) there) in
            subst (λ (y : JobValue). IsJobOf (front ++ J ∷ []) y × (y.number ≡ j)) one (of, sym same)
        | inr other ↦ let w = filling.each j x (sym (set_there slots j J.number (Some J) other) ∙ h) in (later front J x w.0, w.1)
      ]

  still_full : (K : JobValue) → (x : JobValue) × (slice_get slots K.number ≡ Some (Some x)) → (x : JobValue) × (slice_get more K.number ≡ Some (Some x))
  still_full K w =
      elim (cases_eq K.number J.number) [
        | inl same ↦ (J, ap (slice_get more) same ∙ put-here slots J.number (Some J) inside)
        | inr other ↦ (w.0, set_there slots K.number J.number (Some J) other ∙ w.1)
      ]

  full_more : (k : ℕ) (K : JobValue) → slice_get (front ++ J ∷ []) k ≡ Some K → (x : JobValue) × (slice_get more K.number ≡ Some (Some x))
  full_more k K h =
      elim (snoc-cases front J K k h) [
        | inl old ↦ still_full K (filling.full k K old)
        | inr new ↦ (J, ap (λ (L : JobValue). slice_get more L.number) (sym new.1) ∙ put-here slots J.number (Some J) inside)
      ]

  pub filled_more : IsFilling n (front ++ J ∷ []) more
  filled_more = record { count = length-set slots J.number (Some J) ∙ filling.count; each = each_more; full = full_more }

-- All are in their slots.
pub all_full : (n : ℕ) (jobs : List JobValue) (slots : List (Option JobValue)) → AreNumbered n jobs → IsFilling n jobs slots → AreFull slots
all_full n jobs slots numbered filling = λ j o at.
    let count = filling.count in
    let h = slice_get_within slots j o at in
    let has = numbered.all j (omega (arith, h, count)) in
    let there = filling.full has.0 has.1 has.2 in
    (there.0, same_Some o (Some there.0) (sym at ∙ (ap (slice_get slots) (sym has.3) ∙ there.1)))

pub in_order : (n : ℕ) (jobs : List JobValue) (slots : List (Option JobValue)) (ended : List JobValue) → IsFilling n jobs slots → slots ≡ filled ended → AreInOrder n jobs ended
in_order n jobs slots ended filling e = record {
  each = λ j x at. filling.each j x (ap (λ ss. slice_get ss j) e ∙ map_at (λ y. Some y) ended j x at);
  count = sym (length-map ended (λ y. Some y)) ∙ (ap length (sym e) ∙ filling.count);
}

-- Lines of profiles with the rules to which those of one profile more are added.
use Rattle.std.proofs.Common.{◌≡◌, ◌∙◌, ◌<◌, ◌==◌, true, append-nil, ⊎_elim, inr, ℕ, List, [], ◌∷◌, ◌++◌, length, refl, sym, ap, subst, arith, append_assoc}
use Rattle.std.specs.Prelude.{slice_get, Some}
use Rattle.std.proofs.lemmas.Bool.{false≢true}
use Rattle.std.proofs.lemmas.List.{length_push}
use Rattle.std.proofs.lemmas.List.Elements.{Contains-append_left, Contains-append_right, Contains-append_cases}
use Rattle.std.proofs.lemmas.Option.{none-some}
use Rattle.hub_text.specs.laws.List.{has-item, less-or-same, some-item, snoc-new, snoc-old}
use Rattle.hub_profile.specs.Parts.{Parts}
use Rattle.hub_profile.specs.declared.rule.Rule.{Rule}
use Rattle.hub_search.specs.Faults.{AreFaults}
use Rattle.hub_cert.specs.declared.fault.CheckFault.{CheckFault}
use Rattle.hub_apart.specs.ApartLines.{Adds, set_of_one}
use Rattle.hub_apart.specs.NestedLines.{AreLinesBeside, HasLinesBeside, IsRefusedBeside}
use Rattle.hub_apart.specs.UnisonLines.{AreLinesOfEach, IsRefusedOne, beside}

pub no-profiles : (Rs : List Rule) → AreLinesOfEach [] Rs []
no-profiles Rs = record { of_one = λ i l. absurd (omega (arith, l)); each = λ e has. let l = has.1 in absurd (omega (arith, l)) }

-- Without rules there is no line.
no-goals : (P : Parts) → AreFaults (set_of_one P []) []
no-goals P = record { found = []; long = refl; each = λ n g o at_g at_o. absurd (none-some o at_o); faults = refl }

pub no-rules : (Ps : List Parts) → AreLinesOfEach Ps [] []
no-rules Ps = record {
  of_one = λ i l.
      let p = has-item Ps i l in
      ([], record { profile = p.0; at = p.1; lines = inr (refl, ([], no-goals p.0, refl)) }, λ e has. has);
  each = λ e has. let l = has.1 in absurd (omega (arith, l));
}

one-more : (Ps : List Parts) (Q : Parts) (Rs : List Rule) (i : ℕ) (own : List CheckFault) → HasLinesBeside Ps Rs i own
    → HasLinesBeside (Ps ++ Q ∷ []) Rs i own
one-more Ps Q Rs i own h = record { profile = h.profile; at = snoc-old Ps Q h.profile i h.at; lines = h.lines }

each-more : (Ps : List Parts) (Q : Parts) (Rs : List Rule) (es own : List CheckFault) → AreLinesOfEach Ps Rs es → AreLinesBeside Q Rs (length Ps) own
    → AreLinesOfEach (Ps ++ Q ∷ []) Rs (es ++ own)
each-more Ps Q Rs es own old new = record {
  of_one = λ i l. ⊎_elim
      (λ less. let w = old.of_one i less in (w.0, one-more Ps Q Rs i w.0 w.1, λ e has. Contains-append_left es own e (w.2 e has)))
      (λ same. (
        own,
        record {
          profile = Q;
          at = ap (slice_get (Ps ++ Q ∷ [])) same ∙ snoc-new Ps Q;
          lines = subst (λ k. AreLinesBeside Q Rs k own) (sym same) new;
        },
        λ e has. Contains-append_right es own e has,
      ))
      (less-or-same i (length Ps) (subst (λ n. i < n) (length_push Ps Q) l));
  each = λ e has. ⊎_elim
      (λ before. let w = old.each e before in (w.0, w.1, (w.2.0, one-more Ps Q Rs w.2.0 w.0 w.2.1)))
      (λ here. (own, here, (length Ps, record { profile = Q; at = snoc-new Ps Q; lines = new })))
      (Contains-append_cases es own e has);
}

pub one-profile-more : (Ps : List Parts) (Q : Parts) (Rs : List Rule) (old mid new : List CheckFault) → Adds (AreLinesOfEach Ps Rs) old mid
    → Adds (AreLinesBeside Q Rs (length Ps)) mid new → Adds (AreLinesOfEach (Ps ++ Q ∷ []) Rs) old new
one-profile-more Ps Q Rs old mid new a b = (
  a.0 ++ b.0,
  each-more Ps Q Rs a.0 b.0 a.1 b.1,
  b.2 ∙ (ap (λ (xs : List CheckFault). xs ++ b.0) a.2 ∙ append_assoc old a.0 b.0),
)

-- What is refused of one of the profiles.
pub refused-one : (Ps : List Parts) (Rs : List Rule) (i : ℕ) (P : Parts) (e : CheckFault) → slice_get Ps i ≡ Some P → IsRefusedBeside P Rs e
    → IsRefusedOne Ps Rs e
refused-one Ps Rs i P e at h = inr (i, P, at, h)

pub none-added : (Ps : List Parts) (Rs : List Rule) → (length Rs == 0) ≡ true → (old : List CheckFault) → Adds (AreLinesOfEach (beside Rs Ps) Rs) old old
none-added Ps [] none old = ([], no-rules (beside [] Ps), sym (append-nil old))
none-added Ps (R ∷ Rs) none old = absurd (false≢true (sym (some-item R Rs) ∙ none))

-- Entries of histories, and the jobs that they are of.
use Rattle.std.proofs.Common.{◌≡◌, Bool, true, false, cond, List, [], ◌∷◌, Option, Some, None, refl, ap, sym, ◌∙◌, subst}
use Rattle.std.specs.Prelude.{ℕ, zero, suc, filter, slice_get}
use Rattle.std.proofs.lemmas.Option.{same_Some}
use Rattle.hub_path.specs.Path.{Path}
use Rattle.hub_profile.specs.Parts.{Parts}
use Rattle.hub_reach.specs.Reach.{has_root}
use Rattle.hub_tree.specs.Tree.{Replica}
use Rattle.hub_job.specs.declared.log.Entry.{Entry}
use Rattle.hub_job.specs.History.{IsAnswerOf, IsLegal}
use Rattle.hub_job.specs.Machine.{after}

abbrev pub HasJob : List Parts → Path → Entry → Type 0
HasJob Ps r e = (P : Parts) × (slice_get Ps e.job ≡ Some P) × (has_root P r ≡ true)

answer_of : (r : Path) (m : Replica) (e : Entry) (o : Option Parts) → IsAnswerOf r m e o
    → (P : Parts) × (o ≡ Some P) × (has_root P r ≡ true)
answer_of r m e None is = absurd is
answer_of r m e (Some P) is = (P, refl, is.0)

pub legal_at : (Ps : List Parts) (r : Path) (m : Replica) (h : List Entry) (a : ℕ) (e : Entry)
    → IsLegal Ps r m h → slice_get h a ≡ Some e → HasJob Ps r e
legal_at Ps r m [] a e legal at = cc
legal_at Ps r m (d ∷ h) zero e legal at =
    subst (HasJob Ps r) (same_Some d e at) (answer_of r m d (slice_get Ps d.job) legal.0)
legal_at Ps r m (d ∷ h) (suc a) e legal at = legal_at Ps r (after m d.op) h a e legal.1 at

pub kept_one : (t : Entry → Bool) (es : List Entry) (a : ℕ) (e : Entry) → slice_get es a ≡ Some e
    → t e ≡ true → filter t es ≡ [] → ⊥
kept_one t [] a e at is none = cc
kept_one t (d ∷ es) zero e at is none =
    let here : t d ≡ true = ap t (same_Some d e at) ∙ is in
    let h : d ∷ filter t es ≡ [] =
    sym (ap (λ b. cond b (d ∷ filter t es) (filter t es)) here) ∙ none in cc
kept_one t (d ∷ es) (suc a) e at is none =
    elim (t d) as (λ b. cond b (d ∷ filter t es) (filter t es) ≡ [] → ⊥) [
      | true ↦ λ h. cc
      | false ↦ λ h. kept_one t es a e at is h
    ] none

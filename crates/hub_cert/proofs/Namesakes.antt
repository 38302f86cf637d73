-- Profiles that have the name of an earlier one.
use Rattle.std.proofs.Common.{◌≡◌, ⊎_elim, ◌∙◌, ℕ, ◌+◌, ◌<◌, ◌≤◌, Bool, true, false, cond, List, length, Some, sym, ap, subst, arith}
use Rattle.std.specs.Prelude.{slice_get}
use Rattle.std.specs.Ordering.{is_eq}
use Rattle.std.proofs.lemmas.Bool.{false≢true}
use Rattle.std.proofs.lemmas.Option.{same_Some, slice_get_within}
use denote.Ref.{Bor}
use Rattle.hub_text.specs.laws.List.{less-or-same}
use Rattle.hub_path.specs.Path.{Name, name_cmp}
use Rattle.hub_path.specs.laws.General.{name_cmp-exact, name_cmp-total}
use Rattle.hub_profile.specs.Parts.{Parts}
use Rattle.hub_cert.specs.Refused.{HasNamesakeBefore, HaveSameName}
use Rattle.hub_cert.proofs.Seen.{AreKeys, keys-more}

abbrev pub name_of : Parts → Name
name_of P = P.name

-- The set has exactly the names of the profiles before that number.
abbrev pub AreNames : List Parts → ℕ → (Bor Name → Bool) → Type 0
AreNames Ps below has = AreKeys name_of Ps below has

-- None of the profiles before that number has the name of an earlier one.
abbrev pub NoneRepeated : List Parts → ℕ → Type 0
NoneRepeated Ps below = (i j : ℕ) → i < j → j < below → HaveSameName Ps i j → ⊥

module _ (Ps : List Parts) (n : ℕ) (P : Parts) (own : Bor Name) (old : Bor Name → Bool) (at : slice_get Ps n ≡ Some P) (is : own.now ≡ P.name) (are : AreNames Ps n old) where
  -- One more name.
  pub names-more : (new : Bor Name → Bool) → ((q : Bor Name) → new q ≡ cond (is_eq (name_cmp own.now q.now)) true (old q)) → AreNames Ps (n + 1) new
  names-more new updates =
      keys-more name_of Ps name_cmp name_cmp-exact name_cmp-total n P own old new at is updates are

  -- It was there before.
  pub namesake : old own ≡ true → HasNamesakeBefore Ps n
  namesake there =
      let w = (are own).0 there in (
        w.0,
        w.2,
        record {
          first = w.1;
          second = P;
          at_first = w.3;
          at_second = at;
          same = w.4 ∙ is;
        },
      )

  -- It was not.
  pub none-more : old own ≡ false → NoneRepeated Ps n → NoneRepeated Ps (n + 1)
  none-more new before i j l k h =
      ⊎_elim
      (λ less. before i j l less h)
      (λ same.
      let here : HaveSameName Ps i n = subst (λ (m : ℕ). HaveSameName Ps i m) same h in
      let below : i < n = omega (arith, l, same) in
      let alike : here.first.name ≡ own.now = here.same ∙ (ap name_of (same_Some here.second P (sym here.at_second ∙ at)) ∙ sym is) in
      false≢true (sym new ∙ (are own).1 (i, here.first, below, here.at_first, alike)))
      (less-or-same j n k)

pub all-named : (Ps : List Parts) (n : ℕ) → length Ps ≤ n → NoneRepeated Ps n → (i j : ℕ) → i < j → HaveSameName Ps i j → ⊥
all-named Ps n long none i j l h = let k = slice_get_within Ps j h.second h.at_second in none i j l (omega (arith, k, long)) h

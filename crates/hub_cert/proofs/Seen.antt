-- The keys of the first items of a list, as a set that took them has them.
use Rattle.std.proofs.Common.{◌≡◌, ◌↔◌, ⊎_elim, ◌∙◌, ℕ, ◌+◌, ◌<◌, Bool, true, false, not, cond, List, Some, refl, sym, ap, subst, arith}
use Rattle.std.specs.Prelude.{IsTrue, slice_get}
use Rattle.std.specs.Cmp.{IsTotalOrder}
use Rattle.std.specs.FinMap.{IsAntisymmetric}
use Rattle.std.specs.Ordering.{is_eq}
use Rattle.std.specs.declared.cmp.Ordering.{Ordering}
use Rattle.std.specs.declared.cmp.Ordering.TheVariants.{Less, Equal, Greater}
use Rattle.std.proofs.lemmas.Bool.{false≢true}
use Rattle.std.proofs.lemmas.Cmp.{tied_itself}
use Rattle.std.proofs.lemmas.Option.{same_Some}
use denote.Ref.{Bor}
use Rattle.hub_text.specs.laws.List.{less-or-same}

-- What an insertion tells of the keys before it.
pub was-there : (added there : Bool) → added ≡ not there → added ≡ false → there ≡ true
was-there added true e h = refl
was-there added false e h = absurd (false≢true (sym h ∙ e))

pub was-new : (added there : Bool) → added ≡ not there → added ≡ true → there ≡ false
was-new added true e h = absurd (false≢true (sym e ∙ h))
was-new added false e h = refl

-- Only equal keys tie.
equal : (o : Ordering) → is_eq o ≡ true → o ≡ Equal
equal Less h = cc
equal Equal h = refl
equal Greater h = cc

module _ {X K : Type 0} (key : X → K) (xs : List X) where
  -- An item before that place has the key.
  abbrev pub IsKeyOf : ℕ → K → Type 0
  IsKeyOf below k = (i : ℕ) × (x : X) × (i < below) × (slice_get xs i ≡ Some x) × (key x ≡ k)

  -- The set has exactly the keys of the items before that place.
  abbrev pub AreKeys : ℕ → (Bor K → Bool) → Type 0
  AreKeys below has = (q : Bor K) → IsTrue (has q) ↔ IsKeyOf below q.now

  key-later : (n : ℕ) (k : K) → IsKeyOf n k → IsKeyOf (n + 1) k
  key-later n k h = let l = h.2 in (h.0, h.1, omega (arith, l), h.3, h.4)

  module _ (cmp : K → K → Ordering) (exact : IsAntisymmetric cmp) (total : IsTotalOrder cmp) where
    abbrev tied : K → K → Bool
    tied k l = is_eq (cmp k l)

    -- The set took one more key.
    pub keys-more : (n : ℕ) (x : X) (own : Bor K) (old new : Bor K → Bool) → slice_get xs n ≡ Some x → own.now ≡ key x
        → ((q : Bor K) → new q ≡ cond (is_eq (cmp own.now q.now)) true (old q)) → AreKeys n old → AreKeys (n + 1) new
    keys-more n x own old new at is updates are q = subst (λ (b : Bool). IsTrue b ↔ IsKeyOf (n + 1) q.now) (sym (updates q)) (go (tied own.now q.now) refl)
      where
        one : (b : Bool) → tied own.now q.now ≡ b → IsKeyOf (n + 1) q.now → IsTrue (cond b true (old q))
        one true e h = refl
        one false e h =
            ⊎_elim
            (λ less. (are q).1 (h.0, h.1, less, h.3, h.4))
            (λ same.
            let here : h.1 ≡ x = same_Some h.1 x (sym h.3 ∙ (ap (slice_get xs) same ∙ at)) in
            let alike : own.now ≡ q.now = is ∙ (ap key (sym here) ∙ h.4) in
            absurd (false≢true (sym e ∙ (ap (tied own.now) (sym alike) ∙ ap is_eq (tied_itself total own.now)))))
            (less-or-same h.0 n h.2)

        go : (b : Bool) → tied own.now q.now ≡ b → IsTrue (cond b true (old q)) ↔ IsKeyOf (n + 1) q.now
        go true e = (λ t. (n, x, omega arith, at, sym is ∙ exact own.now q.now (equal (cmp own.now q.now) e)), one true e)
        go false e = (λ t. key-later n q.now ((are q).0 t), one false e)

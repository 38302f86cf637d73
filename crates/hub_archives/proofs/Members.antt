-- The members of a set, one by one.
use Rattle.std.proofs.Common.{◌≡◌, ◌∙◌, ◌<◌, ◌+◌, ℕ, zero, suc, arith, Bool, List, [], ◌∷◌, Some, None, Option, drop, length, map, slice_get, unwrap_or, ap, subst, sym, refl, ⊎_elim, MatchOption}
use Rattle.std.proofs.lemmas.Bool.{cases_lt}
use Rattle.std.proofs.Math.Numerals.{add-one}
use Rattle.hub_path.specs.Path.{Path}
use Rattle.hub_profile.specs.Parts.{Parts}
use Rattle.hub_folded.specs.Lines.{folded_member}
use Rattle.hub_folded.specs.Table.{unicode}
use Rattle.hub_folded.specs.declared.member.Member.{Member}
use Rattle.hub_archives.specs.Folded.{FoldedKeptOut, IsFoldedHeldBy, IsFoldedKeptOut}

module _ {X : Type 0} where
  same_some : (x y : X) → Some x ≡ Some y → x ≡ y
  same_some x y e = ap (λ o. unwrap_or o x) e

  none_some : {x : X} → None ≡ Some x → ⊥
  none_some i = cc

  nothing_first : {x : X} {rest : List X} → [] ≡ x ∷ rest → ⊥
  nothing_first e = cc

  -- The first of the items that are left is the one at this place.
  front_of : (xs : List X) (n : ℕ) (x : X) (rest : List X) → drop n xs ≡ x ∷ rest
      → (slice_get xs n ≡ Some x) × (drop (suc n) xs ≡ rest)
  front_of [] zero x rest e = absurd (nothing_first e)
  front_of [] (suc n) x rest e = absurd (nothing_first e)
  front_of (y ∷ xs) zero x rest e = let same : y ≡ x = cc in (ap Some same, (cc))
  front_of (y ∷ xs) (suc n) x rest e = front_of xs n x rest e

  pub next_of : (xs : List X) (n : ℕ) (x : X) (left rest : List X) → left ≡ drop n xs → left ≡ x ∷ rest
      → (slice_get xs n ≡ Some x) × (rest ≡ drop (n + 1) xs)
  next_of xs n x left rest before now =
      let two = front_of xs n x rest (sym before ∙ now) in
      (two.0, sym (ap (λ m. drop m xs) (add-one n) ∙ two.1))

  -- If nothing is left, each place was before.
  none_left : (xs : List X) (n : ℕ) → length (drop n xs) ≡ 0 → (i : ℕ) (x : X) → slice_get xs i ≡ Some x → i < n
  none_left [] n none i x at = absurd (none_some at)
  none_left (y ∷ xs) zero none i x at = absurd (omega arith)
  none_left (y ∷ xs) (suc n) none zero x at = omega arith
  none_left (y ∷ xs) (suc n) none (suc i) x at =
      let before : i < n = none_left xs n none i x at in omega arith

  pub all_before : (xs left : List X) (n k : ℕ) → left ≡ drop n xs → k ≡ length left → k ≡ 0 → (i : ℕ) (x : X)
      → slice_get xs i ≡ Some x → i < n
  all_before xs left n k rest long none =
      none_left xs n (ap length (sym rest) ∙ (sym long ∙ none))

module _ {X Y : Type 0} (f : X → Y) where
  map_at : (xs : List X) (i : ℕ) (x : X) → slice_get xs i ≡ Some x → slice_get (map f xs) i ≡ Some (f x)
  map_at [] i x at = absurd (none_some at)
  map_at (y ∷ xs) zero x at = ap (λ z. Some (f z)) (same_some y x at)
  map_at (y ∷ xs) (suc i) x at = map_at xs i x at

  map_from : (xs : List X) (i : ℕ) (y : Y) → slice_get (map f xs) i ≡ Some y
      → (x : X) × (slice_get xs i ≡ Some x) × (y ≡ f x)
  map_from [] i y at = absurd (none_some at)
  map_from (x ∷ xs) zero y at = (x, refl, sym (same_some (f x) y at))
  map_from (x ∷ xs) (suc i) y at = map_from xs i y at

module _ (folders : List Path) (fs : List Bool) (Qs : List Parts) where
  -- The members with a number below this one keep the folders out.
  abbrev pub AreKeptBelow : ℕ → Type 0
  AreKeptBelow n =
      (m : ℕ) (M : Member) → m < n → slice_get fs m ≡ Some M.folds
      → slice_get Qs m ≡ Some (folded_member unicode M) → IsFoldedKeptOut folders M

  module _ (n : ℕ) (Q : Parts) (own : Bool) (o : Option (ℕ × Path)) (at : slice_get Qs n ≡ Some Q)
      (owned : (b : Bool) → slice_get fs n ≡ Some b → own ≡ b)
      (held : (M : Member) → own ≡ M.folds → Q ≡ folded_member unicode M
      → MatchOption o (IsFoldedKeptOut folders M) (λ h. IsFoldedHeldBy folders M h.0 h.1)) where
    this_kept : o ≡ None → (M : Member) → slice_get fs n ≡ Some M.folds
        → slice_get Qs n ≡ Some (folded_member unicode M) → IsFoldedKeptOut folders M
    this_kept none M folds here =
        subst (λ p. MatchOption p (IsFoldedKeptOut folders M) (λ h. IsFoldedHeldBy folders M h.0 h.1)) none
        (held M (owned M.folds folds) (same_some Q (folded_member unicode M) (sym at ∙ here)))

    pub one_more_member : o ≡ None → AreKeptBelow n → AreKeptBelow (n + 1)
    one_more_member none before m M lt folds here =
        ⊎_elim (λ less. before m M less folds here)
        (λ more. let same : m ≡ n = omega (arith, lt, more) in
        this_kept none M (ap (slice_get fs) (sym same) ∙ folds) (ap (slice_get Qs) (sym same) ∙ here))
        (cases_lt m n)

    pub member_held : (Ms : List Member) → fs ≡ map (λ M. M.folds) Ms → Qs ≡ map (folded_member unicode) Ms
        → (s j : ℕ) (x : Path) → s ≡ n → o ≡ Some (j, x)
        → (M : Member) × (slice_get Ms s ≡ Some M) × IsFoldedHeldBy folders M j x
    member_held Ms folds folded s j x number some =
        let one = map_from (folded_member unicode) Ms n Q (ap (λ Ps. slice_get Ps n) (sym folded) ∙ at) in
        let flag : slice_get fs n ≡ Some (one.0).folds = ap (λ bs. slice_get bs n) folds ∙ map_at (λ M. M.folds) Ms n one.0 one.1 in (
          one.0,
          ap (slice_get Ms) number ∙ one.1,
          subst (λ p. MatchOption p (IsFoldedKeptOut folders one.0) (λ h. IsFoldedHeldBy folders one.0 h.0 h.1)) some
              (held one.0 (owned (one.0).folds flag) one.2),
        )

  pub members_kept : (n : ℕ) (Ms : List Member) → fs ≡ map (λ M. M.folds) Ms
      → Qs ≡ map (folded_member unicode) Ms → ((i : ℕ) (Q : Parts) → slice_get Qs i ≡ Some Q → i < n)
      → AreKeptBelow n → FoldedKeptOut folders Ms
  members_kept n Ms folds folded all kept i M at =
      let here : slice_get Qs i ≡ Some (folded_member unicode M) = ap (λ Ps. slice_get Ps i) folded ∙ map_at (folded_member unicode) Ms i M at in
      let flag : slice_get fs i ≡ Some M.folds = ap (λ bs. slice_get bs i) folds ∙ map_at (λ M. M.folds) Ms i M at in
      kept i M (all i (folded_member unicode M) here) flag here

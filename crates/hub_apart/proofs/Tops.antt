-- The topmost of kept values that don't end with `*`: these themselves.
use Rattle.std.proofs.Common.{◌≡◌, ◌≢◌, ⊎_elim, ◌∙◌, ◌==◌, append-nil, append_assoc, ℕ, zero, suc, Bool, true, false, not, ◌&&◌, ◌||◌, List, [], ◌∷◌, ◌++◌, length, map, Some, refl, sym, ap, subst, arith}
use Rattle.std.specs.Prelude.{slice_get, nat_lt, if◌then◌else◌}
use Rattle.std.specs.List.{fold, list_all, list_any}
use Rattle.std.proofs.lemmas.Bool.{and_from, and_parts, false≢true, or_left, or_right}
use Rattle.std.proofs.lemmas.Bool.Decides.{nat_tests}
use Rattle.std.proofs.lemmas.Option.{none-some, same_Some, slice_get_within}
use Rattle.hub_path.specs.Path.{Path, is_over, is_place, none_over, parent, path_eq}
use Rattle.hub_path.specs.laws.General.{is_over-reflexive, path_eq-decides}
use Rattle.hub_profile.specs.Facts.{are_kept}
use Rattle.hub_unison.specs.Cautious.{cover, covers_value}
use Rattle.hub_unison.specs.ReadingOf.{are_tops, cut_value, is_below_some, top_values, topmost, with_top}
use Rattle.hub_unison.specs.UnisonReach.{is_starred}
use Rattle.hub_apart.proofs.Items.{all-of, at-each, at-left, at-middle, none-at, not-true, passing, same-or-not, some-at}

-- Of such paths none is over another one.
neither : (a b : Bool) → not (a || b) ≡ true → (a ≡ false) × (b ≡ false)
neither true b h = absurd (false≢true h)
neither false true h = absurd (false≢true h)
neither false false h = (refl, refl)

not-over : (ps : List Path) (i j : ℕ) (r s : Path) → none_over ps ≡ true → i ≢ j → slice_get ps i ≡ Some r → slice_get ps j ≡ Some s
    → is_over r s ≡ false
not-over [] i j r s h off at_r at_s = absurd (none-some r at_r)
not-over (p ∷ ps) zero zero r s h off at_r at_s = absurd (off refl)
not-over (p ∷ ps) zero (suc j) r s h off at_r at_s =
    let parts = and_parts (list_all (λ q. not (is_over p q || is_over q p)) ps) (none_over ps) h in
    ap (λ q. is_over q s) (sym (same_Some p r at_r))
    ∙ (neither (is_over p s) (is_over s p) (at-each (λ q. not (is_over p q || is_over q p)) ps j s parts.0 at_s)).0
not-over (p ∷ ps) (suc i) zero r s h off at_r at_s =
    let parts = and_parts (list_all (λ q. not (is_over p q || is_over q p)) ps) (none_over ps) h in
    ap (is_over r) (sym (same_Some p s at_s))
    ∙ (neither (is_over p r) (is_over r p) (at-each (λ q. not (is_over p q || is_over q p)) ps i r parts.0 at_r)).1
not-over (p ∷ ps) (suc i) (suc j) r s h off at_r at_s =
    let parts = and_parts (list_all (λ q. not (is_over p q || is_over q p)) ps) (none_over ps) h in
    not-over ps i j r s parts.1 (λ e. off (ap (λ n. suc n) e)) at_r at_s

-- Without stars no value is cut.
uncut : (ps : List Path) → list_any is_starred ps ≡ false → map cut_value ps ≡ ps
uncut [] h = refl
uncut (s ∷ ps) h = λ i. one i ∷ uncut ps rest i
  where
    one : cut_value s ≡ s
    one = ap (λ b. if b then parent s else s) (none-at is_starred (s ∷ ps) 0 s h refl)

    rest : list_any is_starred ps ≡ false
    rest = not-true (list_any is_starred ps) (λ some. false≢true (sym h ∙ or_right (is_starred s) (list_any is_starred ps) some))

-- Of values of which none is over another, each is a topmost one.
module _ (all tops rest : List Path) (q : Path) (e : all ≡ tops ++ q ∷ rest) (none : none_over all ≡ true) where
  here : slice_get all (length tops) ≡ Some q
  here = ap (λ ps. slice_get ps (length tops)) e ∙ at-middle tops rest q

  not-below : is_below_some all q ≡ false
  not-below = not-true (is_below_some all q) (λ some. refuted (passing (λ p. is_over p q && nat_lt (length p) (length q)) all some))
    where
      refuted : (k : ℕ) × (p : Path) × (slice_get all k ≡ Some p) × ((is_over p q && nat_lt (length p) (length q)) ≡ true) → ⊥
      refuted w =
          let parts = and_parts (is_over w.1 q) (nat_lt (length w.1) (length q)) w.3 in
          ⊎_elim
          (λ same.
          let one : w.1 ≡ q = same_Some w.1 q (sym w.2 ∙ (ap (slice_get all) same ∙ here)) in
          let long : length w.1 ≡ length q = ap length one in
          let less = parts.1 in
          grind (arith, nat_tests, long, less))
          (λ off. false≢true (sym (not-over all w.0 (length tops) w.1 q none off w.2 here) ∙ parts.0))
          (same-or-not w.0 (length tops))

  not-there : list_any (λ top. path_eq top q) tops ≡ false
  not-there = not-true (list_any (λ top. path_eq top q) tops) (λ some. refuted (passing (λ top. path_eq top q) tops some))
    where
      refuted : (k : ℕ) × (p : Path) × (slice_get tops k ≡ Some p) × (path_eq p q ≡ true) → ⊥
      refuted w =
          let one : w.1 ≡ q = (path_eq-decides w.1 q).0 w.3 in
          let less = slice_get_within tops w.0 w.1 w.2 in
          let at : slice_get all w.0 ≡ Some w.1 = ap (λ ps. slice_get ps w.0) e ∙ at-left tops (q ∷ rest) w.0 w.1 w.2 in
          false≢true
          (sym (not-over all w.0 (length tops) w.1 q none (λ same. omega (arith, less, same)) at here)
          ∙ subst (λ p. is_over w.1 p ≡ true) one (is_over-reflexive w.1))

  kept-top : with_top all tops q ≡ tops ++ q ∷ []
  kept-top = ap (λ b. if b then tops else tops ++ q ∷ []) (λ i. not-below i || not-there i)

all-kept : (all tops rest : List Path) → all ≡ tops ++ rest → none_over all ≡ true → fold (with_top all) tops rest ≡ tops ++ rest
all-kept all tops [] e none = sym (append-nil tops)
all-kept all tops (q ∷ rest) e none =
    let longer : (tops ++ q ∷ []) ++ rest ≡ tops ++ q ∷ rest = append_assoc tops (q ∷ []) rest in
    ap (λ ts. fold (with_top all) ts rest) (kept-top all tops rest q e none)
    ∙ (all-kept all (tops ++ q ∷ []) rest (e ∙ sym longer) none ∙ longer)

all-topmost : (ps : List Path) → none_over ps ≡ true → topmost ps ≡ ps
all-topmost ps h = all-kept ps [] ps refl h

covered : (ps : List Path) → list_any is_starred ps ≡ false → cover ps ps ≡ true
covered ps h = all-of (λ s. list_any (λ top. covers_value top s) ps) ps (λ k s at. some-at (λ top. covers_value top s) ps k s at (own k s at))
  where
    own : (k : ℕ) (s : Path) → slice_get ps k ≡ Some s → covers_value s s ≡ true
    own k s at =
        and_from (is_over s s) (not (is_starred s) || nat_lt (length s) (length s)) (is_over-reflexive s)
        (or_left (not (is_starred s)) (nat_lt (length s) (length s)) (ap not (none-at is_starred ps k s h at)))

pub own-tops : (ps : List Path) → list_any is_starred ps ≡ false → are_kept ps ≡ true → top_values ps ≡ ps
own-tops ps plain kept =
    let none = (and_parts (not (length ps == 0) && list_all is_place ps) (none_over ps) kept).1 in
    let tops : topmost (map cut_value ps) ≡ ps = ap topmost (uncut ps plain) ∙ all-topmost ps none in
    ap (λ ts. if are_tops ts ps then ts else [] ∷ []) tops
    ∙ ap (λ b. if b then ps else [] ∷ []) (and_from (are_kept ps) (cover ps ps) kept (covered ps plain))

pub tops-kept : (ps : List Path) → are_kept (top_values ps) ≡ true
tops-kept ps = go (are_tops (topmost (map cut_value ps)) ps) refl
  where
    go : (b : Bool) → are_tops (topmost (map cut_value ps)) ps ≡ b → are_kept (if b then topmost (map cut_value ps) else [] ∷ []) ≡ true
    go true e = (and_parts (are_kept (topmost (map cut_value ps))) (cover (topmost (map cut_value ps)) ps) e).0
    go false e = refl

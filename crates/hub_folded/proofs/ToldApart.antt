-- What holds of roots that are told apart.
use Rattle.std.proofs.Common.{◌≡◌, ℕ, zero, suc, inl, arith, Bool, true, false, ◌||◌, List, [], ◌∷◌, ◌++◌, length, map, refl, sym, ap, ◌∙◌, subst, Some}
use Rattle.std.specs.Prelude.{slice_get}
use Rattle.std.specs.List.{list_any}
use Rattle.std.proofs.lemmas.Bool.{and_parts}
use Rattle.std.proofs.lemmas.Option.{none-some, same_Some}
use Rattle.hub_path.specs.Path.{Path, name_eq, path_eq, is_over}
use Rattle.hub_path.specs.laws.General.{is_over-length, is_over-reflexive, name_eq-decides, path_eq-decides}
use Rattle.hub_profile.specs.Parts.{has_root}
use Rattle.hub_profile.specs.declared.rule.Rule.{Rule}
use Rattle.hub_unison.specs.UnisonReach.{written_roots}
use Rattle.hub_folded.specs.Fold.{Folding, fold_path, knows_path}
use Rattle.hub_folded.specs.InUnison.{FoldedBreach, IsNormOf, IsSafeFolded, KeepsRulesFolded, Lined, Norm, norm_path}
use Rattle.hub_folded.specs.Roots.{AreKnownRootsApart, AreToldApart, HaveRootsIn, HoldAtRootsIn, IsOneOf, IsSafeAtKnownRoots, KeepsRulesAtKnownRoots}
use Rattle.hub_folded.proofs.Paths.{known-path, no}

-- A path that is over one as long is the same, and so are two of which each is over the other.
pub over-same : (p q : Path) → is_over p q ≡ true → length p ≡ length q → p ≡ q
over-same [] [] h e = refl
over-same [] (m ∷ q) h e = absurd (omega (arith, e))
over-same (n ∷ p) [] h e = no h
over-same (n ∷ p) (m ∷ q) h e =
    let two = and_parts (name_eq n m) (is_over p q) h in
    let rest : length p ≡ length q = omega (arith, e) in
    (λ i. (name_eq-decides n m).0 two.0 i ∷ over-same p q two.1 rest i)

both-over : (p q : Path) → is_over p q ≡ true → is_over q p ≡ true → p ≡ q
both-over p q h k = over-same p q h (omega (arith, is_over-length p q h, is_over-length q p k))

-- Where each root of the profiles stands among all of them.
placed-root : (rs : List Path) (r : Path) → list_any (λ own. path_eq own r) rs ≡ true → IsOneOf rs r
placed-root [] r h = no h
placed-root (s ∷ rs) r h = go (path_eq s r) refl h (placed-root rs r)
  where
    go : (b : Bool) → path_eq s r ≡ b → (b || list_any (λ own. path_eq own r) rs) ≡ true
        → (list_any (λ own. path_eq own r) rs ≡ true → IsOneOf rs r) → IsOneOf (s ∷ rs) r
    go true e h later = (0, ap Some ((path_eq-decides s r).0 e))
    go false e h later = let w = later h in (suc w.0, w.1)

at-front : (xs ys : List Path) (r : Path) → IsOneOf xs r → IsOneOf (xs ++ ys) r
at-front xs ys r w = (w.0, go xs w.0 w.1)
  where
    go : (xs : List Path) (k : ℕ) → slice_get xs k ≡ Some r → slice_get (xs ++ ys) k ≡ Some r
    go [] k at = absurd (none-some r at)
    go (x ∷ xs) zero at = at
    go (x ∷ xs) (suc k) at = go xs k at

at-end : (xs ys : List Path) (r : Path) → IsOneOf ys r → IsOneOf (xs ++ ys) r
at-end [] ys r w = w
at-end (x ∷ xs) ys r w = let v = at-end xs ys r w in (suc v.0, v.1)

among : (Vs : List Lined) (i : ℕ) (V : Lined) (r : Path) → slice_get Vs i ≡ Some V
    → has_root V.written.parts r ≡ true → IsOneOf (written_roots (map (λ W. W.written) Vs)) r
among [] i V r at h = absurd (none-some V at)
among (W ∷ Vs) zero V r at h =
    at-front W.written.parts.roots (written_roots (map (λ X. X.written) Vs)) r
    (placed-root W.written.parts.roots r
    (subst (λ (X : Lined). has_root X.written.parts r ≡ true) (sym (same_Some W V at)) h))
among (W ∷ Vs) (suc i) V r at h =
    at-end W.written.parts.roots (written_roots (map (λ X. X.written) Vs)) r (among Vs i V r at h)

module _ (F : Folding) (rs : List Path) (apart : AreToldApart F rs) where
  -- Two of them that fold to one are one.
  same-folded : (r s : Path) → IsOneOf rs r → IsOneOf rs s → knows_path F r ≡ true
      → knows_path F s ≡ true → fold_path F r ≡ fold_path F s → r ≡ s
  same-folded r s in_r in_s known also e =
      both-over r s
      (apart in_r.0 in_s.0 r s in_r.1 in_s.1 known also
      (subst (λ t. is_over (fold_path F r) t ≡ true) e (is_over-reflexive (fold_path F r))))
      (apart in_s.0 in_r.0 s r in_s.1 in_r.1 also known
      (subst (λ t. is_over t (fold_path F r) ≡ true) e (is_over-reflexive (fold_path F r))))

  same-normed : (N : Norm) → IsNormOf F N → (r s : Path) → IsOneOf rs r → IsOneOf rs s
      → knows_path F r ≡ true → knows_path F s ≡ true → norm_path N r ≡ norm_path N s → r ≡ s
  same-normed N is r s in_r in_s known also e =
      same-folded r s in_r in_s known also
      (sym (known-path F N is r known) ∙ (e ∙ known-path F N is s also))

  module _ (Vs : List Lined) (have : HaveRootsIn rs Vs) where
    pub known-roots-apart : IsSafeFolded F Vs → AreKnownRootsApart F Vs
    known-roots-apart is i j V W r s at_i at_j has_r has_s known also over =
        let one = among Vs i V r at_i has_r in
        let other = among Vs j W s at_j has_s in
        let in_r = have i V r at_i has_r in
        let in_s = have j W s at_j has_s in
        is.apart one.0 other.0 r s one.1 other.1
        (apart in_r.0 in_s.0 r s in_r.1 in_s.1 known also over)

    pub safe-at-known-roots : IsSafeFolded F Vs → IsSafeAtKnownRoots F Vs
    safe-at-known-roots is N norm m n by also i j V W at_i at_j off clash =
        is.no_clash N norm m n by also i j V W at_i at_j off
        (inl (
          clash.0,
          clash.4,
          subst (λ r. has_root W.written.parts r ≡ true) (sym same) clash.5,
          clash.7,
        ))
      where
        same : clash.0 ≡ clash.1
        same =
            same-normed N norm clash.0 clash.1 (have i V clash.0 at_i clash.4)
            (have j W clash.1 at_j clash.5) clash.2 clash.3 clash.6

    pub keeps-at-known-roots : (Rs : List Rule) → HoldAtRootsIn rs Rs → KeepsRulesFolded F Vs Rs
        → KeepsRulesAtKnownRoots F Vs Rs
    keeps-at-known-roots Rs hold keeps N norm m by i k V R at own breach =
        keeps N norm m by i k V R at own
        (subst (λ r. FoldedBreach F N m V (record R { root = r })) same breach.4)
      where
        same : breach.0 ≡ R.root
        same =
            same-normed N norm breach.0 R.root (have i V breach.0 at breach.4.2) (hold k R own)
            breach.1 breach.2 breach.3

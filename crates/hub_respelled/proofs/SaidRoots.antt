-- The roots of profiles and rules are among those of what a bundle says.
use Rattle.std.proofs.Common.{◌≡◌, ◌∙◌, ℕ, zero, suc, ◌+◌, ◌<◌, Bool, true, false, ◌||◌, List, [], ◌∷◌, ◌++◌, get_or, length, map, Some, ap, refl, subst, sym}
use Rattle.std.specs.Prelude.{option_map, slice_get}
use Rattle.std.specs.List.{flat_map, list_any}
use Rattle.std.proofs.lemmas.Bool.{false≢true}
use Rattle.std.proofs.lemmas.Option.{none-some, same_Some, slice_get-map, slice_get_read, slice_get_within}
use Rattle.hub_path.specs.Path.{Path, path_eq}
use Rattle.hub_path.specs.laws.General.{path_eq-decides}
use Rattle.hub_profile.specs.Parts.{Parts, has_root}
use Rattle.hub_profile.specs.declared.rule.Rule.{Rule}
use Rattle.hub_reach.specs.Safe as safe
use Rattle.hub_bundle.specs.declared.sections.BundleContents.{BundleContents}
use Rattle.hub_cert.specs.Set.{forbidden_by}
use Rattle.hub_folded.specs.InUnison.{Lined, member_of}
use Rattle.hub_folded.specs.Roots.{HaveRootsIn, HoldAtRootsIn, IsOneOf, IsSpelledTwice}
use Rattle.hub_folded.specs.Table.{unicode}
use Rattle.hub_respelled.specs.Members.{members_from, members_of}
use Rattle.hub_respelled.specs.Respelled.{AreSpelledTwice, said_roots}

-- Where a root stands.
placed : (rs : List Path) (r : Path) → list_any (λ own. path_eq own r) rs ≡ true → IsOneOf rs r
placed [] r h = absurd (false≢true h)
placed (s ∷ rs) r h = go (path_eq s r) refl h (placed rs r)
  where
    go : (b : Bool) → path_eq s r ≡ b → (b || list_any (λ own. path_eq own r) rs) ≡ true
        → (list_any (λ own. path_eq own r) rs ≡ true → IsOneOf rs r) → IsOneOf (s ∷ rs) r
    go true e h later = (0, ap Some ((path_eq-decides s r).0 e))
    go false e h later = let w = later h in (suc w.0, w.1)

at-front : (xs ys : List Path) (r : Path) → IsOneOf xs r → IsOneOf (xs ++ ys) r
at-front xs ys r w = (w.0, go xs w.0 w.1)
  where
    go : (xs : List Path) (k : ℕ) → slice_get xs k ≡ Some r → slice_get (xs ++ ys) k ≡ Some r
    go [] k at = absurd (none-some r at)
    go (x ∷ xs) zero at = at
    go (x ∷ xs) (suc k) at = go xs k at

at-end : (xs ys : List Path) (r : Path) → IsOneOf ys r → IsOneOf (xs ++ ys) r
at-end [] ys r w = w
at-end (x ∷ xs) ys r w = let v = at-end xs ys r w in (suc v.0, v.1)

among : (Ps : List Parts) (i : ℕ) (P : Parts) (r : Path) → slice_get Ps i ≡ Some P
    → has_root P r ≡ true → IsOneOf (flat_map (λ Q. Q.roots) Ps) r
among [] i P r at h = absurd (none-some P at)
among (Q ∷ Ps) zero P r at h =
    at-front Q.roots (flat_map (λ X. X.roots) Ps) r
    (placed Q.roots r (subst (λ (X : Parts). has_root X r ≡ true) (sym (same_Some Q P at)) h))
among (Q ∷ Ps) (suc i) P r at h =
    at-end Q.roots (flat_map (λ X. X.roots) Ps) r (among Ps i P r at h)

-- Members have the profiles that they are made of.
parts-from : (fs : List Bool) (n : ℕ) (Ps : List Parts)
    → map (λ M. M.parts) (members_from fs n Ps) ≡ Ps
parts-from fs n [] = refl
parts-from fs n (P ∷ Ps) = ap (λ Qs. P ∷ Qs) (parts-from fs (n + 1) Ps)

parts-lined : (Vs : List Lined)
    → map (λ M. M.parts) (map member_of Vs) ≡ map (λ V. V.written.parts) Vs
parts-lined [] = refl
parts-lined (V ∷ Vs) = ap (λ Qs. V.written.parts ∷ Qs) (parts-lined Vs)

pub have-roots : (own : BundleContents) (fs : List Bool) (Vs : List Lined)
    → map member_of Vs ≡ members_of fs own.profiles → HaveRootsIn (said_roots own) Vs
have-roots own fs Vs same i V r at h =
    let parts : map (λ X. X.written.parts) Vs ≡ own.profiles =
    sym (parts-lined Vs) ∙ (ap (map (λ M. M.parts)) same ∙ parts-from fs 0 own.profiles) in
    at-front (flat_map (λ P. P.roots) own.profiles) _ r
    (among own.profiles i V.written.parts r
    (subst (λ (Ps : List Parts). slice_get Ps i ≡ Some V.written.parts) parts
    (slice_get-map (λ (X : Lined). X.written.parts) Vs i ∙ ap (option_map (λ X. X.written.parts)) at))
    h)

pub hold-at-roots : (own : BundleContents) → HoldAtRootsIn (said_roots own) own.rules
hold-at-roots own k R at =
    at-end (flat_map (λ P. P.roots) own.profiles) _ R.root (
      k,
      slice_get-map (λ (S : safe.Rule). S.root) (map forbidden_by own.rules) k
          ∙ ap (option_map (λ S. S.root))
          (slice_get-map forbidden_by own.rules k ∙ ap (option_map forbidden_by) at),
    )

-- Two roots that are spelled in two ways are among those that were looked through, and so they are
-- shown.
pub within : (rs : List Path) (i j : ℕ) → IsSpelledTwice unicode rs i j
    → (i < length rs) × (j < length rs)
within rs i j twice =
    (slice_get_within rs i twice.0 twice.2, slice_get_within rs j twice.1 twice.3)

pub shown-twice : (own : BundleContents) (rs : List Path) (i j : ℕ) (p q r s : Path)
    → rs ≡ said_roots own → IsSpelledTwice unicode rs i j → p ≡ get_or rs i p → q ≡ get_or rs j q
    → r ≡ p → s ≡ q → AreSpelledTwice own r s
shown-twice own rs i j p q r s same twice is_p is_q is_r is_s =
    let l = within rs i j twice in
    let at_i = slice_get_read rs _ i p refl l.0 is_p ∙ ap Some (sym is_r) in
    let at_j = slice_get_read rs _ j q refl l.1 is_q ∙ ap Some (sym is_s) in
    subst
    (λ (xs : List Path).
    (k m : ℕ) × IsSpelledTwice unicode xs k m × (slice_get xs k ≡ Some r)
    × (slice_get xs m ≡ Some s))
    same (i, j, twice, at_i, at_j)

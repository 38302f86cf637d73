-- A path name by name, without its first names.
use Rattle.std.proofs.Common.{◌≡◌, ◌∙◌, ◌+◌, ℕ, zero, suc, List, [], ◌∷◌, ◌++◌, drop, Some, sym, ap, add-one, append_assoc}
use Rattle.std.specs.Prelude.{slice_get}
use Rattle.std.proofs.lemmas.Option.{none-some, same_Some}
use Rattle.hub_path.specs.Path.{Name, Path}

dropped : (p : Path) (i : ℕ) (n : Name) → slice_get p i ≡ Some n → drop i p ≡ n ∷ drop (suc i) p
dropped [] i n at = absurd (none-some n at)
dropped (m ∷ p) zero n at = ap (λ x. x ∷ p) (same_Some m n at)
dropped (m ∷ p) (suc i) n at = dropped p i n at

pub left-more : (path rest next whole : Path) (i : ℕ) (n m : Name) → rest ++ drop i path ≡ whole → slice_get path i ≡ Some n → m ≡ n
    → next ≡ rest ++ m ∷ [] → next ++ drop (i + 1) path ≡ whole
left-more path rest next whole i n m so at same h =
    (λ j. h j ++ drop (add-one i j) path)
    ∙ (append_assoc rest (m ∷ []) (drop (suc i) path)
    ∙ (ap (λ x. rest ++ (x ∷ drop (suc i) path)) same
    ∙ (ap (λ p. rest ++ p) (sym (dropped path i n at)) ∙ so)))

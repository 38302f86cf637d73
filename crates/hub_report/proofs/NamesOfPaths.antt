-- A path name by name.
use Rattle.std.proofs.Common.{◌≡◌, ◌∙◌, ◌+◌, ℕ, zero, suc, List, [], ◌∷◌, ◌++◌, take, drop, Some, sym, ap, add-one, append_assoc}
use Rattle.std.specs.Prelude.{slice_get}
use Rattle.std.proofs.lemmas.Option.{none-some, same_Some}
use Rattle.hub_path.specs.Path.{Name, Path}

taken : (p : Path) (i : ℕ) (n : Name) → slice_get p i ≡ Some n → take (suc i) p ≡ take i p ++ n ∷ []
taken [] i n at = absurd (none-some n at)
taken (m ∷ p) zero n at = ap (λ x. x ∷ []) (same_Some m n at)
taken (m ∷ p) (suc i) n at = ap (λ q. m ∷ q) (taken p i n at)

dropped : (p : Path) (i : ℕ) (n : Name) → slice_get p i ≡ Some n → drop i p ≡ n ∷ drop (suc i) p
dropped [] i n at = absurd (none-some n at)
dropped (m ∷ p) zero n at = ap (λ x. x ∷ p) (same_Some m n at)
dropped (m ∷ p) (suc i) n at = dropped p i n at

pub named-more : (front path whole next : Path) (i : ℕ) (n m : Name) → whole ≡ front ++ take i path → slice_get path i ≡ Some n → m ≡ n
    → next ≡ whole ++ m ∷ [] → next ≡ front ++ take (i + 1) path
named-more front path whole next i n m so at same h =
    h ∙ (ap (λ p. p ++ m ∷ []) so ∙ (append_assoc front (take i path) (m ∷ [])
    ∙ (ap (λ x. front ++ (take i path ++ x ∷ [])) same
    ∙ sym (ap (λ p. front ++ p) (ap (λ k. take k path) (add-one i) ∙ taken path i n at)))))

pub left-more : (path rest next whole : Path) (i : ℕ) (n m : Name) → rest ++ drop i path ≡ whole → slice_get path i ≡ Some n → m ≡ n
    → next ≡ rest ++ m ∷ [] → next ++ drop (i + 1) path ≡ whole
left-more path rest next whole i n m so at same h =
    (λ j. h j ++ drop (add-one i j) path)
    ∙ (append_assoc rest (m ∷ []) (drop (suc i) path)
    ∙ (ap (λ x. rest ++ (x ∷ drop (suc i) path)) same
    ∙ (ap (λ p. rest ++ p) (sym (dropped path i n at)) ∙ so)))

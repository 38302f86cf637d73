-- The path of a folder below a root, name by name.
use Rattle.std.proofs.Common.{◌≡◌, ◌∙◌, ◌++◌, ℕ, suc, [], ◌∷◌, length, take, drop, Some, slice_get, ap, sym, IsTrue}
use Rattle.std.proofs.Math.Seq.{take-append_seam, take-suc}
use Rattle.std.proofs.lemmas.List.{append_assoc, append-nil}
use Rattle.std.proofs.lemmas.Option.{get_or_from_slice_get, slice_get_within}
use Rattle.hub_path.specs.Path.{Name, Path, is_over}
use Rattle.hub_path.specs.laws.General.{is_over-rest}

pub front : (r f : Path) → IsTrue (is_over r f) → take (length r) f ≡ r ++ []
front r f o =
    ap (take (length r)) (is_over-rest r f o)
    ∙ (take-append_seam r (drop (length r) f) ∙ sym (append-nil r))

pub one_more : (r f p : Path) (n : ℕ) (x : Name) → take n f ≡ r ++ p → slice_get f n ≡ Some x
    → take (suc n) f ≡ r ++ (p ++ x ∷ [])
one_more r f p n x so_far at =
    take-suc f n [] (slice_get_within f n x at)
    ∙ (ap (λ y. take n f ++ y ∷ []) (get_or_from_slice_get f n x [] at)
    ∙ (ap (λ t. t ++ x ∷ []) so_far ∙ append_assoc r p (x ∷ [])))

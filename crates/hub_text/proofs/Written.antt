-- Bytes that are written piece by piece.
use Rattle.std.proofs.Common.{◌≡◌, ◌+◌, ◌-◌, ◌≤◌, ℕ, List, ◌++◌, length, take, drop, sym, ap, ◌∙◌, arith, length-drop, length-take}
use Rattle.std.proofs.Math.Seq.{take-append-add, drop-append-add}
use Rattle.std.proofs.lemmas.List.{take_all, take-append-drop}

-- What is left after one more piece, and what was written.
pub rest-more : (bytes rest : List ℕ) (n k : ℕ) → n ≤ length bytes → rest ≡ drop n bytes → take (length rest - k) (drop k rest) ≡ drop (n + k) bytes
rest-more bytes rest n k l e =
    let len : length (take n bytes) ≡ n = omega (arith, length-take n bytes) in
    take_all (length rest - k) (drop k rest) (omega (arith, length-drop k rest))
    ∙ (ap (drop k) e
    ∙ (sym (drop-append-add (take n bytes) (drop n bytes) k)
    ∙ (ap (λ m. drop (m + k) (take n bytes ++ drop n bytes)) len ∙ ap (drop (n + k)) (take-append-drop n bytes))))

pub front-more : (bytes rest : List ℕ) (n k : ℕ) → n ≤ length bytes → rest ≡ drop n bytes → take n bytes ++ take k rest ≡ take (n + k) bytes
front-more bytes rest n k l e =
    let len : length (take n bytes) ≡ n = omega (arith, length-take n bytes) in
    ap (λ r. take n bytes ++ take k r) e
    ∙ (sym (take-append-add (take n bytes) (drop n bytes) k)
    ∙ (ap (λ m. take (m + k) (take n bytes ++ drop n bytes)) len ∙ ap (take (n + k)) (take-append-drop n bytes)))

-- What bounded reads have taken of an input whose bytes are known.
use Rattle.std.proofs.Common.{◌≡◌, ◌∙◌, ◌≤◌, ℕ, List, ◌++◌, length, take, Option, None, Some, sym, ap, arith, append-nil, length-append}
use Rattle.std.specs.Prelude.{IfSome}
use Rattle.std.specs.Io.KnownBytes.{Consumes, IsAtEnd}

-- Bytes that were taken are no more than there were.
pub taken-length : (a b : Option (List ℕ)) (bs : List ℕ) (n : ℕ) → Consumes a b bs → n ≤ length bs
    → IfSome a (λ xs. n ≤ length xs)
taken-length None b bs n taken l = tt
taken-length (Some xs) None bs n taken l = absurd taken
taken-length (Some xs) (Some ys) bs n taken l =
    omega (arith, ap length taken, length-append bs ys, l)

-- A read that took nothing met the end, so what was taken before it is all.
pub read-whole : (a b c : Option (List ℕ)) (items buffer : List ℕ) (n : ℕ) → Consumes a b items
    → Consumes b c (take n buffer) → n ≡ 0 → IsAtEnd c
    → IfSome a (λ xs. items ≡ xs)
read-whole None b c items buffer n first second none end = tt
read-whole (Some x) None c items buffer n first second none end = absurd first
read-whole (Some x) (Some y) None items buffer n first second none end = absurd second
read-whole (Some x) (Some y) (Some z) items buffer n first second none end =
    sym (first ∙ (ap (λ l. items ++ l) (second ∙ (ap (λ k. take k buffer ++ z) none ∙ end))
    ∙ append-nil items))

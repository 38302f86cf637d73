-- The bytes of some items, after one of them has grown.
use Rattle.std.proofs.Common.{◌≡◌, ◌∙◌, ℕ, zero, suc, List, [], ◌∷◌, ◌++◌, length, get_or, set, ap, sym, append_assoc, append-nil, arith, IsErr, MatchResult, Ok, Err, Result}
use Rattle.std.specs.List.{flat_map}

-- The last item has grown by some bytes.
pub last-grown : {B : Type 0} (f : B → List ℕ) (bs : List B) (n : ℕ) (d w : B) (more : List ℕ) → suc n ≡ length bs → f w ≡ f (get_or bs n d) ++ more
    → flat_map f (set bs n w) ≡ flat_map f bs ++ more
last-grown f [] n d w more e g = absurd (omega (arith, e))
last-grown f (b ∷ []) zero d w more e g = append-nil (f w) ∙ g ∙ ap (λ xs. xs ++ more) (sym (append-nil (f b)))
last-grown f (b ∷ []) (suc n) d w more e g = absurd (omega (arith, e))
last-grown f (b ∷ c ∷ bs) zero d w more e g = absurd (omega (arith, e))
last-grown f (b ∷ c ∷ bs) (suc n) d w more e g =
    ap (λ xs. f b ++ xs) (last-grown f (c ∷ bs) n d w more (omega (arith, e)) g) ∙ sym (append_assoc (f b) (flat_map f (c ∷ bs)) more)

-- What holds of an error.
pub when-err : {A E : Type 0} (r : Result A E) (P : A → Type 0) (Q : Type 0) → IsErr r → Q → MatchResult r P (λ _. Q)
when-err (Ok n) P Q e q = cc
when-err (Err x) P Q e q = q

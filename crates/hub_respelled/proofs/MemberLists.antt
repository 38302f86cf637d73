-- Members, one after the other.
use Rattle.std.proofs.Common.{◌≡◌, ◌∙◌, ◌+◌, ◌++◌, ℕ, suc, Bool, List, [], ◌∷◌, length, arith, ap, refl, sym}
use Rattle.hub_folded.specs.declared.member.Member.{Member}
use Rattle.hub_profile.specs.Parts.{Parts}
use Rattle.hub_respelled.specs.Members.{fold_at, members_from, members_of}

pub member-count : (fs : List Bool) (n : ℕ) (Ps : List Parts)
    → length (members_from fs n Ps) ≡ length Ps
member-count fs n [] = refl
member-count fs n (P ∷ Ps) = ap suc (member-count fs (n + 1) Ps)

abbrev member : List Bool → ℕ → Parts → Member
member fs n P = record { folds = fold_at fs n; parts = P }

one-more : (fs : List Bool) (n : ℕ) (Ps : List Parts) (P : Parts)
    → members_from fs n (Ps ++ P ∷ []) ≡ members_from fs n Ps ++ member fs (n + length Ps) P ∷ []
one-more fs n [] P = ap (λ m. member fs m P ∷ []) (omega arith)
one-more fs n (Q ∷ Ps) P =
    ap (λ Ms. member fs n Q ∷ Ms)
    (one-more fs (n + 1) Ps P
    ∙ ap (λ m. members_from fs (n + 1) Ps ++ member fs m P ∷ []) (omega arith))

pub one-more-of : (fs : List Bool) (Ps : List Parts) (P : Parts)
    → members_of fs (Ps ++ P ∷ []) ≡ members_of fs Ps ++ member fs (length Ps) P ∷ []
one-more-of fs Ps P =
    one-more fs 0 Ps P ∙ ap (λ m. members_from fs 0 Ps ++ member fs m P ∷ []) (omega arith)

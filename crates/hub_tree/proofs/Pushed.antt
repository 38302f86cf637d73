-- Lists that are copied item by item.
use Rattle.std.proofs.Common.{◌≡◌, List, [], ◌∷◌, ◌++◌, ap, sym, ◌∙◌, append_assoc}

-- A copy of the next item was pushed: what was copied and what is left are the whole list again.
pub one_pushed : {X : Type 0} (done more left rest all : List X) (x y : X) → more ≡ done ++ y ∷ [] → y ≡ x → left ≡ x ∷ rest → done ++ left ≡ all → more ++ rest ≡ all
one_pushed done more left rest all x y push same step before =
    ap (λ zs. zs ++ rest) (push ∙ ap (λ z. done ++ z ∷ []) same) ∙ append_assoc done (x ∷ []) rest ∙ ap (λ zs. done ++ zs) (sym step) ∙ before

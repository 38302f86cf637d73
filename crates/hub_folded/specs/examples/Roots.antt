-- Worked roots that are spelled in two ways where names fold, and roots that are told apart.
use Rattle.std.specs.Prelude.{◌≡◌, true, List, [], ◌∷◌, refl, codes}
use Rattle.std.proofs.Common.{zero, suc, sym, subst, ◌∙◌}
use Rattle.std.proofs.lemmas.Option.{none-some, same_Some}
use Rattle.hub_path.specs.Path.{Path, is_over, path_of}
use Rattle.hub_path.specs.laws.General.{is_over-reflexive}
use Rattle.hub_folded.specs.Fold.{fold_path, knows_path}
use Rattle.hub_folded.specs.Roots.{AreToldApart, IsSpelledTwice}
use Rattle.hub_folded.specs.Table.{unicode}

-- `/srv/Hub` and `/srv/hub`, in either order
abbrev two : List Path
two = path_of (codes "srv/Hub") ∷ path_of (codes "srv/hub") ∷ []

one_folder : IsSpelledTwice unicode two 0 1
one_folder =
    (path_of (codes "srv/Hub"), path_of (codes "srv/hub"), refl, refl, refl, refl, refl, refl)

in_turn : IsSpelledTwice unicode two 1 0
in_turn = (path_of (codes "srv/hub"), path_of (codes "srv/Hub"), refl, refl, refl, refl, refl, refl)

-- `/srv/hub` and `/srv/Hub/x`
nested : IsSpelledTwice unicode (path_of (codes "srv/hub") ∷ path_of (codes "srv/Hub/x") ∷ []) 0 1
nested =
    (path_of (codes "srv/hub"), path_of (codes "srv/Hub/x"), refl, refl, refl, refl, refl, refl)

-- Two roots are told apart if each that is known, and is over the other one up to folding, is over
-- it.
abbrev IsOverTwice : Path → Path → Type 0
IsOverTwice r s =
    knows_path unicode r ≡ true → is_over (fold_path unicode r) (fold_path unicode s) ≡ true
    → is_over r s ≡ true

told : (x y : Path) → IsOverTwice x y → IsOverTwice y x → AreToldApart unicode (x ∷ y ∷ [])
told x y first second zero zero r s at_r at_s known also over =
    subst (λ t. is_over r t ≡ true) (sym (same_Some x r at_r) ∙ same_Some x s at_s)
    (is_over-reflexive r)
told x y first second zero (suc zero) r s at_r at_s known also over =
    subst (λ t. IsOverTwice t s) (same_Some x r at_r)
    (subst (IsOverTwice x) (same_Some y s at_s) first) known over
told x y first second (suc zero) zero r s at_r at_s known also over =
    subst (λ t. IsOverTwice t s) (same_Some y r at_r)
    (subst (IsOverTwice y) (same_Some x s at_s) second) known over
told x y first second (suc zero) (suc zero) r s at_r at_s known also over =
    subst (λ t. is_over r t ≡ true) (sym (same_Some y r at_r) ∙ same_Some y s at_s)
    (is_over-reflexive r)
told x y first second zero (suc (suc j)) r s at_r at_s known also over = absurd (none-some s at_s)
told x y first second (suc zero) (suc (suc j)) r s at_r at_s known also over =
    absurd (none-some s at_s)
told x y first second (suc (suc i)) j r s at_r at_s known also over = absurd (none-some r at_r)

-- `/srv/hub` and `/srv/hub/x`: nested, as they are spelled
below : AreToldApart unicode (path_of (codes "srv/hub") ∷ path_of (codes "srv/hub/x") ∷ [])
below =
    told (path_of (codes "srv/hub")) (path_of (codes "srv/hub/x")) (λ known over. refl)
    (λ known over. over)

-- `/a` and `/b`
others : AreToldApart unicode (path_of (codes "a") ∷ path_of (codes "b") ∷ [])
others = told (path_of (codes "a")) (path_of (codes "b")) (λ known over. over) (λ known over. over)

-- a root whose last name, of one Hangul syllable, isn't known
unknown : AreToldApart unicode
    ((codes "Hub" ∷ (0xAC00 ∷ []) ∷ []) ∷ (codes "hub" ∷ (0xAC00 ∷ []) ∷ []) ∷ [])
unknown =
    told (codes "Hub" ∷ (0xAC00 ∷ []) ∷ []) (codes "hub" ∷ (0xAC00 ∷ []) ∷ []) (λ known over. known)
    (λ known over. known)

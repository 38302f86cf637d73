-- Pieces, folded by the program's table.
use Rattle.std.proofs.Common.{◌≡◌, ℕ, List, [], ◌∷◌, ◌++◌, map, refl, sym, ap, ◌∙◌, Result, IfOk}
use Rattle.std.specs.List.{flat_map}
use Rattle.std.proofs.lemmas.Result.{IfOk-weaker}
use Rattle.hub_glob.specs.declared.piece.Piece.{Piece}
use Rattle.hub_glob.specs.declared.piece.Piece.TheVariants.{Lit, OneOf}
use Rattle.hub_folded.specs.Lines.{fold_piece}
use Rattle.hub_folded.specs.Table.{folded_character, table_image, unicode}

literals-fold : (c : ℕ) → map (λ d. Lit d) (folded_character c) ≡ fold_piece unicode (Lit c)
unfolding folded_character table_image
literals-fold c = refl

members-fold : (cs : List ℕ) → (OneOf (flat_map folded_character cs) ∷ []) ≡ fold_piece unicode (OneOf cs)
unfolding folded_character table_image
members-fold cs = refl

pub lit-folds : {U E : Type 0} (r : Result U E) (p : Piece) (c : ℕ) (old new : List Piece) → p ≡ Lit c
    → IfOk r (λ x. new ≡ old ++ map (λ d. Lit d) (folded_character c))
    → IfOk r (λ x. new ≡ old ++ fold_piece unicode p)
lit-folds r p c old new is h =
    IfOk-weaker r (λ x. new ≡ old ++ map (λ d. Lit d) (folded_character c)) (λ x. new ≡ old ++ fold_piece unicode p)
    (λ x e. e ∙ ap (λ ps. old ++ ps) (literals-fold c ∙ sym (ap (fold_piece unicode) is))) h

pub set-folds : (p : Piece) (cs es ds : List ℕ) (old new : List Piece) → p ≡ OneOf cs → es ≡ cs
    → ds ≡ flat_map folded_character es → new ≡ old ++ OneOf ds ∷ [] → new ≡ old ++ fold_piece unicode p
set-folds p cs es ds old new is same folded more =
    more
    ∙ ap (λ ps. old ++ ps)
    (ap (λ xs. OneOf xs ∷ []) (folded ∙ ap (flat_map folded_character) same)
    ∙ (members-fold cs ∙ sym (ap (fold_piece unicode) is)))

-- Lists gone through from the front: what is done already, and what is left to do, make the whole.
use Rattle.std.proofs.Common.{◌≡◌, ℕ, suc, zero, ◌+◌, ◌<◌, ◌≤◌, Bool, false, List, [], ◌∷◌, ◌++◌, length, drop, get_or, refl, sym, ap, ◌∙◌, subst, append-nil, append_assoc, Result}
use Rattle.std.specs.Prelude.{IfOk, slice_index_or}
use Rattle.std.proofs.lemmas.List.{drop_all, get_or-drop}
use Rattle.hub_glob.specs.declared.piece.Piece.{Piece}
use Rattle.hub_text.specs.laws.List.{next-drop}
use Rattle.hub_text.specs.laws.Test.{tail}
use Rattle.hub_automaton.specs.forms.Stepping.{last_spot, ended_matches}
use Rattle.hub_automaton.specs.Words.{packed}

-- The tests behind the first one, from a place on.
pub drop-of_tail : (n : ℕ) (bs : List Bool) → drop n (tail bs) ≡ drop (suc n) bs
drop-of_tail zero [] = refl
drop-of_tail (suc n) [] = refl
drop-of_tail n (b ∷ bs) = refl

-- A list made part by part: what is made, and what the rest makes, are the whole.
pub rest_step : {X Y : Type 0} (g h : List X → List Y) (xs : List X) (i : ℕ) (x : X) (part new more whole : List Y) → i < length xs → x ≡ get_or xs i x
    → g (x ∷ drop (i + 1) xs) ≡ part ++ h (drop (i + 1) xs) → more ≡ new ++ part → new ++ g (drop i xs) ≡ whole → more ++ h (drop (i + 1) xs) ≡ whole
rest_step g h xs i x part new more whole l is e m k =
    let rest = h (drop (i + 1) xs) in
    ap (λ ys. ys ++ rest) m ∙ append_assoc new part rest ∙ ap (λ ys. new ++ ys) (sym e) ∙ ap (λ ys. new ++ g ys) (sym (next-drop xs i x l is)) ∙ k

pub rest_end : {X Y : Type 0} (g : List X → List Y) (xs : List X) (i : ℕ) (new whole : List Y) → g [] ≡ [] → length xs ≤ i → new ++ g (drop i xs) ≡ whole → new ≡ whole
rest_end g xs i new whole e l k =
    sym (append-nil new) ∙ ap (λ ys. new ++ ys) (sym e) ∙ ap (λ ys. new ++ g ys) (sym (drop_all i xs l)) ∙ k

-- The same where what is made is packed at the end.
pub rest_packed : {X E : Type 0} (g : List X → List Bool) (xs : List X) (i : ℕ) (new whole bits : List Bool) (r : Result (List ℕ) E) → g [] ≡ [] → length xs ≤ i
    → new ++ g (drop i xs) ≡ whole → bits ≡ new → IfOk r (λ ws. ws ≡ packed bits) → IfOk r (λ ws. ws ≡ packed whole)
rest_packed g xs i new whole bits r e l k same h =
    subst (λ (bs : List Bool). IfOk r (λ ws. ws ≡ packed bs)) (same ∙ rest_end g xs i new whole e l k) h

-- Whether a choice has ended, by its last spot.
pub last_is : (here : Bool) (c : List Piece) (old : List Bool) → last_spot here c old ≡ slice_index_or (here ∷ old) (length c) false
last_is here [] old = refl
last_is here (p ∷ ps) [] = last_is false ps [] ∙ past (length ps) where
  past : (n : ℕ) → slice_index_or (false ∷ []) n false ≡ false
  past zero = refl
  past (suc n) = refl
last_is here (p ∷ ps) (b ∷ old) = last_is b ps old

pub ended_is : (c : List Piece) (old : List Bool) → ended_matches c old ≡ slice_index_or old (length c) false
ended_is c [] = last_is false c [] ∙ past (length c) where
  past : (n : ℕ) → slice_index_or (false ∷ []) n false ≡ false
  past zero = refl
  past (suc n) = refl
ended_is c (b ∷ old) = last_is b c old

pub ended_place : (c : List Piece) (live : List Bool) (place : ℕ) (b : Bool) → b ≡ slice_index_or live (place + length c) false → ended_matches c (drop place live) ≡ b
ended_place c live place b e = ended_is c (drop place live) ∙ get_or-drop place live (length c) false ∙ sym e

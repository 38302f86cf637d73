-- The choices of a pattern, made from the left.
use Rattle.std.proofs.Common.{◌≡◌, ℕ, ◌+◌, ◌<◌, List, [], ◌∷◌, ◌++◌, map, length, take, drop, get_or, refl, sym, ap, ◌∙◌, arith, append_assoc, append-nil}
use Rattle.std.specs.Prelude.{slice_set}
use Rattle.std.specs.List.{flat_map}
use Rattle.std.proofs.lemmas.List.{map-append, map-id, map_more, drop_more, set_at, get_or_at, length-map, length-take-le, flat_map_more, take_more}
use Rattle.hub_glob.specs.declared.piece.Piece.{Piece}
use Rattle.hub_glob.specs.declared.piece.Part.{Part}
use Rattle.hub_glob.specs.declared.piece.Part.TheVariants.{One, Brace}
use Rattle.hub_glob.specs.Glob.{choices}
use Rattle.hub_glob.specs.forms.Choosing.{each_with_each, with_part}

abbrev Lists : Type 0
Lists = List (List Piece)

flat_append : (f : List Piece → Lists) (xs ys : Lists) → flat_map f (xs ++ ys) ≡ flat_map f xs ++ flat_map f ys
flat_append f [] ys = refl
flat_append f (x ∷ xs) ys = ap (λ zs. f x ++ zs) (flat_append f xs ys) ∙ sym (append_assoc (f x) (flat_map f xs) (flat_map f ys))

put_front : (l c : List Piece) (ds : Lists) → map (λ d. l ++ d) (map (λ d. c ++ d) ds) ≡ map (λ d. (l ++ c) ++ d) ds
put_front l c [] = refl
put_front l c (d ∷ ds) = (λ i. sym (append_assoc l c d) i ∷ put_front l c ds i)

front_of_each : (l : List Piece) (cs ds : Lists) → map (λ d. l ++ d) (each_with_each cs ds) ≡ each_with_each (map (λ c. l ++ c) cs) ds
front_of_each l [] ds = refl
front_of_each l (c ∷ cs) ds =
    map-append (λ d. l ++ d) (map (λ d. c ++ d) ds) (each_with_each cs ds) ∙ (λ i. put_front l c ds i ++ front_of_each l cs ds i)

each-each : (ls cs ds : Lists) → each_with_each ls (each_with_each cs ds) ≡ each_with_each (each_with_each ls cs) ds
each-each [] cs ds = refl
each-each (l ∷ ls) cs ds =
    (λ i. front_of_each l cs ds i ++ each-each ls cs ds i)
    ∙ sym (flat_append (λ c. map (λ d. c ++ d) ds) (map (λ c. l ++ c) cs) (each_with_each ls cs))

put_one : (p : Piece) (l : List Piece) (ds : Lists) → map (λ d. l ++ d) (map (λ d. p ∷ d) ds) ≡ map (λ d. (l ++ p ∷ []) ++ d) ds
put_one p l [] = refl
put_one p l (d ∷ ds) = (λ i. sym (append_assoc l (p ∷ []) d) i ∷ put_one p l ds i)

each-one : (p : Piece) (ls ds : Lists) → each_with_each ls (map (λ d. p ∷ d) ds) ≡ each_with_each (map (λ c. c ++ p ∷ []) ls) ds
each-one p [] ds = refl
each-one p (l ∷ ls) ds = (λ i. put_one p l ds i ++ each-one p ls ds i)

pub part_chosen : (ls : Lists) (p : Part) (ps : List Part) → each_with_each ls (choices (p ∷ ps)) ≡ each_with_each (with_part ls p) (choices ps)
part_chosen ls (One p) ps = each-one p ls (choices ps)
part_chosen ls (Brace cs) ps = each-each ls cs (choices ps)

pub none_chosen : (ds : Lists) → each_with_each ([] ∷ []) ds ≡ ds
none_chosen ds = append-nil (map (λ d. d) ds) ∙ map-id ds

pub all_chosen : (ls : Lists) → each_with_each ls ([] ∷ []) ≡ ls
all_chosen [] = refl
all_chosen (l ∷ ls) = (λ i. append-nil l i ∷ all_chosen ls i)

pub chosen_step : (ls more : Lists) (ps : List Part) (i : ℕ) (p : Part) (whole : Lists) → i < length ps → p ≡ get_or ps i p
    → more ≡ with_part ls p → each_with_each ls (choices (drop i ps)) ≡ whole → each_with_each more (choices (drop (i + 1) ps)) ≡ whole
chosen_step ls more ps i p whole l e m h =
    ap (λ ks. each_with_each ks (choices (drop (i + 1) ps))) m ∙ sym (part_chosen ls p (drop (i + 1) ps))
    ∙ ap (λ qs. each_with_each ls (choices qs)) (ap (λ q. q ∷ drop (i + 1) ps) e ∙ sym (drop_more ps i p l)) ∙ h

pub each_step : (ls bs : Lists) (all more : Lists) (i : ℕ) (l : List Piece) → i < length ls → l ≡ get_or ls i l → all ≡ each_with_each (take i ls) bs
    → more ≡ all ++ map (λ d. l ++ d) bs → more ≡ each_with_each (take (i + 1) ls) bs
each_step ls bs all more i l n e h m =
    m ∙ ap (λ xs. xs ++ map (λ d. l ++ d) bs) h ∙ flat_map_more (λ c. map (λ d. c ++ d) bs) [] (take i ls) l
    ∙ ap (λ ks. each_with_each ks bs) (ap (λ k. take i ls ++ k ∷ []) e ∙ sym (take_more ls i l n))

pub push_step : (xs ys : Lists) (i : ℕ) (w y : List Piece) (p : Piece) → ys ≡ map (λ c. c ++ p ∷ []) (take i xs) ++ drop i xs → i < length xs
    → w ≡ get_or ys i w → y ≡ w ++ p ∷ [] → slice_set ys i y ≡ map (λ c. c ++ p ∷ []) (take (i + 1) xs) ++ drop (i + 1) xs
push_step xs ys i w y p h l e m =
    let front = map (λ c. c ++ p ∷ []) (take i xs) in
    let x = get_or xs i w in
    let rest = drop (i + 1) xs in
    let shape : ys ≡ front ++ x ∷ rest = h ∙ ap (λ zs. front ++ zs) (drop_more xs i w l) in
    let size : length front ≡ i = length-map (take i xs) (λ c. c ++ p ∷ []) ∙ length-take-le i xs (omega arith) in
    let same : w ≡ x = e ∙ ap (λ zs. get_or zs i w) shape ∙ get_or_at front x rest w i size in
    (λ k. slice_set (shape k) i (m k)) ∙ ap (λ v. slice_set (front ++ x ∷ rest) i (v ++ p ∷ [])) same
    ∙ set_at front x rest (x ++ p ∷ []) i size ∙ sym (append_assoc front ((x ++ p ∷ []) ∷ []) rest)
    ∙ ap (λ zs. zs ++ rest) (sym (map_more (λ c. c ++ p ∷ []) xs i w l))

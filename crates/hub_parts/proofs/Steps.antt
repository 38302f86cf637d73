-- Steps of the loops.
use Rattle.std.proofs.Common.{◌≡◌, ◌<◌, ◌+◌, ℕ, zero, suc, List, [], ◌∷◌, ◌++◌, map, reverse, take, drop, length, get_or, refl, sym, ap, ◌∙◌, arith, add-one, append-nil, append_assoc}
use Rattle.std.specs.Prelude.{slice_get, Some}
use Rattle.std.proofs.lemmas.List.{reverse-append, reverse-reverse}
use Rattle.std.proofs.lemmas.Option.{none-some, same_Some}
use Rattle.hub_path.specs.Path.{Name, Path}
use Rattle.hub_text.specs.laws.List.{next-drop}
use Rattle.hub_profile.specs.Parts.{Parts}
use Rattle.hub_parts.specs.Near.{over_only, pairs_below}
use Rattle.hub_parts.specs.Values.{values_from, values_of_one}
use Rattle.hub_parts.specs.declared.kept_value.KeptValue.{KeptValue}

-- A stack that is turned.
pub turned_back : (above left : List KeptValue) → reverse above ≡ left → above ≡ reverse left
turned_back above left e = sym (reverse-reverse above) ∙ ap reverse e

pub placed_pairs : (above left : List KeptValue) (profile : ℕ) (old new : List (ℕ × ℕ)) → reverse above ≡ left
    → new ≡ old ++ map (λ (l : KeptValue). (l.profile, profile)) above → new ≡ old ++ map (λ (l : KeptValue). (l.profile, profile)) (reverse left)
placed_pairs above left profile old new e h = h ∙ ap (λ xs. old ++ map (λ (l : KeptValue). (l.profile, profile)) xs) (turned_back above left e)

pub placed_above : (above left new : List KeptValue) (copy value : KeptValue) → reverse above ≡ left → copy ≡ value → new ≡ above ++ copy ∷ []
    → reverse new ≡ value ∷ left
placed_above above left new copy value e same h =
    ap reverse h ∙ (reverse-append above (copy ∷ []) ∙ (ap (λ xs. copy ∷ xs) e ∙ ap (λ c. c ∷ left) same))

-- One value more of the sweep.
pub swept_more : (total pairs new : List (ℕ × ℕ)) (above next rest later : List KeptValue) (value : KeptValue)
    → pairs ++ pairs_below (reverse above) rest ≡ total → rest ≡ value ∷ later
    → new ≡ pairs ++ map (λ (l : KeptValue). (l.profile, value.profile)) (reverse (over_only value.path (reverse above)))
    → reverse next ≡ value ∷ over_only value.path (reverse above)
    → new ++ pairs_below (reverse next) later ≡ total
swept_more total pairs new above next rest later value so e h k =
    let own = map (λ (l : KeptValue). (l.profile, value.profile)) (reverse (over_only value.path (reverse above))) in
    ap (λ xs. xs ++ pairs_below (reverse next) later) h
    ∙ (ap (λ xs. (pairs ++ own) ++ pairs_below xs later) k
    ∙ (append_assoc pairs own (pairs_below (value ∷ over_only value.path (reverse above)) later)
    ∙ (sym (ap (λ xs. pairs ++ pairs_below (reverse above) xs) e) ∙ so)))

pub swept_end : (total pairs : List (ℕ × ℕ)) (above rest : List KeptValue) → pairs ++ pairs_below (reverse above) rest ≡ total → rest ≡ [] → pairs ≡ total
swept_end total pairs above rest so e = sym (append-nil pairs) ∙ (sym (ap (λ xs. pairs ++ pairs_below (reverse above) xs) e) ∙ so)

-- One name more.
taken : {X : Type 0} (xs : List X) (i : ℕ) (x : X) → slice_get xs i ≡ Some x → take (suc i) xs ≡ take i xs ++ x ∷ []
taken [] i x e = absurd (none-some x e)
taken (y ∷ xs) zero x e = ap (λ z. z ∷ []) (same_Some y x e)
taken (y ∷ xs) (suc i) x e = ap (λ zs. y ∷ zs) (taken xs i x e)

take-more : {X : Type 0} (xs : List X) (i : ℕ) (x : X) → slice_get xs i ≡ Some x → take (i + 1) xs ≡ take i xs ++ x ∷ []
take-more xs i x e = ap (λ n. take n xs) (add-one i) ∙ taken xs i x e

pub named_more : (root path whole next : Path) (i : ℕ) (n m : Name) → whole ≡ root ++ take i path → slice_get path i ≡ Some n → m ≡ n
    → next ≡ whole ++ m ∷ [] → next ≡ root ++ take (i + 1) path
named_more root path whole next i n m so at same h =
    h ∙ (ap (λ p. p ++ m ∷ []) so ∙ (append_assoc root (take i path) (m ∷ [])
    ∙ (ap (λ x. root ++ (take i path ++ x ∷ [])) same ∙ sym (ap (λ p. root ++ p) (take-more path i n at)))))

-- One profile more.
pub valued_more : (Ps : List Parts) (i : ℕ) (P : Parts) (total old new : List KeptValue) → i < length Ps → P ≡ get_or Ps i P
    → old ++ values_from i (drop i Ps) ≡ total → new ≡ old ++ values_of_one i P → new ++ values_from (i + 1) (drop (i + 1) Ps) ≡ total
valued_more Ps i P total old new less at so h =
    let rest = drop (i + 1) Ps in
    ap (λ xs. xs ++ values_from (i + 1) rest) h
    ∙ (ap (λ n. (old ++ values_of_one i P) ++ values_from n rest) (add-one i)
    ∙ (append_assoc old (values_of_one i P) (values_from (suc i) rest)
    ∙ (sym (ap (λ xs. old ++ values_from i xs) (next-drop Ps i P less at)) ∙ so)))

gone : {X : Type 0} (xs : List X) (n : ℕ) → n ≡ length xs → drop n xs ≡ []
gone [] n e = rw e refl
gone (x ∷ xs) zero e = absurd (omega (arith, e))
gone (x ∷ xs) (suc n) e = gone xs n (omega (arith, e))

pub valued_end : (Ps : List Parts) (n : ℕ) (total all : List KeptValue) → n ≡ length Ps → all ++ values_from n (drop n Ps) ≡ total → all ≡ total
valued_end Ps n total all e so = sym (append-nil all) ∙ (sym (ap (λ xs. all ++ values_from n xs) (gone Ps n e)) ∙ so)

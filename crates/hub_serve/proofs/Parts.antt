-- The bytes of some items, one after another: up to one of them, of a part of it, and of it.
use Rattle.std.proofs.Common.{◌≡◌, ◌<◌, ◌+◌, ℕ, suc, List, [], ◌∷◌, ◌++◌, length, take, drop, get_or, sym, ap, ◌∙◌, append_assoc, append-nil, take-append-drop, length-append, subst, Option, Vec, Global}
use Rattle.std.specs.List.{flat_map}
use Rattle.std.proofs.lemmas.List.{take_at, take_more}
use Rattle.std.proofs.lemmas.List.Concat.{flat_map-append}
use Rattle.std.proofs.Math.Seq.{drop-cons}
use Rattle.std.specs.Io.KnownBytes.{Appends}
use Rattle.std.proofs.KnownBytes.{Appends-trans}

-- The bytes of a block.
abbrev pub block_bytes : Vec ℕ Global → List ℕ
block_bytes b = b.items

parts : {B : Type 0} (f : B → List ℕ) (bs : List B) (i : ℕ) (d : B) → i < length bs
    → flat_map f bs ≡ flat_map f (take i bs) ++ (f (get_or bs i d) ++ flat_map f (drop (suc i) bs))
parts f bs i d h =
    ap (flat_map f) (sym (take-append-drop i bs) ∙ ap (λ xs. take i bs ++ xs) (drop-cons bs i d h))
    ∙ flat_map-append f (take i bs) (get_or bs i d ∷ drop (suc i) bs)

one_more : {B : Type 0} (f : B → List ℕ) (bs : List B) (i : ℕ) (d : B) → i < length bs
    → flat_map f (take (i + 1) bs) ≡ flat_map f (take i bs) ++ f (get_or bs i d)
one_more f bs i d h =
    ap (flat_map f) (take_more bs i d h)
    ∙ flat_map-append f (take i bs) (get_or bs i d ∷ []) ∙ ap (λ xs. flat_map f (take i bs) ++ xs) (append-nil (f (get_or bs i d)))

-- A prefix of an item, after all items before it, is a prefix of all.
cut : {B : Type 0} (f : B → List ℕ) (bs : List B) (i n : ℕ) (d : B) → i < length bs
    → (m : ℕ) × (take m (flat_map f bs) ≡ flat_map f (take i bs) ++ take n (f (get_or bs i d)))
cut f bs i n d h =
    let p : List ℕ = flat_map f (take i bs) in
    let b : List ℕ = f (get_or bs i d) in
    let r : List ℕ = flat_map f (drop (suc i) bs) in
    let whole : flat_map f bs ≡ (p ++ take n b) ++ (drop n b ++ r) =
    parts f bs i d h ∙ ap (λ xs. p ++ (xs ++ r)) (sym (take-append-drop n b))
    ∙ ap (λ xs. p ++ xs) (append_assoc (take n b) (drop n b) r) ∙ sym (append_assoc p (take n b) (drop n b ++ r)) in (
      length p + length (take n b),
      ap (take (length p + length (take n b))) whole ∙ take_at (p ++ take n b) (drop n b ++ r) _ (length-append p (take n b)),
    )

-- All items before one were written, and then all of that one.
pub grown : {B : Type 0} (f : B → List ℕ) (bs : List B) (i : ℕ) (b : B) (bytes : List ℕ) (old mid new : Option (List ℕ)) → i < length bs → b ≡ get_or bs i b → bytes ≡ f b
    → Appends old mid (flat_map f (take i bs)) → Appends mid new bytes → Appends old new (flat_map f (take (i + 1) bs))
grown f bs i b bytes old mid new h is same done more =
    subst (Appends old new) (ap (λ xs. flat_map f (take i bs) ++ xs) (same ∙ ap f is) ∙ sym (one_more f bs i b h))
    (Appends-trans old mid new (flat_map f (take i bs)) bytes done more)

-- Or a prefix of it.
pub cut_off : {B : Type 0} (f : B → List ℕ) (bs : List B) (i : ℕ) (b : B) (bytes : List ℕ) (old mid new : Option (List ℕ)) (n : ℕ) → i < length bs → b ≡ get_or bs i b → bytes ≡ f b
    → Appends old mid (flat_map f (take i bs)) → Appends mid new (take n bytes) → (m : ℕ) × Appends old new (take m (flat_map f bs))
cut_off f bs i b bytes old mid new n h is same done more =
    let part = cut f bs i n b h in (
      part.0,
      subst (Appends old new) (ap (λ xs. flat_map f (take i bs) ++ take n xs) (same ∙ ap f is) ∙ sym part.1)
          (Appends-trans old mid new (flat_map f (take i bs)) (take n bytes) done more),
    )

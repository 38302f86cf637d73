-- The next place with a key, and the pairs that are found by it.
use Rattle.std.proofs.Common.{◌≡◌, ◌<◌, ◌≤◌, ◌+◌, ℕ, zero, suc, Bool, true, false, List, [], ◌∷◌, ◌++◌, length, map, reverse, get_or, drop, Option, Some, None, cond, refl, sym, ap, ◌∙◌, subst, append_assoc, append-nil, arith}
use Rattle.std.specs.Prelude.{slice_get, if◌then◌else◌}
use Rattle.std.specs.FinMap.{nat_cmp-IsAntisymmetric, slice_cmp-IsAntisymmetric}
use Rattle.std.specs.Ordering.{is_eq, ordering_then}
use Rattle.std.specs.declared.cmp.Ordering.{Ordering}
use Rattle.std.specs.declared.cmp.Ordering.TheVariants.{Less, Equal, Greater}
use Rattle.std.proofs.lemmas.List.{drop_all, drop-drop, get_or_default, length-drop, reverse-append}
use Rattle.std.proofs.lemmas.Option.{same_Some, slice_get_read}
use denote.Ref.{Bor}
use Rattle.hub_unison.specs.Keys.{Key, is_key, next_place, next_places, pairs_after, pairs_of_key, pairs_of_keys, pairs_on, text_cmp}

abbrev Pairs : Type 0
Pairs = List (ℕ × ℕ)

-- Only equal keys tie.
both-tied : (o p : Ordering) → is_eq (ordering_then o p) ≡ true → (o ≡ Equal) × (p ≡ Equal)
both-tied Less p h = cc
both-tied Equal Less h = cc
both-tied Equal Equal h = (refl, refl)
both-tied Equal Greater h = cc
both-tied Greater p h = cc

pub text-exact : (s t : List ℕ) → text_cmp s t ≡ Equal → s ≡ t
text-exact s t e = slice_cmp-IsAntisymmetric nat_cmp-IsAntisymmetric s t e

pub same-key : (k l : Key) → is_key k l ≡ true → k ≡ l
same-key k l h =
    let tied = both-tied (text_cmp k.0 l.0) (text_cmp k.1 l.1) h in
    let first : k.0 ≡ l.0 = text-exact k.0 l.0 tied.0 in
    let second : k.1 ≡ l.1 = text-exact k.1 l.1 tied.1 in
    λ t. (first t, second t)

drop-below : (j : ℕ) (all : List Key) (l : Key) (ks : List Key) → drop j all ≡ l ∷ ks → j < length all
drop-below j all l ks at = omega (arith, ap length at, length-drop j all)

drop-later : (j : ℕ) (all : List Key) (l : Key) (ks : List Key) → drop j all ≡ l ∷ ks → drop (j + 1) all ≡ ks
drop-later j all l ks at = sym (drop-drop 1 j all) ∙ ap (λ (rest : List Key). drop 1 rest) at

-- Where there is no next place, there is no pair.
no-more : (b : Bool) (j : ℕ) (later : Option ℕ) (x : ℕ × ℕ) (ps : Pairs) → (later ≡ None → ps ≡ [])
    → (if b then Some j else later) ≡ None → (if b then x ∷ [] else []) ++ ps ≡ []
no-more true j later x ps f h = cc
no-more false j later x ps f h = f h

none-after : (i : ℕ) (k : Key) (j : ℕ) (ks : List Key) → next_place k j ks ≡ None → pairs_of_key i k j ks ≡ []
none-after i k j [] h = refl
none-after i k j (l ∷ ks) h =
    no-more (is_key l k) j (next_place k (j + 1) ks) (i, j) (pairs_of_key i k (j + 1) ks)
    (λ e. none-after i k (j + 1) ks e) h

-- Else the first pair is with it, and the others are those after it.
abbrev Follows : List Key → ℕ → ℕ → ℕ → Pairs → Type 0
Follows all i j m ps = (ps ≡ (i, m) ∷ pairs_after i m all) × (m < length all) × (j ≤ m)

at-next : (all : List Key) (i : ℕ) (k : Key) (j m : ℕ) (l : Key) (ks : List Key) (b : Bool) → is_key l k ≡ b
    → drop j all ≡ l ∷ ks
    → (next_place k (j + 1) ks ≡ Some m → Follows all i (j + 1) m (pairs_of_key i k (j + 1) ks))
    → (if b then Some j else next_place k (j + 1) ks) ≡ Some m
    → Follows all i j m ((if b then (i, j) ∷ [] else []) ++ pairs_of_key i k (j + 1) ks)
at-next all i k j m l ks true is at f h =
    let same : pairs_of_key i k (j + 1) ks ≡ pairs_after i j all =
    ap (λ r. pairs_of_key i r (j + 1) ks) (sym (same-key l k is)) ∙ ap (pairs_on i j) (sym at) in
    subst (λ n. Follows all i j n ((i, j) ∷ pairs_of_key i k (j + 1) ks)) (same_Some j m h) (
      ap (λ ps. (i, j) ∷ ps) same,
      drop-below j all l ks at,
      omega arith,
    )
at-next all i k j m l ks false is at f h = let w = f h in (w.0, w.1, omega (arith, w.2))

some-after : (all : List Key) (i : ℕ) (k : Key) (j m : ℕ) (ks : List Key) → drop j all ≡ ks
    → next_place k j ks ≡ Some m → Follows all i j m (pairs_of_key i k j ks)
some-after all i k j m [] at h = absurd cc
some-after all i k j m (l ∷ ks) at h =
    at-next all i k j m l ks (is_key l k) refl at
    (λ e. some-after all i k (j + 1) m ks (drop-later j all l ks at) e) h

pub no-value : (o : Option ℕ) → ((m : ℕ) → o ≡ Some m → ⊥) → o ≡ None
no-value None f = refl
no-value (Some m) f = absurd (f m refl)

-- The same of the first of some keys, which has place j.
abbrev next_on : ℕ → List Key → Option ℕ
next_on j [] = None
next_on j (k ∷ ks) = next_place k (j + 1) ks

none-on : (i j : ℕ) (ks : List Key) → next_on j ks ≡ None → pairs_on i j ks ≡ []
none-on i j [] h = refl
none-on i j (k ∷ ks) h = none-after i k (j + 1) ks h

some-on : (all : List Key) (i j m : ℕ) (ks : List Key) → drop j all ≡ ks → next_on j ks ≡ Some m
    → Follows all i (j + 1) m (pairs_on i j ks)
some-on all i j m [] at h = absurd cc
some-on all i j m (k ∷ ks) at h = some-after all i k (j + 1) m ks (drop-later j all k ks at) h

pub length-next : (j : ℕ) (ks : List Key) → length (next_places j ks) ≡ length ks
length-next j [] = refl
length-next j (k ∷ ks) = ap suc (length-next (j + 1) ks)

next-read : (ks : List Key) (j i n : ℕ) → n ≡ j + i → i < length ks
    → slice_get (next_places j ks) i ≡ Some (next_on n (drop i ks))
next-read [] j i n e l = absurd (omega (arith, l))
next-read (k ∷ ks) j zero n e l = let same : j ≡ n = omega (arith, e) in ap (λ m. Some (next_place k (m + 1) ks)) same
next-read (k ∷ ks) j (suc i) n e l = next-read ks (j + 1) i n (omega (arith, e)) (omega (arith, l))

module _ (next : List (Option ℕ)) (i place : ℕ) (here : Option ℕ) (l : place < length next) (is : get_or next place None ≡ here) where
  module _ (ks : List Key) (e : next ≡ next_places 0 ks) where
    below : place < length ks
    below = omega (arith, l, ap length e, length-next 0 ks)

    read : next_on place (drop place ks) ≡ here
    read =
        sym (same_Some (get_or next place None) (next_on place (drop place ks))
        (sym (slice_get_read next _ place (get_or next place None) refl l (get_or_default next place None (get_or next place None) l))
        ∙ (ap (λ ns. slice_get ns place) e ∙ next-read ks 0 place place (omega arith) below)))
        ∙ is

    followed : (m : ℕ) → here ≡ Some m → Follows ks i (place + 1) m (pairs_after i place ks)
    followed m some = some-on ks i place m (drop place ks) refl (read ∙ some)

    -- One more pair is found.
    pub pair-more : (m : ℕ) → here ≡ Some m → (old new all : Pairs) → old ++ pairs_after i place ks ≡ all
        → new ≡ old ++ (i, m) ∷ [] → new ++ pairs_after i m ks ≡ all
    pair-more m some old new all kept added =
        ap (λ ps. ps ++ pairs_after i m ks) added
        ∙ (append_assoc old ((i, m) ∷ []) (pairs_after i m ks)
        ∙ (ap (λ ps. old ++ ps) (sym (followed m some).0) ∙ kept))

    pub pair-last : here ≡ None → (old all : Pairs) → old ++ pairs_after i place ks ≡ all → old ≡ all
    pair-last none old all kept =
        sym (append-nil old)
        ∙ (ap (λ ps. old ++ ps) (sym (none-on i place (drop place ks) (read ∙ none))) ∙ kept)

    -- It is with a later place.
    pub place-more : (m : ℕ) → here ≡ Some m → (m < length next) × (place < m)
    place-more m some =
        let w = followed m some in
        (omega (arith, w.1, ap length e, length-next 0 ks), omega (arith, w.2))

-- All pairs of a place are added.
from-here : (i : ℕ) (ks rest : List Key) → i < length ks → drop i ks ≡ rest
    → pairs_of_keys i rest ≡ pairs_on i i rest ++ pairs_of_keys (i + 1) (drop (i + 1) ks)
from-here i ks [] l at = absurd (omega (arith, l, ap length at, length-drop i ks))
from-here i ks (k ∷ rest) l at =
    ap (λ qs. pairs_of_key i k (i + 1) rest ++ pairs_of_keys (i + 1) qs) (sym (drop-later i ks k rest at))

pub places-more : (i : ℕ) (ks : List Key) (old new all : Pairs) → i < length ks
    → old ++ pairs_of_keys i (drop i ks) ≡ all → new ≡ old ++ pairs_after i i ks
    → new ++ pairs_of_keys (i + 1) (drop (i + 1) ks) ≡ all
places-more i ks old new all l kept added =
    ap (λ ps. ps ++ pairs_of_keys (i + 1) (drop (i + 1) ks)) added
    ∙ (append_assoc old (pairs_after i i ks) (pairs_of_keys (i + 1) (drop (i + 1) ks))
    ∙ (ap (λ ps. old ++ ps) (sym (from-here i ks (drop i ks) l refl)) ∙ kept))

pub places-last : (i : ℕ) (ks : List Key) (old all : Pairs) → length ks ≤ i
    → old ++ pairs_of_keys i (drop i ks) ≡ all → old ≡ all
places-last i ks old all l kept =
    sym (append-nil old) ∙ (ap (λ qs. old ++ pairs_of_keys i qs) (sym (drop_all i ks l)) ∙ kept)

-- A map from keys to the next places with them, and the places that it answered.
abbrev pub Texts : Type 0
Texts = Bor (List ℕ) × Bor (List ℕ)

abbrev pub now : Texts → Key
now q = (q.0.now, q.1.now)

abbrev pub texts_cmp : Texts → Texts → Ordering
texts_cmp x y = ordering_then (text_cmp x.0.now y.0.now) (text_cmp x.1.now y.1.now)

module _ {X : Type 0} (key : X → Key) (xs : List X) (i : ℕ) (x : X) (own : Texts) (e : drop i xs ≡ x ∷ drop (i + 1) xs) (is : now own ≡ key x) where
  pub map-more : (old new : Texts → Option ℕ) → ((q : Texts) → new q ≡ cond (is_eq (texts_cmp own q)) (Some i) (old q))
      → ((q : Texts) → old q ≡ next_place (now q) (i + 1) (map key (drop (i + 1) xs)))
      → (q : Texts) → new q ≡ next_place (now q) i (map key (drop i xs))
  map-more old new updates kept q =
      updates q
      ∙ ((λ t. cond (is_key (is t) (now q)) (Some i) (kept q t))
      ∙ ap (λ ys. next_place (now q) i (map key ys)) (sym e))

  pub next-more : (old : Texts → Option ℕ) (told : Option ℕ) (before after : List (Option ℕ))
      → ((q : Texts) → old q ≡ next_place (now q) (i + 1) (map key (drop (i + 1) xs))) → told ≡ old own
      → reverse before ≡ next_places (i + 1) (map key (drop (i + 1) xs)) → after ≡ before ++ told ∷ []
      → reverse after ≡ next_places i (map key (drop i xs))
  next-more old told before after kept answer places added =
      let first : told ≡ next_place (key x) (i + 1) (map key (drop (i + 1) xs)) =
      answer ∙ (kept own ∙ ap (λ k. next_place k (i + 1) (map key (drop (i + 1) xs))) is) in
      ap reverse added
      ∙ (reverse-append before (told ∷ [])
      ∙ ((λ t. first t ∷ places t) ∙ ap (λ ys. next_places i (map key ys)) (sym e)))

-- What pieces match for certain in Unison, they match for hubsync.
use Rattle.std.proofs.Common.{◌≡◌, ◌==◌, ℕ, Bool, true, false, not, ◌&&◌, ◌||◌, List, [], ◌∷◌, length, refl, ap, subst, arith}
use Rattle.std.specs.Prelude.{nat_lt, slice_index}
use Rattle.std.specs.List.{list_any, list_all}
use Rattle.std.proofs.lemmas.Bool.{and_parts, and_from, or_right}
use Rattle.std.proofs.lemmas.Bool.Decides.{nat_tests}
use Rattle.hub_glob.specs.declared.piece.Piece.{Piece}
use Rattle.hub_glob.specs.declared.piece.Piece.TheVariants.{Lit, Any, Run, OneOf}
use Rattle.hub_glob.specs.Glob.{Texts, begins, is_run, splits, piece, pieces, no_more}
use Rattle.hub_text.specs.laws.Test.{any-weaker}
use Rattle.hub_unison.specs.Matching.{sure_pieces}

pub same-number : (a b : ℕ) → (a == b) ≡ true → a ≡ b
same-number a b h = grind (arith, nat_tests)

-- What all items pass, some item that passes another test passes too.
module _ {X : Type 0} where
  pub any-where : (h f g : X → Bool) (xs : List X) → list_all h xs ≡ true
      → ((x : X) → h x ≡ true → f x ≡ true → g x ≡ true) → list_any f xs ≡ true
      → list_any g xs ≡ true
  any-where h f g [] all w some = some
  any-where h f g (x ∷ xs) all w some =
      let parts = and_parts (h x) (list_all h xs) all in
      go (f x) refl parts.0 (any-where h f g xs parts.1 w) some
    where
      go : (b : Bool) → f x ≡ b → h x ≡ true → (list_any f xs ≡ true → list_any g xs ≡ true)
          → (b || list_any f xs) ≡ true → (g x || list_any g xs) ≡ true
      go true e here there so = ap (λ b. b || list_any g xs) (w x here e)
      go false e here there so = or_right (g x) (list_any g xs) (there so)

  pub all-weaker : (f g : X → Bool) (xs : List X) → ((x : X) → f x ≡ true → g x ≡ true)
      → list_all f xs ≡ true → list_all g xs ≡ true
  all-weaker f g [] w all = refl
  all-weaker f g (x ∷ xs) w all =
      let parts = and_parts (f x) (list_all f xs) all in
      and_from (g x) (list_all g xs) (w x parts.0) (all-weaker f g xs w parts.1)

-- A member of a set passes what all members pass.
pub member-passes : (f : ℕ → Bool) (cs : List ℕ) (d : ℕ) → list_all f cs ≡ true
    → list_any (λ c. c == d) cs ≡ true → f d ≡ true
member-passes f [] d all some = absurd (no some)
  where
    no : false ≡ true → ⊥
    no e = cc
member-passes f (c ∷ cs) d all some =
    go (c == d) refl (member-passes f cs d (and_parts (f c) (list_all f cs) all).1) some
  where
    go : (b : Bool) → (c == d) ≡ b → (list_any (λ c. c == d) cs ≡ true → f d ≡ true)
        → (b || list_any (λ c. c == d) cs) ≡ true → f d ≡ true
    go true e later h =
        subst (λ x. f x ≡ true) (same-number c d e) (and_parts (f c) (list_all f cs) all).0
    go false e later h = later h

pub run-mono : (R S : Texts) (first : Bool) (t : List ℕ)
    → ((u : List ℕ) → R first u ≡ true → S first u ≡ true)
    → ((u : List ℕ) → R false u ≡ true → S false u ≡ true)
    → piece Run R first t ≡ true → piece Run S first t ≡ true
run-mono R S first t here there h =
    any-weaker (λ s. is_run first s.0 && R (first && length s.0 == 0) s.1)
    (λ s. is_run first s.0 && S (first && length s.0 == 0) s.1) (splits t)
    (λ s e. let parts = and_parts (is_run first s.0) (R (first && length s.0 == 0) s.1) e in
    and_from (is_run first s.0) (S (first && length s.0 == 0) s.1) parts.0
    (flagged first (length s.0 == 0) s.1 here there parts.1)) h
  where
    flagged : (f z : Bool) (u : List ℕ) → ((u : List ℕ) → R f u ≡ true → S f u ≡ true)
        → ((u : List ℕ) → R false u ≡ true → S false u ≡ true)
        → R (f && z) u ≡ true → S (f && z) u ≡ true
    flagged true true u here there h = here u h
    flagged true false u here there h = there u h
    flagged false z u here there h = there u h

-- What pieces match for Unison, they match for hubsync.
begins-weaker : (f g : ℕ → Bool) (R S : Texts) (first : Bool) (t : List ℕ)
    → ((d : ℕ) → f d ≡ true → g d ≡ true)
    → ((b : Bool) (u : List ℕ) → R b u ≡ true → S b u ≡ true)
    → begins f R first t ≡ true → begins g S first t ≡ true
begins-weaker f g R S first [] w v h = h
begins-weaker f g R S first (d ∷ t) w v h =
    let parts = and_parts (f d) (R (d == 47) t) h in
    and_from (g d) (S (d == 47) t) (w d parts.0) (v (d == 47) t parts.1)

pub sure-within : (ps : List Piece) (first : Bool) (t : List ℕ)
    → sure_pieces ps no_more first t ≡ true → pieces ps no_more first t ≡ true
sure-within [] first t h = h
sure-within (Lit c ∷ ps) first t h =
    begins-weaker (λ d. d == c) (λ d. d == c) (sure_pieces ps no_more) (pieces ps no_more) first t
    (λ d e. e) (sure-within ps) h
sure-within (Any ∷ ps) first t h =
    begins-weaker (λ d. nat_lt d 128 && not (d == 47)) (λ d. not (d == 47)) (sure_pieces ps no_more)
    (pieces ps no_more) first t (λ d e. (and_parts (nat_lt d 128) (not (d == 47)) e).1)
    (sure-within ps)
    (and_parts (not (first && slice_index t 0 == 46))
    (begins (λ d. nat_lt d 128 && not (d == 47)) (sure_pieces ps no_more) first t) h).1
sure-within (OneOf cs ∷ ps) first t h =
    begins-weaker (λ d. nat_lt d 128 && list_any (λ c. c == d) cs) (λ d. list_any (λ c. c == d) cs)
    (sure_pieces ps no_more) (pieces ps no_more) first t
    (λ d e. (and_parts (nat_lt d 128) (list_any (λ c. c == d) cs) e).1) (sure-within ps)
    (and_parts (not (first && slice_index t 0 == 46))
    (begins (λ d. nat_lt d 128 && list_any (λ c. c == d) cs) (sure_pieces ps no_more) first t) h).1
sure-within (Run ∷ ps) first t h =
    run-mono (sure_pieces ps no_more) (pieces ps no_more) first t (sure-within ps first)
    (sure-within ps false)
    (and_parts (not (first && slice_index t 0 == 46))
    (piece Run (sure_pieces ps no_more) first t) h).1

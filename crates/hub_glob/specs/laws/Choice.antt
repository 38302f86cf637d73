-- A text matches a pattern exactly where it matches one of the pattern's choices.
use Rattle.std.proofs.Common.{◌≡◌, ℕ, Bool, ◌&&◌, ◌||◌, ◌==◌, List, [], ◌∷◌, ◌++◌, map, length, refl, sym, ap, ◌∙◌}
use Rattle.std.specs.Prelude.{flat_map}
use Rattle.std.specs.List.{list_any}
use Rattle.hub_glob.specs.declared.piece.Piece.{Piece}
use Rattle.hub_glob.specs.declared.piece.Piece.TheVariants.{Lit, Any, Run, OneOf}
use Rattle.hub_glob.specs.declared.piece.Part.{Part}
use Rattle.hub_glob.specs.declared.piece.Part.TheVariants.{One, Brace}
use Rattle.hub_glob.specs.Glob.{Texts, splits, begins, is_run, piece, pieces, glob, choices, no_more}
use Rattle.std.proofs.Math.Bool.{or-false}
use Rattle.hub_text.specs.laws.Test.{any-false, any-and, any-or, any-map, any-append}
use Rattle.hub_glob.specs.laws.OneStep.{pieces-append}

any-any : {X Y : Type 0} (f : X → Y → Bool) (xs : List X) (ys : List Y)
    → list_any (λ x. list_any (f x) ys) xs ≡ list_any (λ y. list_any (λ x. f x y) xs) ys
any-any f [] ys = any-false ys
any-any f (x ∷ xs) ys =
    ap (λ b. list_any (f x) ys || b) (any-any f xs ys)
    ∙ any-or (f x) (λ y. list_any (λ z. f z y) xs) ys

any-flat_map : {X Y : Type 0} (f : Y → Bool) (h : X → List Y) (xs : List X)
    → list_any (λ x. list_any f (h x)) xs ≡ list_any f (flat_map h xs)
any-flat_map f h [] = refl
any-flat_map f h (x ∷ xs) =
    ap (λ b. list_any f (h x) || b) (any-flat_map f h xs) ∙ any-append f (h x) (flat_map h xs)

-- to begin with a character and go on in one of several ways
begins-any : {X : Type 0} (passes : ℕ → Bool) (R : X → Texts) (cs : List X) (first : Bool)
    (t : List ℕ)
    → begins passes (λ f u. list_any (λ c. R c f u) cs) first t
    ≡ list_any (λ c. begins passes (R c) first t) cs
begins-any passes R cs first [] = any-false cs
begins-any passes R cs first (d ∷ t) = any-and (passes d) (λ c. R c (d == 47) t) cs

piece-any : {X : Type 0} (p : Piece) (R : X → Texts) (cs : List X) (first : Bool) (t : List ℕ)
    → piece p (λ f u. list_any (λ c. R c f u) cs) first t ≡ list_any (λ c. piece p (R c) first t) cs
piece-any (Lit c) R cs first t = begins-any _ R cs first t
piece-any Any R cs first t = begins-any _ R cs first t
piece-any (OneOf ds) R cs first t = begins-any _ R cs first t
piece-any Run R cs first t =
    (λ i. list_any (λ s. any-and (is_run first s.0) (λ c. R c (first && length s.0 == 0) s.1) cs i)
    (splits t))
    ∙ any-any (λ s c. is_run first s.0 && R c (first && length s.0 == 0) s.1) (splits t) cs

pieces-any : {X : Type 0} (ps : List Piece) (R : X → Texts) (cs : List X) (first : Bool)
    (t : List ℕ)
    → pieces ps (λ f u. list_any (λ c. R c f u) cs) first t
    ≡ list_any (λ c. pieces ps (R c) first t) cs
pieces-any [] R cs first t = refl
pieces-any (p ∷ ps) R cs first t =
    (λ i. piece p (λ f u. pieces-any ps R cs f u i) first t)
    ∙ piece-any p (λ c. pieces ps (R c)) cs first t

-- a text matches a pattern exactly where it matches one of its choices
pub glob_choices : (ps : List Part) (first : Bool) (t : List ℕ)
    → glob ps first t ≡ list_any (λ c. pieces c no_more first t) (choices ps)
glob_choices [] first t = sym (or-false _)
glob_choices (One p ∷ ps) first t =
    (λ i. piece p (λ f u. glob_choices ps f u i) first t)
    ∙ piece-any p (λ c. pieces c no_more) (choices ps) first t
    ∙ any-map (λ c. pieces c no_more first t) (λ c. p ∷ c) (choices ps)
glob_choices (Brace cs ∷ ps) first t =
    (λ i. list_any (λ c. pieces c (λ f u. glob_choices ps f u i) first t) cs)
    ∙ (λ i. list_any (λ c. pieces-any c (λ d. pieces d no_more) (choices ps) first t i) cs)
    ∙ (λ i. list_any (λ c. list_any (λ d. sym (pieces-append c d no_more) i first t)
    (choices ps)) cs)
    ∙ (λ i. list_any (λ c. any-map (λ e. pieces e no_more first t) (λ d. c ++ d) (choices ps) i) cs)
    ∙ any-flat_map (λ e. pieces e no_more first t) (λ c. map (λ d. c ++ d) (choices ps)) cs

-- What `*` takes of a text that begins with a character, and pieces one after another.
use Rattle.std.proofs.Common.{◌≡◌, ℕ, suc, Bool, true, false, not, ◌&&◌, ◌||◌, ◌==◌, List, [], ◌∷◌, ◌++◌, length, refl, sym, ap, ◌∙◌, arith}
use Rattle.std.specs.List.{list_any, list_all}
use Rattle.std.proofs.lemmas.Bool.Decides.{nat_tests}
use Rattle.hub_glob.specs.declared.piece.Piece.{Piece}
use Rattle.hub_glob.specs.declared.piece.Piece.TheVariants.{Run}
use Rattle.hub_glob.specs.Glob.{Texts, splits, is_run, piece, pieces}
use Rattle.std.proofs.Math.Bool.{and-false, or-false}
use Rattle.hub_text.specs.laws.Test.{any-false, any-map}

pub nonzero : (n : ℕ) → (suc n == 0) ≡ false
nonzero n = grind (arith, nat_tests)

-- `*` may take nothing.
pub run_front : (first : Bool) (k : Texts) (t : List ℕ)
    → (is_run first [] && k (first && true) t) ≡ k first t
run_front true k t = refl
run_front false k t = refl

-- What it takes that begins with a character, where the tests say whether that is a `/` or a `.`.
pub run_rest : (first slash dot : Bool) (k : Texts) (r : List ℕ)
    → list_any (λ (s : List ℕ × List ℕ).
    (not slash && list_all (λ c. not (c == 47)) s.0 && not (first && dot))
    && k (first && false) s.1) (splits r)
    ≡ (not slash && not (first && dot) && list_any
    (λ (s : List ℕ × List ℕ). is_run slash s.0 && k (slash && length s.0 == 0) s.1) (splits r))
run_rest first true dot k r = sym (any-false (splits r))
run_rest true false true k r =
    (λ i. list_any (λ (s : List ℕ × List ℕ). and-false (list_all (λ c. not (c == 47)) s.0) i
    && k false s.1) (splits r)) ∙ sym (any-false (splits r))
run_rest true false false k r = refl
run_rest false false dot k r = refl

-- Whether `*` takes that character, where the first argument says whether it stands at the start of
-- a component.
abbrev pub takes_run : Bool → ℕ → Bool
takes_run first c = not (c == 47) && not (first && c == 46)

-- `*` takes nothing of a text, or its first character and what `*` takes then.
pub run_step : (first : Bool) (c : ℕ) (k : Texts) (r : List ℕ)
    → piece Run k first (c ∷ r) ≡ (k first (c ∷ r) || takes_run first c && piece Run k (c == 47) r)
run_step first c k r =
    (λ i. run_front first k (c ∷ r) i
    || (sym (any-map
    (λ (s : List ℕ × List ℕ). is_run first s.0 && k (first && length s.0 == 0) s.1)
    (λ (s : List ℕ × List ℕ). (c ∷ s.0, s.1)) (splits r))
    ∙ (λ j. list_any (λ (s : List ℕ × List ℕ).
    (not (c == 47) && list_all (λ c. not (c == 47)) s.0 && not (first && c == 46))
    && k (first && nonzero (length s.0) j) s.1) (splits r))
    ∙ run_rest first (c == 47) (c == 46) k r) i)

-- `*` takes nothing of the empty text.
pub run_end : (first : Bool) (k : Texts) → piece Run k first [] ≡ k first []
run_end first k = or-false _ ∙ run_front first k []

pub pieces-append : (ps qs : List Piece) (rest : Texts)
    → pieces (ps ++ qs) rest ≡ pieces ps (pieces qs rest)
pieces-append [] qs rest = refl
pieces-append (p ∷ ps) qs rest = ap (piece p) (pieces-append ps qs rest)

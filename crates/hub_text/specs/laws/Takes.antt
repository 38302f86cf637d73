-- What the steps of the line readers give.
use Rattle.std.proofs.Common.{◌≡◌, ◌+◌, ◌<◌, ◌≤◌, ℕ, List, length, get_or, ap, subst, ◌∙◌, arith}
use Rattle.std.proofs.lemmas.Iterator.{YieldsList}
use Rattle.std.proofs.lemmas.Iterator.Consumers.{YieldsList-from_shown, YieldsList-from_enumerate}
use Rattle.std.specs.List.{enumerate_from}
use Rattle.std.specs.declared.iter.Enumerate.{Enumerate}
use Rattle.std.specs.Iterator.Adapters.{enumerate_source, enumerate_count, enumerate_steps}
use Rattle.std.proofs.lemmas.List.FromFn.{length-enumerate_from, get_or-enumerate_from}
use denote.Ref.{Bor}
use Rattle.hub_text.specs.declared.line.Line.{Line}
use Rattle.hub_text.specs.Lines.{lines_of}
use Rattle.hub_text.specs.Takes.{Takes}

-- The steps from s on give its lines.
pub YieldsList-lines : (of : Line (Bor (List ℕ)) → Line (List ℕ)) (s : List ℕ)
    → YieldsList (Takes of) of s (lines_of s)
YieldsList-lines of s =
    YieldsList-from_shown (Takes of) of lines_of (λ u t p. ap (λ cs. length (lines_of cs)) p)
    (λ u x t p. p) s

-- The steps of a loop over lines with their numbers, which begin at 0.
pub yields-numbered_lines : (of : Line (Bor (List ℕ)) → Line (List ℕ)) {s : Enumerate (List ℕ)}
    (all : List ℕ) → enumerate_source s ≡ all → enumerate_count s ≡ 0
    → YieldsList {B = ℕ × Line (List ℕ)} (enumerate_steps (Takes of)) (λ p. (p.0, of p.1)) s
    (enumerate_from 0 (lines_of all))
yields-numbered_lines of {s} all e c =
    YieldsList-from_enumerate (subst (λ t. YieldsList (Takes of) of (enumerate_source s)
    (lines_of t)) e (YieldsList-lines of (enumerate_source s))) c

-- The item of a turn, and its number.
pub numbered_turn : {X : Type 0} (xs : List X) (k i : ℕ) (x : X)
    → (k < length (enumerate_from 0 xs)) × ((i, x) ≡ get_or (enumerate_from 0 xs) k (i, x))
    → (i ≡ k) × (k < length xs) × (x ≡ get_or xs k x)
numbered_turn xs k i x turn =
    let inside : k < length xs = omega (arith, turn.0, length-enumerate_from 0 xs) in
    let at : (i, x) ≡ (0 + k, get_or xs k x) =
    turn.1 ∙ get_or-enumerate_from 0 xs k (i, x) inside in
    (ap (λ p. p.0) at ∙ omega arith, inside, ap (λ p. p.1) at)

-- After the last turn.
pub numbered_end : {X : Type 0} (xs : List X) (k : ℕ) → k ≡ length (enumerate_from 0 xs)
    → length xs ≤ k
numbered_end xs k e = omega (arith, e, length-enumerate_from 0 xs)

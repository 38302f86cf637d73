-- Readings line by line, as a loop makes them.
use Rattle.std.proofs.Common.{◌≡◌, ℕ, ◌+◌, ◌<◌, ◌≤◌, Bool, true, false, if◌then◌else◌, List, [], ◌∷◌, Result, Ok, Err, length, take, get_or, refl, sym, ap, ◌∙◌, arith}
use Rattle.std.specs.List.{fold}
use Rattle.std.proofs.lemmas.List.{take_more, take_all}
use Rattle.std.proofs.lemmas.List.Sums.{fold-append}
use Rattle.std.proofs.lemmas.List.Folds.{fold_stuck}
use Rattle.std.proofs.lemmas.List.FromFn.{length-enumerate_from, get_or-enumerate_from}
use Rattle.hub_text.specs.declared.line.Line.{Line}
use Rattle.hub_text.specs.Lines.{lines_of}
use Rattle.hub_profile.specs.declared.fault.Fault.{Fault}
use Rattle.hub_profile.specs.declared.fault.ProfileFault.{ProfileFault}
use Rattle.hub_profile.specs.Lines.{trimmed_line, is_setting, setting}
use Rattle.hub_profile.specs.LineByLine.{Table, with_pair, with_line, at_line, and_line, numbered_lines, lines_reading}

-- What the first k lines say.
abbrev pub first_lines : {S : Type 0} → Table S → S → List ℕ → ℕ → Result S ProfileFault
first_lines table nothing cs k = fold (and_line table) (Ok nothing) (take k (numbered_lines cs))

numbered : (cs : List ℕ) (k : ℕ) (l : Line (List ℕ)) → k < length (lines_of cs) → l ≡ get_or (lines_of cs) k l → get_or (numbered_lines cs) k (k + 1, l) ≡ (k + 1, l)
numbered cs k l h e =
    let number : 1 + k ≡ k + 1 = omega arith in
    get_or-enumerate_from 1 (lines_of cs) k (k + 1, l) h ∙ (λ j. (number j, sym e j))

inside_of : (cs : List ℕ) (k : ℕ) → k < length (lines_of cs) → k < length (numbered_lines cs)
inside_of cs k h = omega (arith, h, length-enumerate_from 1 (lines_of cs))

one_line : {S : Type 0} (table : Table S) (nothing : S) (cs : List ℕ) (k : ℕ) (l : Line (List ℕ)) → k < length (lines_of cs) → l ≡ get_or (lines_of cs) k l
    → first_lines table nothing cs (k + 1) ≡ and_line table (first_lines table nothing cs k) (k + 1, l)
one_line table nothing cs k l h e =
    ap (fold (and_line table) (Ok nothing)) (take_more (numbered_lines cs) k (k + 1, l) (inside_of cs k h))
    ∙ (fold-append (and_line table) (Ok nothing) (take k (numbered_lines cs)) (get_or (numbered_lines cs) k (k + 1, l) ∷ []) ∙ ap (and_line table (first_lines table nothing cs k)) (numbered cs k l h e))

-- A line that is taken.
pub taken : {S : Type 0} (table : Table S) (nothing said more : S) (cs : List ℕ) (k i : ℕ) (l : Line (List ℕ)) → first_lines table nothing cs k ≡ Ok said
    → i ≡ k → k < length (lines_of cs) → l ≡ get_or (lines_of cs) k l → with_line table said (i + 1) l.text ≡ Ok more → first_lines table nothing cs (k + 1) ≡ Ok more
taken table nothing said more cs k i l before same h e line =
    one_line table nothing cs k l h e
    ∙ (ap (λ r. and_line table r (k + 1, l)) before ∙ ap (at_line (k + 1)) (ap (λ n. with_line table said (n + 1) l.text) (sym same) ∙ line))

-- A line at fault: none after it is read.
pub at_fault : {S : Type 0} (table : Table S) (nothing said : S) (cs : List ℕ) (k i : ℕ) (l : Line (List ℕ)) (f : Fault) → first_lines table nothing cs k ≡ Ok said
    → i ≡ k → k < length (lines_of cs) → l ≡ get_or (lines_of cs) k l → with_line table said (i + 1) l.text ≡ Err f → lines_reading table nothing cs ≡ Err (record { line = i + 1; fault = f })
at_fault table nothing said cs k i l f before same h e line =
    let step : and_line table (first_lines table nothing cs k) (get_or (numbered_lines cs) k (k + 1, l)) ≡ Err (record { line = k + 1; fault = f }) = ap (and_line table (first_lines table nothing cs k)) (numbered cs k l h e) ∙ (ap (λ r. and_line table r (k + 1, l)) before ∙ ap (at_line (k + 1)) (ap (λ n. with_line table said (n + 1) l.text) (sym same) ∙ line)) in
    sym (fold_stuck (and_line table) (Err (record { line = k + 1; fault = f })) (λ x. refl) (Ok nothing) (numbered_lines cs) k (k + 1, l) (inside_of cs k h) step)
    ∙ ap (λ n. Err (record { line = n + 1; fault = f })) (sym same)

-- All lines.
pub all_taken : {S : Type 0} (table : Table S) (nothing : S) (cs : List ℕ) (k : ℕ) → length (lines_of cs) ≤ k → first_lines table nothing cs k ≡ lines_reading table nothing cs
all_taken table nothing cs k h = ap (fold (and_line table) (Ok nothing)) (take_all k (numbered_lines cs) (omega (arith, h, length-enumerate_from 1 (lines_of cs))))

-- One line, by its text t and by the test whether it is a setting.
abbrev line_if : {S : Type 0} → Table S → S → ℕ → Result (List ℕ × List ℕ) Fault → Bool → Result S Fault
line_if table said n s b = if b then with_pair table said n s else Ok said

pub line_skipped : {S : Type 0} (table : Table S) (said : S) (n : ℕ) (l t : List ℕ) (b : Bool) → t ≡ trimmed_line l → b ≡ is_setting t → b ≡ false
    → with_line table said n l ≡ Ok said
line_skipped table said n l t b e f g = ap (line_if table said n (setting (trimmed_line l))) (ap is_setting (sym e) ∙ sym f ∙ g)

pub line_set : {S : Type 0} (table : Table S) (said : S) (n : ℕ) (l t : List ℕ) (b : Bool) (pair : List ℕ × List ℕ) → t ≡ trimmed_line l → b ≡ is_setting t → b ≡ true
    → setting t ≡ Ok pair → with_line table said n l ≡ table said n pair.0 pair.1
line_set table said n l t b pair e f g h =
    ap (line_if table said n (setting (trimmed_line l))) (ap is_setting (sym e) ∙ sym f ∙ g)
    ∙ ap (λ u. with_pair table said n (setting u)) (sym e) ∙ ap (with_pair table said n) h

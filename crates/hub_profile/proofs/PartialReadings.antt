-- Lines that bar changes on some paths of a root: how they are read.
use Rattle.std.proofs.Common.{◌≡◌, ◌<◌, ◌∙◌, ◌⊎◌, ⊎_elim, ℕ, nat_le, Bool, true, false, List, [], ◌∷◌, ◌++◌, length, Result, Ok, Err, if◌then◌else◌, refl, ap, sym, arith, inl, inr}
use Rattle.std.proofs.lemmas.Bool.Decides.{nat_tests}
use Rattle.hub_path.specs.Path.{Path}
use Rattle.hub_path.specs.Reading as path_reading
use Rattle.hub_path.specs.declared.fault.PathFault.{PathFault}
use Rattle.hub_path.specs.declared.fault.PathFault.TheVariants as path
use Rattle.hub_glob.specs.Reading.{spec_reading}
use Rattle.hub_glob.specs.Specification.{Specification}
use Rattle.hub_glob.specs.declared.fault.GlobFault.{GlobFault}
use Rattle.hub_glob.specs.declared.fault.GlobFault.TheVariants as glob
use Rattle.hub_profile.specs.Arrow as arrow
use Rattle.hub_profile.specs.Arrow.{CutsAtArrow, has_arrow}
use Rattle.hub_profile.specs.Faults.{FailsAs, of_path, of_pattern}
use Rattle.hub_profile.specs.PartialLines.{partial_line, partial_line_of, partial_line_reading}
use Rattle.hub_profile.specs.Reading.{has_all_partials, partial_added, with_partial}
use Rattle.hub_profile.specs.Said.{Said}
use Rattle.hub_profile.specs.declared.bars.Bars.{Bars}
use Rattle.hub_profile.specs.declared.draft.TheConstants.{PARTIAL_LINES}
use Rattle.hub_profile.specs.declared.partial_line.PartialLine.{PartialLine}
use Rattle.hub_profile.specs.declared.fault.Fault.{Fault}
use Rattle.hub_profile.specs.declared.fault.Fault.TheVariants.{BadPath, BadPattern, NoArrow, OutOfMemory, TooMany}

-- Each fault of a value but out of memory is the line's.
pattern_fault : (e : GlobFault) → (of_pattern e ≡ OutOfMemory) ⊎ (of_pattern e ≡ BadPattern e)
pattern_fault glob.NoKind = inr refl
pattern_fault glob.RegexLeftOut = inr refl
pattern_fault glob.EmptyPattern = inr refl
pattern_fault glob.OpenBracket = inr refl
pattern_fault glob.OpenBrace = inr refl
pattern_fault glob.NestedBraces = inr refl
pattern_fault glob.BadRange = inr refl
pattern_fault glob.NegatedSet = inr refl
pattern_fault glob.BadEscape = inr refl
pattern_fault glob.SlashInName = inr refl
pattern_fault glob.SlashInSet = inr refl
pattern_fault glob.LeadingSlash = inr refl
pattern_fault glob.TooLong = inr refl
pattern_fault glob.TooManyChoices = inr refl
pattern_fault glob.OutOfMemory = inl refl

pub path_fault : (e : PathFault) → (of_path e ≡ OutOfMemory) ⊎ (of_path e ≡ BadPath e)
path_fault path.Empty = inr refl
path_fault path.EmptyName = inr refl
path_fault path.DotName = inr refl
path_fault path.BadCharacter = inr refl
path_fault path.NameTooLong = inr refl
path_fault path.TooDeep = inr refl
path_fault path.LeadingSlash = inr refl
path_fault path.NotAbsolute = inr refl
path_fault path.RemoteRoot = inr refl
path_fault path.OutOfMemory = inl refl

-- A value that is cut at its arrow.
cut_line : (bars : Bars) (n : ℕ) (v : List ℕ) (pair : List ℕ × List ℕ) → CutsAtArrow v pair
    → partial_line_reading bars n v ≡ partial_line_of n bars (spec_reading pair.0) (path_reading.root_reading pair.1)
cut_line bars n v pair cut =
    ap (λ (b : Bool). if b then partial_line_of n bars (spec_reading (arrow.spec_and_root v).0) (path_reading.root_reading (arrow.spec_and_root v).1) else Err NoArrow) cut.0
    ∙ ap (λ (s : List ℕ). partial_line_of n bars (spec_reading s) (path_reading.root_reading (arrow.spec_and_root v).1)) (sym cut.1)
    ∙ ap (λ (r : List ℕ). partial_line_of n bars (spec_reading pair.0) (path_reading.root_reading r)) (sym cut.2)

pub read_line : (bars : Bars) (n : ℕ) (v : List ℕ) (pair : List ℕ × List ℕ) (spec : Specification) (root : Path) → CutsAtArrow v pair
    → spec_reading pair.0 ≡ Ok spec → path_reading.root_reading pair.1 ≡ Ok root → partial_line_reading bars n v ≡ Ok (partial_line n bars spec root)
read_line bars n v pair spec root cut e f =
    cut_line bars n v pair cut
    ∙ ap (λ (s : Result Specification GlobFault). partial_line_of n bars s (path_reading.root_reading pair.1)) e
    ∙ ap (λ (r : Result Path PathFault). partial_line_of n bars (Ok spec) r) f

pub spec_refused : (bars : Bars) (n : ℕ) (v : List ℕ) (pair : List ℕ × List ℕ) (e : GlobFault) (f : Fault) → f ≡ of_pattern e → CutsAtArrow v pair
    → (e ≡ glob.OutOfMemory) ⊎ (spec_reading pair.0 ≡ Err e) → FailsAs (partial_line_reading bars n v) f
spec_refused bars n v pair e f from cut h =
    ⊎_elim (λ (memory : e ≡ glob.OutOfMemory). inl (from ∙ ap of_pattern memory))
    (λ (bad : spec_reading pair.0 ≡ Err e). ⊎_elim (λ (memory : of_pattern e ≡ OutOfMemory). inl (from ∙ memory))
    (λ (is : of_pattern e ≡ BadPattern e). inr (cut_line bars n v pair cut ∙ ap (λ (s : Result Specification GlobFault). partial_line_of n bars s (path_reading.root_reading pair.1)) bad ∙ ap (λ (x : Fault). Err x) (sym (from ∙ is)))) (pattern_fault e)) h

pub root_refused : (bars : Bars) (n : ℕ) (v : List ℕ) (pair : List ℕ × List ℕ) (spec : Specification) (e : PathFault) (f : Fault) → f ≡ of_path e → CutsAtArrow v pair
    → spec_reading pair.0 ≡ Ok spec → path_reading.FailsAs (path_reading.root_reading pair.1) e → FailsAs (partial_line_reading bars n v) f
root_refused bars n v pair spec e f from cut read h =
    ⊎_elim (λ (memory : e ≡ path.OutOfMemory). inl (from ∙ ap of_path memory))
    (λ (bad : path_reading.root_reading pair.1 ≡ Err e). ⊎_elim (λ (memory : of_path e ≡ OutOfMemory). inl (from ∙ memory))
    (λ (is : of_path e ≡ BadPath e). inr (cut_line bars n v pair cut ∙ ap (λ (s : Result Specification GlobFault). partial_line_of n bars s (path_reading.root_reading pair.1)) read
    ∙ ap (λ (r : Result Path PathFault). partial_line_of n bars (Ok spec) r) bad ∙ ap (λ (x : Fault). Err x) (sym (from ∙ is)))) (path_fault e)) h

-- A line that is added to those that there are.
abbrev with_line : Said → Result PartialLine Fault → Result Said Fault
with_line said (Ok l) = Ok (record said { partials = said.partials ++ l ∷ [] })
with_line said (Err e) = Err e

both_added : (bars : Bars) (said : Said) (n : ℕ) (s : Result Specification GlobFault) (r : Result Path PathFault) → with_partial bars said n s r ≡ with_line said (partial_line_of n bars s r)
both_added bars said n (Ok spec) (Ok root) = refl
both_added bars said n (Ok spec) (Err e) = refl
both_added bars said n (Err e) root = refl

if_arrow : (said : Said) (b : Bool) (x : Result Said Fault) (y : Result PartialLine Fault) → x ≡ with_line said y
    → (if b then x else Err NoArrow) ≡ with_line said (if b then y else Err NoArrow)
if_arrow said true x y e = e
if_arrow said false x y e = refl

reading_added : (bars : Bars) (said : Said) (n : ℕ) (v : List ℕ) → has_all_partials said ≡ false → partial_added bars said n v ≡ with_line said (partial_line_reading bars n v)
reading_added bars said n v few =
    let s = spec_reading (arrow.spec_and_root v).0 in
    let r = path_reading.root_reading (arrow.spec_and_root v).1 in
    ap (λ (b : Bool). if b then Err TooMany else (if has_arrow v then with_partial bars said n s r else Err NoArrow)) few
    ∙ if_arrow said (has_arrow v) (with_partial bars said n s r) (partial_line_of n bars s r) (both_added bars said n s r)

abbrev with_lines : Said → List PartialLine → Result Said Fault
with_lines said ls = Ok (record said { partials = ls })

not_all : (n : ℕ) → n < PARTIAL_LINES → nat_le PARTIAL_LINES n ≡ false
not_all n h = grind (arith, nat_tests)

few_partials : (said : Said) → length said.partials < PARTIAL_LINES → has_all_partials said ≡ false
few_partials said h = not_all (length said.partials) h

pub line_added : (bars : Bars) (now said : Said) (n : ℕ) (v : List ℕ) (l : PartialLine) (ls : List PartialLine) → now ≡ said → length said.partials < PARTIAL_LINES
    → partial_line_reading bars n v ≡ Ok l → ls ≡ said.partials ++ l ∷ [] → partial_added bars now n v ≡ Ok (record said { partials = ls })
line_added bars now said n v l ls is few e f =
    ap (λ (s : Said). partial_added bars s n v) is ∙ reading_added bars said n v (few_partials said few) ∙ ap (with_line said) e
    ∙ ap (with_lines said) (sym f)

pub line_refused : (bars : Bars) (now said : Said) (n : ℕ) (v : List ℕ) (e : Fault) → now ≡ said → length said.partials < PARTIAL_LINES → FailsAs (partial_line_reading bars n v) e
    → FailsAs (partial_added bars now n v) e
line_refused bars now said n v e is few h =
    ⊎_elim (λ (memory : e ≡ OutOfMemory). inl memory)
    (λ (bad : partial_line_reading bars n v ≡ Err e). inr (ap (λ (s : Said). partial_added bars s n v) is ∙ reading_added bars said n v (few_partials said few) ∙ ap (with_line said) bad)) h

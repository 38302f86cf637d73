-- How a text of an answer starts: its first letters say what kind of answer it is.
use Rattle.std.proofs.Common.{◌≡◌, ◌==◌, ℕ, suc, zero, List, [], ◌∷◌, ◌++◌, take, Option, Some, None, append-nil, append_assoc, refl, sym, subst}
use Rattle.std.specs.Prelude.{slice_get, if◌then◌else◌}
use Rattle.hub_path.specs.Path.{Path}
use Rattle.hub_automaton.specs.declared.fault.AutomatonFault.TheVariants as automaton
use Rattle.hub_profile.specs.declared.rule.Rule.{Rule}
use Rattle.hub_cert.specs.Set.{Members}
use Rattle.hub_cert.specs.declared.goal.Place.{Place}
use Rattle.hub_cert.specs.declared.fault.CheckFault.{CheckFault}
use Rattle.hub_cert.specs.declared.fault.CheckFault.TheVariants as fault
use Rattle.hub_cert.specs.declared.goal.Goal.{Goal}
use Rattle.hub_cert.specs.declared.goal.Goal.TheVariants as goal
use Rattle.hub_report.specs.InUnison.{unison_line, unison_lines}
use Rattle.hub_report.specs.Refusal.{breach_text, name_at, refusal_line}
use Rattle.hub_report.specs.Rounds.{clash_lines}

pub data Start : Type 0 where
  SafeStart : Start
  VerifiedStart : Start
  OverlapStart : Start
  BreachStart : Start
  TooLargeStart : Start
  RoundsStart : Start
  GraphStart : Start
  ReachedStart : Start
  NotReachedStart : Start
  NestedStart : Start
  ArchiveStart : Start
  PlanStart : Start
  OrderStart : Start
  OtherStart : Start

abbrev pub first : List ℕ → ℕ
first [] = 0
first (a ∷ t) = a

abbrev pub third : List ℕ → ℕ
third [] = 0
third (a ∷ []) = 0
third (a ∷ b ∷ []) = 0
third (a ∷ b ∷ c ∷ t) = c

-- `reached`, `rounds` and the lines of refusals begin with the same letter.
abbrev pub r_start : ℕ → Start
r_start c = if c == 97 then ReachedStart else (if c == 117 then RoundsStart else OtherStart)

-- So do `safe` and `same archive`.
abbrev pub s_start : ℕ → Start
s_start c = if c == 109 then ArchiveStart else SafeStart

-- And `not reached` and `nested roots`.
abbrev pub n_start : ℕ → Start
n_start c = if c == 115 then NestedStart else NotReachedStart

abbrev pub start_of : ℕ → ℕ → Start
start_of a c =
    if a == 115 then s_start c
    else (if a == 118 then VerifiedStart
    else (if a == 111 then OverlapStart
    else (if a == 98 then BreachStart
    else (if a == 110 then n_start c
    else (if a == 116 then TooLargeStart
    else (if a == 103 then GraphStart
    else (if a == 112 then PlanStart
    else (if a == 105 then OrderStart else (if a == 114 then r_start c else OtherStart)))))))))

abbrev pub start : List ℕ → Start
start t = start_of (first t) (third t)

-- A prefix of a text begins with p: so does the text, and the rest of the prefix is one of the rest of the text.
pub record Begins (p t s : List ℕ) : Type 0 where
  pub rest : List ℕ
  pub whole : t ≡ p ++ rest
  pub written : ℕ
  pub front : take written rest ≡ s

pub begins-taken : (p t s : List ℕ) (w : ℕ) → take w t ≡ p ++ s → Begins p t s
begins-taken [] t s w e = record { rest = t; whole = refl; written = w; front = e }
begins-taken (b ∷ p) t s zero e = cc
begins-taken (b ∷ p) [] s (suc w) e = cc
begins-taken (b ∷ p) (a ∷ t) s (suc w) e =
    let same : a ≡ b = cc in
    let more = begins-taken p t s w cc in
    record { rest = more.rest; whole = cc; written = more.written; front = more.front }

-- The line of a breach begins with a b, if there is a rule. If there is none, the line is empty.
breach-start : (P : Start → Type 0) (name : List ℕ) (R : Option Rule) (n : ℕ) (path : Path)
    (more : List ℕ) → (breach_text name R n path ≡ [] → P (start more)) → P BreachStart
    → P (start (breach_text name R n path ++ more))
breach-start P name None n path more other breach = other refl
breach-start P name (Some R) n path more other breach = breach

-- What holds of the start of the line of an overlap, of that of a breach, of that of a goal that is too large and of any other
-- holds of the start of a refusal's line, whatever follows it.
pub record HoldsOfStarts (P : Start → Type 0) (e : CheckFault) : Type 0 where
  pub other : P OtherStart
  pub overlap : (w o : ℕ) (place : Place) (held path : Path)
      → e ≡ fault.Overlap w o place held path → P OverlapStart
  pub breach : (p k : ℕ) (path : Path) → e ≡ fault.Breach p k path → P BreachStart
  pub too_large : (g : Goal) → e ≡ fault.TooLarge g → P TooLargeStart

line-start : (P : Start → Type 0) (S : Members) (e : CheckFault) (more : List ℕ)
    → (refusal_line S e ≡ [] → P (start more)) → HoldsOfStarts P e
    → P (start (refusal_line S e ++ more))
line-start P S fault.TooManyProfiles more rest h = h.other
line-start P S (fault.SameName n) more rest h = h.other
line-start P S (fault.NestedRoots a z) more rest h = h.other
line-start P S (fault.Overlap w o place held path) more rest h = h.overlap w o place held path refl
line-start P S (fault.Breach p k path) more rest h =
    breach-start P (name_at S.profiles p) (slice_get S.rules k) k path more rest
    (h.breach p k path refl)
line-start P S (fault.TooLarge g) more rest h = h.too_large g refl
line-start P S (fault.Missing g) more rest h = h.other
line-start P S (fault.NoStart g) more rest h = h.other
line-start P S (fault.NotClosed g k class) more rest h = h.other
line-start P S (fault.Accepting g k) more rest h = h.other
line-start P S (fault.Stray i) more rest h = h.other
line-start P S (fault.BadText l) more rest h = h.other
line-start P S (fault.AlphabetFault automaton.TooManyCharacters) more rest h = h.other
line-start P S (fault.AlphabetFault automaton.TooManySpots) more rest h = h.other
line-start P S (fault.AlphabetFault automaton.OutOfMemory) more rest h = h.other
line-start P S fault.OutOfMemory more rest h = h.other

pub refusal-start : (P : Start → Type 0) (S : Members) (e : CheckFault) → HoldsOfStarts P e
    → P (start (refusal_line S e))
refusal-start P S e h =
    subst (λ t. P (start t)) (append-nil (refusal_line S e))
    (line-start P S e [] (λ none. h.other) h)

-- And of the start of the lines of many, and of what follows them if they are empty.
pub lines-start : (P : Start → Type 0) (S : Members) (es : List CheckFault) (more : List ℕ)
    → (clash_lines S es ≡ [] → P (start more))
    → ((n : ℕ) (e : CheckFault) → slice_get es n ≡ Some e → HoldsOfStarts P e)
    → P (start (clash_lines S es ++ more))
lines-start P S [] more other h = other refl
lines-start P S (e ∷ es) more other h =
    subst (λ t. P (start t)) (sym (append_assoc (refusal_line S e) (clash_lines S es) more))
    (line-start P S e (clash_lines S es ++ more)
    (λ empty. lines-start P S es more (λ none. other (λ i. empty i ++ none i))
    (λ n f at. h (suc n) f at))
    (h 0 e refl))

-- What holds of the start of the line in Unison of an overlap, of that of a breach, of that of a goal that is too large, of that of
-- nested roots and of an empty one holds of the start of the line of this fault: a fault of any other kind has an empty line.
pub record HoldsOfUnisonStarts (P : Start → Type 0) (e : CheckFault) : Type 0 where
  pub other : P OtherStart
  pub overlap : (w o : ℕ) (place : Place) (held path : Path)
      → e ≡ fault.Overlap w o place held path → P OverlapStart
  pub breach : (p k : ℕ) (path : Path) → e ≡ fault.Breach p k path → P BreachStart
  pub too_large : (g : Goal) → e ≡ fault.TooLarge g → P TooLargeStart
  pub nested : (g : Goal) → e ≡ fault.Missing g → P NestedStart

-- Whatever follows it, if it isn't empty.
unison-start : (P : Start → Type 0) (S : Members) (e : CheckFault) (more : List ℕ)
    → (unison_line S e ≡ [] → P (start more)) → HoldsOfUnisonStarts P e
    → P (start (unison_line S e ++ more))
unison-start P S fault.TooManyProfiles more rest h = rest refl
unison-start P S (fault.SameName n) more rest h = rest refl
unison-start P S (fault.NestedRoots a z) more rest h = rest refl
unison-start P S (fault.Overlap w o place held path) more rest h =
    h.overlap w o place held path refl
unison-start P S (fault.Breach p k path) more rest h =
    breach-start P (name_at S.profiles p) (slice_get S.rules k) k path more rest
    (h.breach p k path refl)
unison-start P S (fault.TooLarge (goal.Clash w o place)) more rest h = h.too_large _ refl
unison-start P S (fault.TooLarge (goal.Breach p k)) more rest h = h.too_large _ refl
unison-start P S (fault.Missing (goal.Clash w o place)) more rest h = h.nested _ refl
unison-start P S (fault.Missing (goal.Breach p k)) more rest h = rest refl
unison-start P S (fault.NoStart g) more rest h = rest refl
unison-start P S (fault.NotClosed g k class) more rest h = rest refl
unison-start P S (fault.Accepting g k) more rest h = rest refl
unison-start P S (fault.Stray i) more rest h = rest refl
unison-start P S (fault.BadText l) more rest h = rest refl
unison-start P S (fault.AlphabetFault f) more rest h = rest refl
unison-start P S fault.OutOfMemory more rest h = rest refl

pub unison-line-start : (P : Start → Type 0) (S : Members) (e : CheckFault)
    → HoldsOfUnisonStarts P e → P (start (unison_line S e))
unison-line-start P S e h =
    subst (λ t. P (start t)) (append-nil (unison_line S e))
    (unison-start P S e [] (λ none. h.other) h)

-- And of the start of the lines of many, and of what follows them if they are empty.
pub unison-lines-start : (P : Start → Type 0) (S : Members) (es : List CheckFault) (more : List ℕ)
    → (unison_lines S es ≡ [] → P (start more))
    → ((n : ℕ) (e : CheckFault) → slice_get es n ≡ Some e → HoldsOfUnisonStarts P e)
    → P (start (unison_lines S es ++ more))
unison-lines-start P S [] more other h = other refl
unison-lines-start P S (e ∷ es) more other h =
    subst (λ t. P (start t)) (sym (append_assoc (unison_line S e) (unison_lines S es) more))
    (unison-start P S e (unison_lines S es ++ more)
    (λ empty. unison-lines-start P S es more (λ none. other (λ i. empty i ++ none i))
    (λ n f at. h (suc n) f at))
    (h 0 e refl))

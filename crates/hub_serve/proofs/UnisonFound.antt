-- From lines in Unison to what is safe without them, and unsafe with them.
use Rattle.std.proofs.Common.{◌≡◌, ◌∙◌, None, true, ℕ, List, Result, Ok, Err}
use Rattle.std.specs.Prelude.{Contains, IfOk}
use Rattle.std.specs.List.Sorted.{IsPermutation}
use Rattle.std.proofs.lemmas.List.Sorted.{Contains-permutation, IsPermutation-sym}
use Rattle.hub_profile.specs.Parts.{Parts}
use Rattle.hub_profile.specs.declared.rule.Rule.{Rule}
use Rattle.hub_apart.specs.Ordered.{AreByWriter}
use Rattle.hub_apart.specs.UnisonLines.{AreLinesInUnison, AreValid, beside}
use Rattle.hub_apart.specs.UnsafeParts.{HasUnsafePart, shows_path}
use Rattle.hub_apart.specs.WithoutLines.{AreSome, HaveLinesInUnison, HaveNoOwnLine, HaveNoPair}
use Rattle.hub_apart.specs.declared.searched.Apart.{Apart}
use Rattle.hub_cert.specs.declared.fault.CheckFault.{CheckFault}
use Rattle.hub_parts.specs.Anywhere.{IsSafeAnywhereInUnison, KeepsRulesAnywhereInUnison}
use Rattle.hub_parts.specs.InUnison.{parts_read}
use Rattle.hub_unison.specs.Shared.{ShareNoArchive}
use Rattle.hub_unison.specs.Written.{Written}
use Rattle.hub_serve.proofs.PlansInUnison.{SomeAreSafe}
use Rattle.hub_serve.specs.InUnison.{AreSafeWithoutLines, ShowUnsafeParts, namesake}
use Rattle.hub_serve.specs.forms.InUnison.{IsFoundOf, IsSearchedOf}

-- The laws of profiles without lines in Unison, and of lines that show a path.
abbrev pub SomeNeverClash : Type 0
SomeNeverClash =
    (Ws Vs : List Written) (Rs : List Rule) (es : List CheckFault) (numbers : List ℕ)
    → HaveLinesInUnison Ws Rs es → AreSome Ws Vs numbers → HaveNoPair es numbers
    → ShareNoArchive (parts_read Vs) → IsSafeAnywhereInUnison Vs

abbrev pub SomeKeepRules : Type 0
SomeKeepRules =
    (Ws Vs : List Written) (Rs : List Rule) (es : List CheckFault) (numbers : List ℕ)
    → HaveLinesInUnison Ws Rs es → AreSome Ws Vs numbers → HaveNoOwnLine es numbers → KeepsRulesAnywhereInUnison Vs Rs

abbrev pub LinesShow : Type 0
LinesShow =
    (Ps : List Parts) (Rs : List Rule) (es : List CheckFault) (e : CheckFault)
    → AreLinesInUnison Ps Rs es → Contains es e → shows_path e ≡ true → HasUnsafePart Ps Rs

-- The same lines in another order are about the same profiles.
no-pair-before : (es fs : List CheckFault) (numbers : List ℕ) → IsPermutation es fs → HaveNoPair fs numbers → HaveNoPair es numbers
no-pair-before es fs numbers same none = λ a b i j other at_i at_j h.
    none a b i j other at_i at_j (h.0, Contains-permutation es fs h.0 same h.1, h.2)

no-own-before : (es fs : List CheckFault) (numbers : List ℕ) → IsPermutation es fs → HaveNoOwnLine fs numbers → HaveNoOwnLine es numbers
no-own-before es fs numbers same none = λ a i at why h. none a i at why (h.0, Contains-permutation es fs h.0 same h.1, h.2)

safe-without : SomeNeverClash → SomeAreSafe → SomeKeepRules → (Ps : List Parts) (Rs : List Rule) (es fs : List CheckFault) → AreValid Ps → AreLinesInUnison Ps Rs es
    → IsPermutation es fs → AreSafeWithoutLines Ps Rs fs
safe-without anywhere safe kept Ps Rs es fs valid are same = λ Ws Vs numbers written some no_pair no_own apart.
    let have : HaveLinesInUnison Ws Rs es = record { parts = Ps; written = written; valid = valid; are = are } in
    let none : HaveNoPair es numbers = no-pair-before es fs numbers same no_pair in
    record {
      anywhere = anywhere Ws Vs Rs es numbers have some none apart;
      safe = safe Ws Vs Rs es numbers have some none apart;
      kept = kept Ws Vs Rs es numbers have some (no-own-before es fs numbers same no_own);
    }

show-unsafe : LinesShow → (Ps : List Parts) (Rs : List Rule) (es fs : List CheckFault) → AreLinesInUnison Ps Rs es → IsPermutation es fs → ShowUnsafeParts Ps Rs fs
show-unsafe show Ps Rs es fs are same = λ e has shows. show Ps Rs es e are (Contains-permutation fs es e (IsPermutation-sym es fs same) has) shows

-- What is found of profiles and rules, where these lines were searched and those are by who writes.
pub by-writer-found : SomeNeverClash → SomeAreSafe → SomeKeepRules → LinesShow → (Ps : List Parts) (Rs : List Rule) (searched found : Apart) → AreValid Ps
    → searched.profiles ≡ beside Rs Ps → searched.rules ≡ Rs → AreLinesInUnison Ps Rs searched.lines
    → found.profiles ≡ searched.profiles → found.rules ≡ searched.rules → IsPermutation searched.lines found.lines → AreByWriter found.lines → IsSearchedOf Ps Rs found
by-writer-found anywhere safe kept show Ps Rs searched found valid readings rules are same_profiles same_rules same order = record {
  profiles = same_profiles ∙ readings;
  rules = same_rules ∙ rules;
  lines = record {
    searched = searched.lines;
    all = are;
    same = same;
    order = order;
    safe = safe-without anywhere safe kept Ps Rs searched.lines found.lines valid are same;
    unsafe = show-unsafe show Ps Rs searched.lines found.lines are same;
  };
}

-- The same where no two profiles have one name.
pub named-found : {E : Type 0} (Ps : List Parts) (Rs : List Rule) (r : Result Apart E) → namesake Ps ≡ None → IfOk r (IsSearchedOf Ps Rs) → IfOk r (IsFoundOf Ps Rs)
named-found Ps Rs (Ok found) names h = record { profiles = h.profiles; rules = h.rules; names = names; lines = h.lines }
named-found Ps Rs (Err e) names h = tt

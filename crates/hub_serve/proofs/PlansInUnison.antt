-- From a plan to what is safe in Unison.
use Rattle.std.proofs.Common.{◌≡◌, ◌≢◌, ◌∙◌, inl, inr, ◌<◌, ◌==◌, ◌&&◌, ◌||◌, ℕ, zero, suc, Bool, true, false, List, [], ◌∷◌, Some, Result, Ok, Err, refl, sym, ap, subst, arith}
use Rattle.std.specs.Prelude.{IfOk, slice_get}
use Rattle.std.proofs.Math.Bool.{or_comm}
use Rattle.std.proofs.lemmas.Option.{none-some, same_Some}
use Rattle.hub_profile.specs.Parts.{Parts}
use Rattle.hub_profile.specs.declared.rule.Rule.{Rule}
use Rattle.hub_apart.specs.UnisonLines.{AreLinesInUnison, AreValid, beside}
use Rattle.hub_apart.specs.WithoutLines.{AreSome, HaveLinesInUnison, HaveNoPair, NeverClash}
use Rattle.hub_apart.specs.declared.searched.Apart.{Apart}
use Rattle.hub_cert.specs.declared.fault.CheckFault.{CheckFault}
use Rattle.hub_parts.specs.InUnison.{parts_read}
use Rattle.hub_parts.specs.Whole.{AreRootsApart}
use Rattle.hub_preferences.specs.Counted.{counted_bundle}
use Rattle.hub_reach.specs.Safe.{share_archive}
use Rattle.hub_rounds.specs.Lines.{HasNoOwnLine, HasPair, names_pair, subject_of}
use Rattle.hub_rounds.specs.declared.subject.Subject.{Subject}
use Rattle.hub_rounds.specs.declared.subject.Subject.TheVariants.{Pair, Alone, Nothing}
use Rattle.hub_parts.specs.Anywhere.{KeepsRulesAnywhereInUnison}
use Rattle.hub_unison.specs.Shared.{ShareNoArchive, is_shared, shared_pairs}
use Rattle.hub_unison.specs.UnisonReach.{IsSafeInUnison}
use Rattle.hub_unison.specs.Written.{AreWrittenAs, Written}
use Rattle.hub_serve.specs.Plans.{AreFoundOf, IsApart, IsPlan, KeepRules, MayRunBeside, RunBeside}
use Rattle.hub_serve.specs.Unison.{written_in}
use Rattle.hub_serve.proofs.SharedPairs.{all-shared, no-archive}
use Rattle.hub_serve.proofs.WrittenSections.{taken-written}

-- The laws of profiles without lines in Unison.
abbrev pub PairsNeverClash : Type 0
PairsNeverClash =
    (Ws : List Written) (Rs : List Rule) (es : List CheckFault) (i j : ℕ) (V W : Written)
    → HaveLinesInUnison Ws Rs es → i ≢ j → slice_get Ws i ≡ Some V → slice_get Ws j ≡ Some W
    → share_archive V.parts W.parts ≡ false → ¬ (HasPair es i j) → NeverClash V W

abbrev pub SomeAreSafe : Type 0
SomeAreSafe =
    (Ws Vs : List Written) (Rs : List Rule) (es : List CheckFault) (numbers : List ℕ)
    → HaveLinesInUnison Ws Rs es → AreSome Ws Vs numbers → HaveNoPair es numbers
    → ShareNoArchive (parts_read Vs) → AreRootsApart (parts_read Vs) [] → IsSafeInUnison Vs

abbrev pub OneKeepsRules : Type 0
OneKeepsRules =
    (Ws : List Written) (Rs : List Rule) (es : List CheckFault) (i : ℕ) (W : Written)
    → HaveLinesInUnison Ws Rs es → slice_get Ws i ≡ Some W → HasNoOwnLine es i → KeepsRulesAnywhereInUnison (W ∷ []) Rs

-- The two numbers have one order.
turned : (s : Subject) (i j : ℕ) → names_pair s i j ≡ true → names_pair s j i ≡ true
turned (Pair w o) i j h = or_comm (w == j && o == i) (w == i && o == j) ∙ h
turned (Alone p why) i j h = h
turned Nothing i j h = h

pair-turned : (es : List CheckFault) (i j : ℕ) → HasPair es i j → HasPair es j i
pair-turned es i j h = (h.0, h.1, turned (subject_of h.0) i j h.2)

-- Two of the profiles, by their numbers.
two-some : (Ws : List Written) (i j : ℕ) (V W : Written) → i ≢ j → slice_get Ws i ≡ Some V → slice_get Ws j ≡ Some W
    → AreSome Ws (V ∷ W ∷ []) (i ∷ j ∷ [])
two-some Ws i j V W other at_i at_j = record { place = place; once = once }
  where
    place : (a : ℕ) (X : Written) → slice_get (V ∷ W ∷ []) a ≡ Some X
        → (k : ℕ) × (slice_get (i ∷ j ∷ []) a ≡ Some k) × (slice_get Ws k ≡ Some X)
    place zero X at = (i, refl, at_i ∙ at)
    place (suc zero) X at = (j, refl, at_j ∙ at)
    place (suc (suc a)) X at = absurd (none-some X at)

    once : (a b k : ℕ) → slice_get (i ∷ j ∷ []) a ≡ Some k → slice_get (i ∷ j ∷ []) b ≡ Some k → a ≡ b
    once zero zero k e f = refl
    once zero (suc zero) k e f = absurd (other (same_Some i k e ∙ sym (same_Some j k f)))
    once (suc zero) zero k e f = absurd (other (same_Some i k f ∙ sym (same_Some j k e)))
    once (suc zero) (suc zero) k e f = refl
    once (suc (suc a)) b k e f = absurd (none-some k e)
    once a (suc (suc b)) k e f = absurd (none-some k f)

no-pair : (es : List CheckFault) (i j : ℕ) → (HasPair es i j → ⊥) → HaveNoPair es (i ∷ j ∷ [])
no-pair es i j none zero zero k l other e f = absurd (other refl)
no-pair es i j none zero (suc zero) k l other e f = λ h.
    none (subst (HasPair es i) (sym (same_Some j l f)) (subst (λ n. HasPair es n l) (sym (same_Some i k e)) h))
no-pair es i j none (suc zero) zero k l other e f = λ h.
    none (pair-turned es j i (subst (HasPair es j) (sym (same_Some i l f)) (subst (λ n. HasPair es n l) (sym (same_Some j k e)) h)))
no-pair es i j none (suc zero) (suc zero) k l other e f = absurd (other refl)
no-pair es i j none (suc (suc a)) b k l other e f = absurd (none-some k e)
no-pair es i j none a (suc (suc b)) k l other e f = absurd (none-some l f)

-- Two profiles without a line may run beside each other.
pub may-run : PairsNeverClash → SomeAreSafe → (Ps : List Parts) (Rs : List Rule) (es : List CheckFault) → AreValid Ps
    → AreLinesInUnison Ps Rs es → MayRunBeside Ps es
may-run never some Ps Rs es valid are Ws i j V W written l at_i at_j apart none =
    let have : HaveLinesInUnison Ws Rs es = record { parts = Ps; written = written; valid = valid; are = are } in
    let other : i ≢ j = λ e. omega (arith, l, e) in
    let shared : share_archive V.parts W.parts ≡ false = apart 0 1 V.parts W.parts refl refl (λ e. omega (arith, e)) in
    record {
      never = never Ws Rs es i j V W have other at_i at_j shared none;
      archives = shared;
      safe = some Ws (V ∷ W ∷ []) Rs es (i ∷ j ∷ []) have (two-some Ws i j V W other at_i at_j) (no-pair es i j none) apart;
    }

pub keep-rules : OneKeepsRules → (Ps : List Parts) (Rs : List Rule) (es : List CheckFault) → AreValid Ps
    → AreLinesInUnison Ps Rs es → KeepRules Ps Rs es
keep-rules one Ps Rs es valid are Ws i W written at none =
    one Ws Rs es i W (record { parts = Ps; written = written; valid = valid; are = are }) at none

-- What is found of profiles and rules.
pub found-of : {E : Type 0} → PairsNeverClash → SomeAreSafe → OneKeepsRules → (Ps : List Parts) (Rs : List Rule) (r : Result Apart E) → AreValid Ps
    → IfOk r (λ a. a.profiles ≡ beside Rs Ps) → IfOk r (λ a. a.rules ≡ Rs) → IfOk r (λ a. AreLinesInUnison Ps Rs a.lines)
    → IfOk r (AreFoundOf Ps Rs)
found-of never some one Ps Rs (Ok found) valid readings rules lines = record {
  profiles = readings;
  rules = rules;
  all = lines;
  pairs = may-run never some Ps Rs found.lines valid lines;
  alone = keep-rules one Ps Rs found.lines valid lines;
}
found-of never some one Ps Rs (Err e) valid readings rules lines = tt

-- Two profiles that share no archive.
two-share-none : (C D : Parts) → (is_shared C D ≡ true → ⊥) → ShareNoArchive (C ∷ D ∷ [])
two-share-none C D never = no-archive (C ∷ D ∷ []) go
  where
    go : (i j : ℕ) (P Q : Parts) → i < j → slice_get (C ∷ D ∷ []) i ≡ Some P → slice_get (C ∷ D ∷ []) j ≡ Some Q → is_shared P Q ≡ true → ⊥
    go i zero P Q l at_i at_j is = omega (arith, l)
    go zero (suc zero) P Q l at_i at_j is = never (subst (λ R. is_shared C R ≡ true) (sym (same_Some D Q at_j)) (subst (λ R. is_shared R Q ≡ true) (sym (same_Some C P at_i)) is))
    go (suc i) (suc zero) P Q l at_i at_j is = omega (arith, l)
    go i (suc (suc j)) P Q l at_i at_j is = none-some Q at_j

pub plan-in_unison : (bytes text : List ℕ) (whole : Bool) (p : IsPlan bytes text whole) (i j : ℕ) (V W : Written) → i < j
    → slice_get (written_in p.takes.sections) i ≡ Some V → slice_get (written_in p.takes.sections) j ≡ Some W
    → (IsApart p.lines (shared_pairs p.own.profiles) i j → ⊥) → RunBeside V W
plan-in_unison bytes text whole p i j V W l at_i at_j none =
    let written = taken-written (counted_bundle bytes) p.own p.takes in
    let first = written.each i V at_i in
    let second = written.each j W at_j in
    let apart : ShareNoArchive (parts_read (V ∷ W ∷ [])) = two-share-none V.parts W.parts (λ is.
    none (inr (all-shared p.own.profiles i j first.0 second.0 l first.1 second.1
    (subst (λ Q. is_shared first.0 Q ≡ true) second.2.parts (subst (λ P. is_shared P W.parts ≡ true) first.2.parts is))))) in
    p.pairs (written_in p.takes.sections) i j V W written l at_i at_j apart (λ h. none (inl h))

pub plan-keeps : (bytes text : List ℕ) (whole : Bool) (p : IsPlan bytes text whole) (i : ℕ) (W : Written)
    → slice_get (written_in p.takes.sections) i ≡ Some W → HasNoOwnLine p.lines i → KeepsRulesAnywhereInUnison (W ∷ []) p.own.rules
plan-keeps bytes text whole p i W at none =
    p.alone (written_in p.takes.sections) i W (taken-written (counted_bundle bytes) p.own p.takes) at none

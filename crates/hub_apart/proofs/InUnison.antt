-- Profiles that no line in Unison is about are safe in Unison.
use Rattle.std.proofs.Common.{◌≡◌, ◌≢◌, ◌∙◌, ◌⊎◌, inl, inr, ⊎_elim, ◌<◌, ◌==◌, ◌&&◌, ◌||◌, ℕ, zero, suc, Bool, true, false, List, [], ◌∷◌, Some, refl, sym, ap, subst, arith}
use Rattle.std.specs.Prelude.{Contains, slice_get, option_map, ◌↔◌}
use Rattle.std.specs.List.{list_any}
use Rattle.std.proofs.lemmas.Bool.{false≢true, or_cases, or_left, or_right}
use Rattle.std.proofs.lemmas.List.Elements.{Contains-append_left, Contains-append_right}
use Rattle.std.proofs.lemmas.Option.{none-some, same_Some, slice_get-map, slice_get_within}
use Rattle.hub_path.specs.Path.{Path, path_eq}
use Rattle.hub_profile.specs.Facts.{are_roots}
use Rattle.hub_profile.specs.Parts.{IsProfile, Parts, has_root}
use Rattle.hub_profile.specs.declared.rule.Rule.{Rule}
use Rattle.hub_reach.specs.Safe as safe
use Rattle.hub_reach.specs.Safe.{IsSafe, share_archive}
use Rattle.hub_cert.specs.declared.fault.CheckFault.{CheckFault}
use Rattle.hub_parts.specs.Anywhere.{IsSafeAnywhereInUnison, KeepsRulesAnywhereInUnison}
use Rattle.hub_parts.specs.Clashing.{AreNear}
use Rattle.hub_parts.specs.InUnison.{parts_read}
use Rattle.hub_parts.specs.Listed.{HasNoReadBreach}
use Rattle.hub_parts.specs.Nested.{ClashAt, IsSafeAnywhere, WideBreach, WideClash}
use Rattle.hub_parts.specs.Whole.{AreRootsApart}
use Rattle.hub_rounds.specs.Lines.{HasNoOwnLine, HasPair, names_pair, subject_of}
use Rattle.hub_rounds.specs.declared.subject.Subject.{Subject}
use Rattle.hub_rounds.specs.declared.subject.Subject.TheVariants.{Pair, Alone, Nothing}
use Rattle.hub_unison.specs.ReadingOf.{cautious_of, reading_of}
use Rattle.hub_unison.specs.Rules.{forbidden}
use Rattle.hub_unison.specs.Shared.{ShareNoArchive}
use Rattle.hub_unison.specs.Written.{AreWrittenAs, IsWrittenAs, Written}
use Rattle.hub_unison.specs.laws.Reading.{reading-cautious}
use Rattle.hub_apart.specs.NestedLines.{AreLinesBeside, AreLinesOfNear}
use Rattle.hub_apart.specs.UnisonLines.{AreLinesInUnison, AreValid, beside, cautious}
use Rattle.hub_apart.specs.WithoutLines.{AreSome, HaveLinesInUnison, HaveNoOwnLine, HaveNoPair, NeverClash}
use Rattle.hub_apart.proofs.NestedClashes.{Counting, no-nested-clash}
use Rattle.hub_apart.proofs.Readings.{beside-valid, cautious-valid}
use Rattle.hub_apart.proofs.NestedBreaches.{RuleCounting, keeps-wide}
use Rattle.hub_apart.proofs.WithoutLines.{MadeSafe, RestShown, two-safe}

-- What is known of parts.
abbrev pub Nearness : Type 0
Nearness = (Ps : List Parts) (i j : ℕ) (P Q : Parts) → slice_get Ps i ≡ Some P → slice_get Ps j ≡ Some Q → are_roots P.roots ≡ true → WideClash P Q → AreNear Ps i j

abbrev pub Anywhere : Type 0
Anywhere = (Ps : List Parts) (Rs : List safe.Rule) → IsSafe Ps Rs ↔ (AreRootsApart Ps Rs × IsSafeAnywhere Ps Rs)

-- Two numbers, in their order.
places : (i j : ℕ) → (i < j) ⊎ ((i ≡ j) ⊎ (j < i))
places zero zero = inr (inl refl)
places zero (suc j) = inl (omega arith)
places (suc i) zero = inr (inr (omega arith))
places (suc i) (suc j) = ⊎_elim
    (λ less. inl (omega (arith, less)))
    (λ other. ⊎_elim (λ e. inr (inl (ap (λ n. suc n) e))) (λ more. inr (inr (omega (arith, more)))) other)
    (places i j)

swapped : (a b c d : Bool) → ((a && b) || (c && d)) ≡ true → ((c && d) || (a && b)) ≡ true
swapped a b c d h = ⊎_elim (λ l. or_right (c && d) (a && b) l) (λ r. or_left (c && d) (a && b) r) (or_cases (a && b) (c && d) h)

names-turned : (s : Subject) (i j : ℕ) → names_pair s i j ≡ true → names_pair s j i ≡ true
names-turned (Pair w o) i j h = swapped (w == i) (o == j) (w == j) (o == i) h
names-turned (Alone p why) i j h = h
names-turned Nothing i j h = h

turned : (es : List CheckFault) (i j : ℕ) → HasPair es i j → HasPair es j i
turned es i j p = (p.0, p.1, names-turned (subject_of p.0) i j p.2)

cautious-at : (Ps : List Parts) (i : ℕ) (P : Parts) → slice_get Ps i ≡ Some P → slice_get (cautious Ps) i ≡ Some (cautious_of P)
cautious-at Ps i P at = slice_get-map cautious_of Ps i ∙ ap (option_map cautious_of) at

beside-at : (Rs : List Rule) (Ps : List Parts) (i : ℕ) (P : Parts) → slice_get Ps i ≡ Some P → slice_get (beside Rs Ps) i ≡ Some (reading_of Rs P)
beside-at Rs Ps i P at = slice_get-map (reading_of Rs) Ps i ∙ ap (option_map (reading_of Rs)) at

-- What keeps rules in Unison.
abbrev pub Kept : Type 0
Kept = (Ws : List Written) (Ps : List Parts) (Rs : List Rule) → AreWrittenAs Ws Ps → HasNoReadBreach Ps Rs → KeepsRulesAnywhereInUnison Ws Rs

module _ (near : Nearness) (anywhere : Anywhere) (rest : RestShown) (made : MadeSafe) (counting : Counting) (ruling : RuleCounting) (kept : Kept) where
  -- Two cautious readings of which no line is about both.
  listed-apart : (Ps : List Parts) (Rs : List Rule) (es : List CheckFault) (are : AreLinesInUnison Ps Rs es) (i j : ℕ) (P Q : Parts)
      → slice_get Ps i ≡ Some P → slice_get Ps j ≡ Some Q → IsProfile P → IsProfile Q → ¬ (HasPair es i j) → Contains are.pairs (i, j)
      → (r s : Path) → has_root (cautious_of P) r ≡ true → has_root (cautious_of Q) s ≡ true
      → ¬ (ClashAt (cautious_of P) (cautious_of Q) r s) × ¬ (ClashAt (cautious_of Q) (cautious_of P) s r)
  listed-apart Ps Rs es are i j P Q at_i at_j valid other none listed r s has_r has_s =
      let t = are.two.of_two i j listed in
      let first : t.1.first ≡ C = same_Some t.1.first C (sym t.1.at_first ∙ cautious-at Ps i P at_i) in
      let second : t.1.second ≡ D = same_Some t.1.second D (sym t.1.at_second ∙ cautious-at Ps j Q at_j) in
      go t.0 (subst (λ X. AreLinesOfNear X D i j t.0) first (subst (λ X. AreLinesOfNear t.1.first X i j t.0) second t.1.lines))
      (λ e has. subst (λ xs. Contains xs e) (sym are.all) (Contains-append_left are.of_pairs are.of_each e (t.2 e has)))
    where
      C : Parts
      C = cautious_of P

      D : Parts
      D = cautious_of Q

      go : (own : List CheckFault) → AreLinesOfNear C D i j own → ((e : CheckFault) → Contains own e → Contains es e)
          → ¬ (ClashAt C D r s) × ¬ (ClashAt D C s r)
      go own (inl nested) among =
          no-nested-clash rest made counting C D i j own es (cautious-valid P valid) (cautious-valid Q other) nested.1 among none r s has_r has_s
      go own (inr flat) among =
          let safe = two-safe rest made C D i j own es (cautious-valid P valid) (cautious-valid Q other) (inr flat) among none in
          let wide = ((anywhere (C ∷ D ∷ []) []).0 safe).1 in (
            λ clash. wide.no_clash 0 1 C D refl refl (λ e. cc) (inl (r, s, has_r, has_s, clash)),
            λ clash. wide.no_clash 1 0 D C refl refl (λ e. cc) (inl (s, r, has_s, has_r, clash)),
          )

  no-clash-at : (Ps : List Parts) (Rs : List Rule) (es : List CheckFault) (are : AreLinesInUnison Ps Rs es) (i j : ℕ) (P Q : Parts)
      → slice_get Ps i ≡ Some P → slice_get Ps j ≡ Some Q → IsProfile P → IsProfile Q → i ≢ j → ¬ (HasPair es i j)
      → (r s : Path) → has_root (cautious_of P) r ≡ true → has_root (cautious_of Q) s ≡ true → ¬ (ClashAt (cautious_of P) (cautious_of Q) r s)
  no-clash-at Ps Rs es are i j P Q at_i at_j valid other off none r s has_r has_s clash = ⊎_elim
      (λ less. (listed-apart Ps Rs es are i j P Q at_i at_j valid other none (are.near.complete i j less n) r s has_r has_s).0 clash)
      (λ others. ⊎_elim
      (λ same. off same)
      (λ more.
      (listed-apart Ps Rs es are j i Q P at_j at_i other valid (λ p. none (turned es j i p))
      (are.near.complete j i more (⊎_elim (λ v. inr v) (λ v. inl v) n)) s r has_s has_r).1 clash)
      others)
      (places i j)
    where
      n : AreNear (cautious Ps) i j
      n =
          near (cautious Ps) i j (cautious_of P) (cautious_of Q) (cautious-at Ps i P at_i) (cautious-at Ps j Q at_j)
          (cautious-valid P valid).roots (inl (r, s, has_r, has_s, clash))

  pub never : (Ws : List Written) (Rs : List Rule) (es : List CheckFault) (i j : ℕ) (V W : Written) → HaveLinesInUnison Ws Rs es → i ≢ j
      → slice_get Ws i ≡ Some V → slice_get Ws j ≡ Some W → share_archive V.parts W.parts ≡ false → ¬ (HasPair es i j) → NeverClash V W
  never Ws Rs es i j V W h off at_i at_j archive none m n known_m known_n (inr shared) = false≢true (sym archive ∙ shared)
  never Ws Rs es i j V W h off at_i at_j archive none m n known_m known_n (inl w) =
      let p = h.written.each i V at_i in
      let q = h.written.each j W at_j in
      let c = reading-cautious V p.0 p.2 in
      let d = reading-cautious W q.0 q.2 in
      no-clash-at h.parts Rs es h.are i j p.0 q.0 p.1 q.1 (h.valid i p.0 p.1) (h.valid j q.0 q.1) off none w.0 w.1
      (ap (λ (rs : List Path). list_any (λ own. path_eq own w.0) rs) c.roots ∙ w.4)
      (ap (λ (rs : List Path). list_any (λ own. path_eq own w.1) rs) d.roots ∙ w.5)
      (w.2, w.3, w.6, c.write m known_m w.0 w.2 w.7, d.reach n known_n w.3 w.8)

  -- Beside rules nothing is ignored.
  clean : (Rs : List Rule) (k : ℕ) (R : Rule) (P : Parts) → slice_get Rs k ≡ Some R → (reading_of Rs P).ignore ≡ []
  clean [] k R P at = absurd (none-some R at)
  clean (S ∷ Rs) k R P at = refl

  for-any : (Rs : List Rule) (k : ℕ) (R : Rule) (P : Parts) → slice_get Rs k ≡ Some R → reading_of (R ∷ []) P ≡ reading_of Rs P
  for-any [] k R P at = absurd (none-some R at)
  for-any (S ∷ Rs) k R P at = refl

  unbroken : (Ps : List Parts) (Rs : List Rule) (es : List CheckFault) → AreValid Ps → AreLinesInUnison Ps Rs es → (i : ℕ) (P : Parts)
      → slice_get Ps i ≡ Some P → HasNoOwnLine es i → (k : ℕ) (R : Rule) → slice_get Rs k ≡ Some R → ¬ (WideBreach (reading_of (R ∷ []) P) (forbidden R))
  unbroken Ps Rs es valid are i P at none k R at_k breach =
      let t = are.one.of_one i (slice_get_within (beside Rs Ps) i (reading_of Rs P) (beside-at Rs Ps i P at)) in
      let profile : t.1.profile ≡ reading_of Rs P = same_Some t.1.profile (reading_of Rs P) (sym t.1.at ∙ beside-at Rs Ps i P at) in
      keeps-wide rest made ruling (reading_of Rs P) Rs i t.0 es (beside-valid Rs P (valid i P at)) (clean Rs k R P at_k)
      (λ e has. subst (λ xs. Contains xs e) (sym are.all) (Contains-append_right are.of_pairs are.of_each e (t.2 e has)))
      none (subst (λ D. AreLinesBeside D Rs i t.0) profile t.1.lines) k R at_k
      (subst (λ D. WideBreach D (forbidden R)) (for-any Rs k R P at_k) breach)

  one-written : (W : Written) (P : Parts) → IsWrittenAs W P → AreWrittenAs (W ∷ []) (P ∷ [])
  one-written W P is = record { count = refl; each = each }
    where
      each : (i : ℕ) (V : Written) → slice_get (W ∷ []) i ≡ Some V → (Q : Parts) × (slice_get (P ∷ []) i ≡ Some Q) × IsWrittenAs V Q
      each zero V at = (P, refl, subst (λ X. IsWrittenAs X P) (same_Some W V at) is)
      each (suc i) V at = absurd (none-some V at)

  pub alone-keeps : (Ws : List Written) (Rs : List Rule) (es : List CheckFault) (i : ℕ) (W : Written) → HaveLinesInUnison Ws Rs es
      → slice_get Ws i ≡ Some W → HasNoOwnLine es i → KeepsRulesAnywhereInUnison (W ∷ []) Rs
  alone-keeps Ws Rs es i W h at none =
      let p = h.written.each i W at in
      kept (W ∷ []) (p.0 ∷ []) Rs (one-written W p.0 p.2) (no-breach p.0 p.1)
    where
      no-breach : (P : Parts) → slice_get h.parts i ≡ Some P → HasNoReadBreach (P ∷ []) Rs
      no-breach P at_p zero k Q R at_q at_k =
          subst (λ X. ¬ (WideBreach (reading_of (R ∷ []) X) (forbidden R))) (same_Some P Q at_q) (unbroken h.parts Rs es h.valid h.are i P at_p none k R at_k)
      no-breach P at_p (suc a) k Q R at_q at_k = absurd (none-some Q at_q)

-- Some of all profiles.
abbrev pub Never : Type 0
Never =
    (Ws : List Written) (Rs : List Rule) (es : List CheckFault) (i j : ℕ) (V W : Written) → HaveLinesInUnison Ws Rs es → i ≢ j
    → slice_get Ws i ≡ Some V → slice_get Ws j ≡ Some W → share_archive V.parts W.parts ≡ false → ¬ (HasPair es i j) → NeverClash V W

abbrev pub AloneKeeps : Type 0
AloneKeeps =
    (Ws : List Written) (Rs : List Rule) (es : List CheckFault) (i : ℕ) (W : Written) → HaveLinesInUnison Ws Rs es
    → slice_get Ws i ≡ Some W → HasNoOwnLine es i → KeepsRulesAnywhereInUnison (W ∷ []) Rs

parts-at : (Ws : List Written) (i : ℕ) (W : Written) → slice_get Ws i ≡ Some W → slice_get (parts_read Ws) i ≡ Some W.parts
parts-at Ws i W at = slice_get-map (λ (X : Written). X.parts) Ws i ∙ ap (option_map (λ (X : Written). X.parts)) at

pub some-safe : Never → (Ws Vs : List Written) (Rs : List Rule) (es : List CheckFault) (numbers : List ℕ) → HaveLinesInUnison Ws Rs es
    → AreSome Ws Vs numbers → HaveNoPair es numbers → ShareNoArchive (parts_read Vs) → IsSafeAnywhereInUnison Vs
some-safe never Ws Vs Rs es numbers h some none archives m n known_m known_n a b V W at_a at_b off =
    let v = some.place a V at_a in
    let w = some.place b W at_b in
    never Ws Rs es v.0 w.0 V W h (λ same. off (some.once a b v.0 v.1 (w.1 ∙ ap Some (sym same)))) v.2 w.2
    (archives a b V.parts W.parts (parts-at Vs a V at_a) (parts-at Vs b W at_b) off)
    (none a b v.0 w.0 off v.1 w.1) m n known_m known_n

pub some-kept : AloneKeeps → (Ws Vs : List Written) (Rs : List Rule) (es : List CheckFault) (numbers : List ℕ) → HaveLinesInUnison Ws Rs es
    → AreSome Ws Vs numbers → HaveNoOwnLine es numbers → KeepsRulesAnywhereInUnison Vs Rs
some-kept keeps Ws Vs Rs es numbers h some none m known a k W R at own breach =
    let w = some.place a W at in
    keeps Ws Rs es w.0 W h w.2 (none a w.0 w.1) m known 0 k W R refl own breach

-- All profiles, where there are no lines.
none-in : {X : Type 0} (x : X) → Contains [] x → ⊥
none-in x m = let l = m.1 in absurd (omega (arith, l))

pub all-safe : Never → (Ws : List Written) (Rs : List Rule) → HaveLinesInUnison Ws Rs [] → ShareNoArchive (parts_read Ws) → IsSafeAnywhereInUnison Ws
all-safe never Ws Rs h archives m n known_m known_n i j V W at_i at_j off =
    never Ws Rs [] i j V W h off at_i at_j (archives i j V.parts W.parts (parts-at Ws i V at_i) (parts-at Ws j W at_j) off)
    (λ p. none-in p.0 p.1) m n known_m known_n

pub all-kept : AloneKeeps → (Ws : List Written) (Rs : List Rule) → HaveLinesInUnison Ws Rs [] → KeepsRulesAnywhereInUnison Ws Rs
all-kept keeps Ws Rs h m known i k W R at own breach =
    keeps Ws Rs [] i W h at (λ why line. none-in line.0 line.1) m known 0 k W R refl own breach

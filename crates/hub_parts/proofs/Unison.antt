-- A set in Unison by its parts.
use Rattle.std.proofs.Common.{◌≡◌, subst, inl, inr, ⊎_elim, ◌<◌, ℕ, zero, suc, Bool, true, false, List, [], ◌∷◌, ◌++◌, map, length, refl, sym, ap, ◌∙◌, arith, append-nil, append_assoc}
use Rattle.std.specs.Prelude.{slice_get, Some, IsTrue, option_map, if◌then◌else◌}
use Rattle.std.specs.List.{flat_map, list_all, list_any}
use Rattle.std.proofs.lemmas.Bool.{false≢true}
use Rattle.std.proofs.lemmas.Option.{none-some, same_Some, slice_get-map}
use Rattle.hub_path.specs.Path.{Path, is_over, path_eq}
use Rattle.hub_profile.specs.Facts.{are_roots}
use Rattle.hub_profile.specs.Parts.{Parts, has_root}
use Rattle.hub_profile.specs.declared.rule.Rule.{Rule}
use Rattle.hub_reach.specs.Safe.{Breach, IsSafe, all_roots, share_archive}
use Rattle.hub_unison.specs.Matching.{IsMatching, Matching, widened}
use Rattle.hub_unison.specs.Cautious.{has_star, with_patterns, with_tops}
use Rattle.hub_unison.specs.ReadingOf.{cautious_of, each_kept, kept_bars, reading_of, spare_stays, top_values, with_kept}
use Rattle.hub_unison.specs.Rules.{IsReadingOf, KeepsRulesInUnison, UnisonBreach, forbidden}
use Rattle.hub_unison.specs.Shared.{ShareNoArchive}
use Rattle.hub_unison.specs.UnisonReach.{AreCautious, IsCautious, IsSafeInUnison, UnisonClash, written_roots}
use Rattle.hub_unison.specs.Written.{AreWrittenAs, IsWrittenAs, Written}
use Rattle.hub_unison.specs.laws.Cautious.{safe_in_unison}
use Rattle.hub_unison.specs.laws.Reading.{reading-cautious, readings-read}
use Rattle.hub_parts.specs.Anywhere.{IsSafeAnywhereInUnison, KeepsRulesAnywhereInUnison, UnisonWideClash}
use Rattle.hub_parts.specs.Clashing.{HasAllClashing, HaveRoots}
use Rattle.hub_parts.specs.InUnison.{HasSafeReading, HaveSafeParts, HaveSafeReadings, parts_read}
use Rattle.hub_parts.specs.Listed.{AreSafeListedReadings, HasNoClash}
use Rattle.hub_parts.specs.Nested.{WideClash}
use Rattle.hub_parts.specs.Whole.{AreRootsApart, IsEachOneSafe}
use Rattle.hub_parts.proofs.Clashes.{below-root}
use Rattle.hub_parts.proofs.Items.{places}
use Rattle.hub_parts.proofs.ListedParts.{no-clash-anywhere, profiles-safe}
use Rattle.hub_parts.proofs.Whole.{rule-safe, two-safe}

-- Two profiles with other ones in their place that have the same roots.
same-archive : (P Q C D : Parts) → C.roots ≡ P.roots → D.roots ≡ Q.roots → share_archive C D ≡ share_archive P Q
same-archive P Q C D c d =
    ap (λ (rs : List Path). list_all (has_root D) rs) c
    ∙ ap (λ (rs : List Path). list_all (λ r. list_any (λ s. path_eq s r) rs) P.roots) d

two-archives : (C D : Parts) → share_archive C D ≡ false → share_archive D C ≡ false → ShareNoArchive (C ∷ D ∷ [])
two-archives C D one other zero zero P Q p q off = absurd (off refl)
two-archives C D one other zero (suc zero) P Q p q off =
    subst (λ X. share_archive P X ≡ false) (same_Some D Q q) (subst (λ X. share_archive X D ≡ false) (same_Some C P p) one)
two-archives C D one other zero (suc (suc j)) P Q p q off = absurd (none-some Q q)
two-archives C D one other (suc zero) zero P Q p q off =
    subst (λ X. share_archive P X ≡ false) (same_Some C Q q) (subst (λ X. share_archive X C ≡ false) (same_Some D P p) other)
two-archives C D one other (suc zero) (suc zero) P Q p q off = absurd (off refl)
two-archives C D one other (suc zero) (suc (suc j)) P Q p q off = absurd (none-some Q q)
two-archives C D one other (suc (suc i)) j P Q p q off = absurd (none-some P p)

two-cautious : (V W : Written) (C D : Parts) → IsCautious V C → IsCautious W D → AreCautious (V ∷ W ∷ []) (C ∷ D ∷ [])
two-cautious V W C D c d = record { count = refl; each = each }
  where
    each : (i : ℕ) (X : Written) → slice_get (V ∷ W ∷ []) i ≡ Some X
        → (E : Parts) × (slice_get (C ∷ D ∷ []) i ≡ Some E) × IsCautious X E
    each zero X at = (C, refl, subst (λ Y. IsCautious Y C) (same_Some V X at) c)
    each (suc zero) X at = (D, refl, subst (λ Y. IsCautious Y D) (same_Some W X at) d)
    each (suc (suc i)) X at = absurd (none-some X at)

-- Two profiles are safe in Unison.
two-in-unison : (V W : Written) → HaveSafeReadings V W → share_archive V.parts W.parts ≡ false
    → share_archive W.parts V.parts ≡ false → IsSafeInUnison (V ∷ W ∷ [])
two-in-unison V W t one other =
    safe_in_unison (V ∷ W ∷ []) (t.0 ∷ t.1 ∷ []) [] (two-cautious V W t.0 t.1 t.2 t.3) t.4
    (two-archives t.0 t.1
    (same-archive V.parts W.parts t.0 t.1 t.2.roots t.3.roots ∙ one)
    (same-archive W.parts V.parts t.1 t.0 t.3.roots t.2.roots ∙ other))

parts-at : (Ws : List Written) (i : ℕ) (W : Written) → slice_get Ws i ≡ Some W → slice_get (parts_read Ws) i ≡ Some W.parts
parts-at Ws i W at = slice_get-map (λ (X : Written). X.parts) Ws i ∙ ap (option_map (λ (X : Written). X.parts)) at

pair-in-unison : (Ws : List Written) (Rs : List Rule) → HaveSafeParts Ws Rs → (i j : ℕ) (V W : Written) → i < j
    → slice_get Ws i ≡ Some V → slice_get Ws j ≡ Some W → IsSafeInUnison (V ∷ W ∷ [])
pair-in-unison Ws Rs parts i j V W less at_i at_j =
    two-in-unison V W (parts.two i j V W less at_i at_j)
    (parts.archives i j V.parts W.parts (parts-at Ws i V at_i) (parts-at Ws j W at_j) (λ e. omega (arith, less, e)))
    (parts.archives j i W.parts V.parts (parts-at Ws j W at_j) (parts-at Ws i V at_i) (λ e. omega (arith, less, e)))

own-roots : (Ws : List Written) → written_roots Ws ≡ all_roots (parts_read Ws) []
own-roots Ws = same Ws ∙ sym (append-nil (flat_map (λ (P : Parts). P.roots) (parts_read Ws)))
  where
    same : (Ws : List Written) → written_roots Ws ≡ flat_map (λ (P : Parts). P.roots) (parts_read Ws)
    same [] = refl
    same (W ∷ Ws) = ap (λ rs. W.parts.roots ++ rs) (same Ws)

written-apart : (Ws : List Written) → AreRootsApart (parts_read Ws) [] → (i j : ℕ) (r s : Path)
    → slice_get (written_roots Ws) i ≡ Some r → slice_get (written_roots Ws) j ≡ Some s → IsTrue (is_over r s) → r ≡ s
written-apart Ws apart i j r s at_i at_j =
    apart i j r s (sym (ap (λ rs. slice_get rs i) (own-roots Ws)) ∙ at_i) (sym (ap (λ rs. slice_get rs j) (own-roots Ws)) ∙ at_j)

pub parts-safe : (Ws : List Written) (Rs : List Rule) → HaveSafeParts Ws Rs → IsSafeInUnison Ws
parts-safe Ws Rs parts = record {
  apart = written-apart Ws parts.roots;
  no_clash = λ m n known also i j V W at_i at_j off clash. ⊎_elim
      (λ less. (pair-in-unison Ws Rs parts i j V W less at_i at_j).no_clash m n known also 0 1 V W refl refl (λ e. cc) clash)
      (λ other. ⊎_elim
      (λ same. absurd (off same))
      (λ more. (pair-in-unison Ws Rs parts j i W V more at_j at_i).no_clash m n known also 1 0 V W refl refl (λ e. cc) clash)
      other)
      (places i j);
}

pub parts-keep : (Ws : List Written) (Rs : List Rule) → HaveSafeParts Ws Rs → KeepsRulesInUnison Ws Rs
parts-keep Ws Rs parts m known i k W R at at_k breach =
    let t = parts.one i k W R at at_k in
    t.2.no_breach 0 0 t.0 (forbidden R) refl refl (t.1.breaches m known 0 R refl breach)

-- A reading for rules is one for each of them.
for-one : (Rs : List Rule) (k : ℕ) (R : Rule) (W : Written) (C : Parts) → slice_get Rs k ≡ Some R → IsReadingOf Rs W C
    → IsReadingOf (R ∷ []) W C
for-one Rs k R W C at read = record { cautious = read.cautious; breaches = λ m known j S at_j. by j m known S at_j }
  where
    by : (j : ℕ) (m : Matching) → IsMatching m → (S : Rule) → slice_get (R ∷ []) j ≡ Some S → UnisonBreach m W S → Breach C (forbidden S)
    by zero m known S e b = read.breaches m known k S (at ∙ e) b
    by (suc j) m known S e b = absurd (none-some S e)

-- What is read of profiles that some lines spell.
parts-are : (Ws : List Written) (Ps : List Parts) → AreWrittenAs Ws Ps → parts_read Ws ≡ Ps
parts-are Ws Ps written = go Ws Ps written.count written.each
  where
    go : (Ws : List Written) (Ps : List Parts) → length Ws ≡ length Ps
        → ((i : ℕ) (W : Written) → slice_get Ws i ≡ Some W → (P : Parts) × (slice_get Ps i ≡ Some P) × IsWrittenAs W P)
        → parts_read Ws ≡ Ps
    go [] [] e each = refl
    go [] (P ∷ Ps) e each = absurd (omega (arith, e))
    go (W ∷ Ws) [] e each = absurd (omega (arith, e))
    go (W ∷ Ws) (P ∷ Ps) e each =
        let own = each 0 W refl in
        let first : W.parts ≡ P = own.2.parts ∙ sym (same_Some P own.0 own.1) in
        λ i. first i ∷ go Ws Ps (omega (arith, e)) (λ k V at. each (suc k) V at) i

read-at : (Ps : List Parts) (i : ℕ) (P : Parts) → slice_get Ps i ≡ Some P → slice_get (map cautious_of Ps) i ≡ Some (cautious_of P)
read-at Ps i P at = slice_get-map cautious_of Ps i ∙ ap (option_map cautious_of) at

-- The cautious reading of a profile has its roots.
cautious-roots : (P : Parts) → (cautious_of P).roots ≡ P.roots
cautious-roots P = go (has_star P) (list_all spare_stays P.ignorenot)
  where
    go : (a b : Bool) → (if a then with_tops P (top_values P.paths) (kept_bars P.partial)
        else (if b then with_kept P (each_kept P.ignore (map widened P.ignorenot)) (map widened P.ignorenot) (kept_bars P.partial)
        else with_patterns P [] [] (kept_bars P.partial))).roots ≡ P.roots
    go true b = refl
    go false true = refl
    go false false = refl

cautious-all : (Ps : List Parts) → all_roots (map cautious_of Ps) [] ≡ all_roots Ps []
cautious-all [] = refl
cautious-all (P ∷ Ps) = (λ i. (cautious-roots P i ++ flat_map (λ (Q : Parts). Q.roots) (map cautious_of Ps)) ++ [])
    ∙ (append_assoc P.roots (flat_map (λ (Q : Parts). Q.roots) (map cautious_of Ps)) []
    ∙ (ap (λ rs. P.roots ++ rs) (cautious-all Ps)
    ∙ sym (append_assoc P.roots (flat_map (λ (Q : Parts). Q.roots) Ps) [])))

cautious-apart : (Ps : List Parts) → AreRootsApart Ps [] → AreRootsApart (map cautious_of Ps) []
cautious-apart Ps apart i j r s at_i at_j =
    apart i j r s (sym (ap (λ rs. slice_get rs i) (cautious-all Ps)) ∙ at_i) (sym (ap (λ rs. slice_get rs j) (cautious-all Ps)) ∙ at_j)

-- What a cautious reading at a place is the reading of.
own-at : (Ps : List Parts) (i : ℕ) (C : Parts) → slice_get (map cautious_of Ps) i ≡ Some C
    → (P : Parts) × (slice_get Ps i ≡ Some P) × (cautious_of P ≡ C)
own-at [] i C at = absurd (none-some C at)
own-at (P ∷ Ps) zero C at = (P, refl, same_Some (cautious_of P) C at)
own-at (P ∷ Ps) (suc i) C at = own-at Ps i C at

pub have-roots : (Ps : List Parts) → HaveRoots Ps → HaveRoots (map cautious_of Ps)
have-roots Ps roots i C at =
    let own = own-at Ps i C at in
    subst (λ (rs : List Path). IsTrue (are_roots rs)) (sym (cautious-roots own.0) ∙ ap (λ (X : Parts). X.roots) own.2) (roots i own.0 own.1)

module _ (Ws : List Written) (Ps : List Parts) (written : AreWrittenAs Ws Ps) where
  -- The reading of a profile beside rules.
  read-one : (Rs : List Rule) → IsEachOneSafe (map (reading_of Rs) Ps) (map forbidden Rs) → (i k : ℕ) (W : Written) (R : Rule)
      → slice_get Ws i ≡ Some W → slice_get Rs k ≡ Some R → HasSafeReading W R
  read-one Rs one i k W R at at_k =
      let c = (readings-read Ws Ps Rs written).each i W at in (
        c.0,
        for-one Rs k R W c.0 at_k c.2,
        rule-safe (c.0 ∷ []) (map forbidden Rs) (one i c.0 c.1) 0 k c.0 (forbidden R) refl
            (slice_get-map forbidden Rs k ∙ ap (option_map forbidden) at_k),
      )

  read-two : IsSafe (map cautious_of Ps) [] → (i j : ℕ) (V W : Written) → i < j → slice_get Ws i ≡ Some V
      → slice_get Ws j ≡ Some W → HaveSafeReadings V W
  read-two safe i j V W less at_i at_j =
      let v = written.each i V at_i in
      let w = written.each j W at_j in (
        cautious_of v.0,
        cautious_of w.0,
        reading-cautious V v.0 v.2,
        reading-cautious W w.0 w.2,
        two-safe (map cautious_of Ps) [] safe i j (cautious_of v.0) (cautious_of w.0) less (read-at Ps i v.0 v.1) (read-at Ps j w.0 w.1),
      )

  pub read-parts : (Rs : List Rule) (ps : List (ℕ × ℕ)) → HaveRoots Ps → HasAllClashing (map cautious_of Ps) ps
      → AreSafeListedReadings Ps Rs ps → HaveSafeParts Ws Rs
  read-parts Rs ps roots has parts = record {
    roots = subst (λ Qs. AreRootsApart Qs []) (sym (parts-are Ws Ps written)) parts.roots;
    archives = subst ShareNoArchive (sym (parts-are Ws Ps written)) parts.archives;
    two = read-two (profiles-safe (map cautious_of Ps) ps (have-roots Ps roots) has (cautious-apart Ps parts.roots) parts.two);
    one = read-one Rs parts.one;
  }

-- What clashes in Unison clashes in the cautious readings, wherever the roots lie, if these have not the same two roots.
at-root : (W : Written) (C : Parts) → IsCautious W C → (r : Path) → IsTrue (has_root W.parts r) → IsTrue (has_root C r)
at-root W C c r h = subst (λ (rs : List Path). IsTrue (list_any (λ s. path_eq s r) rs)) (sym c.roots) h

wide-cautious : (m n : Matching) → IsMatching m → IsMatching n → (V W : Written) (C D : Parts) → IsCautious V C → IsCautious W D
    → share_archive V.parts W.parts ≡ false → UnisonWideClash m n V W → WideClash C D
wide-cautious m n known also V W C D c d apart (inl w) =
    inl (
      w.0,
      w.1,
      at-root V C c w.0 w.4,
      at-root W D d w.1 w.5,
      (w.2, w.3, w.6, c.write m known w.0 w.2 w.7, d.reach n also w.3 w.8),
    )
wide-cautious m n known also V W C D c d apart (inr both) = absurd (false≢true (sym apart ∙ both))

pub safe-anywhere : (Ws : List Written) (Ps : List Parts) (ps : List (ℕ × ℕ)) → AreWrittenAs Ws Ps → HaveRoots Ps → ShareNoArchive Ps
    → HasAllClashing (map cautious_of Ps) ps → HasNoClash (map cautious_of Ps) ps → IsSafeAnywhereInUnison Ws
safe-anywhere Ws Ps ps written roots archives has free m n known also i j V W at_i at_j off clash =
    let v = written.each i V at_i in
    let w = written.each j W at_j in
    let apart : share_archive V.parts W.parts ≡ false =
    same-archive v.0 w.0 V.parts W.parts (ap (λ (X : Parts). X.roots) v.2.parts) (ap (λ (X : Parts). X.roots) w.2.parts)
    ∙ archives i j v.0 w.0 v.1 w.1 off in
    no-clash-anywhere (map cautious_of Ps) ps (have-roots Ps roots) has free i j (cautious_of v.0) (cautious_of w.0)
    (read-at Ps i v.0 v.1) (read-at Ps j w.0 w.1) off
    (wide-cautious m n known also V W (cautious_of v.0) (cautious_of w.0) (reading-cautious V v.0 v.2) (reading-cautious W w.0 w.2) apart clash)

-- What is safe anywhere is safe in a set.
wide-of : (m n : Matching) (V W : Written) → UnisonClash m n V W → UnisonWideClash m n V W
wide-of m n V W (inl c) =
    inl (c.0, c.0, c.3.0, c.3.1, c.1, c.2, below-root c.0 c.3.0 c.3.1 ∙ c.3.2, c.3.3, c.3.4)
wide-of m n V W (inr c) = inr c

pub set-safe : (Ws : List Written) → AreRootsApart (parts_read Ws) [] → IsSafeAnywhereInUnison Ws → IsSafeInUnison Ws
set-safe Ws apart safe = record {
  apart = written-apart Ws apart;
  no_clash = λ m n known also i j V W at_i at_j off clash. safe m n known also i j V W at_i at_j off (wide-of m n V W clash);
}

pub set-keeps : (Ws : List Written) (Rs : List Rule) → KeepsRulesAnywhereInUnison Ws Rs → KeepsRulesInUnison Ws Rs
set-keeps Ws Rs keeps m known i k W R at at_k b =
    keeps m known i k W R at at_k (R.root, b.0, b.1, b.1, b.2, b.3, b.4, refl, b.5, b.6, b.7)

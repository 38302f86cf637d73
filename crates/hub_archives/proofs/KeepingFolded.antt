-- What readings of folded lines don't reach, Unison doesn't reach up to folding.
use Rattle.std.proofs.Common.{◌≡◌, ◌∙◌, ◌++◌, ℕ, zero, suc, Bool, false, true, List, [], ◌∷◌, Some, None, Option, map, slice_get, unwrap_or, ap, subst, sym, refl, IsTrue, Result, Ok, Err, IfOk, MatchOption}
use Rattle.std.specs.Prelude.{if◌then◌else◌}
use Rattle.std.proofs.lemmas.Bool.{and_parts, false_from_ne_true}
use Rattle.std.specs.List.{list_all, list_any}
use Rattle.hub_path.specs.Path.{Path, is_name, is_over, path_eq}
use Rattle.hub_profile.specs.Parts.{IsProfile, Parts, has_root}
use Rattle.hub_profile.specs.declared.rule.Rule.{Rule}
use Rattle.hub_unison.specs.Cautious.{has_star, with_patterns, with_tops}
use Rattle.hub_unison.specs.Matching.{widened}
use Rattle.hub_unison.specs.ReadingOf.{cautious_of, each_kept, kept_bars, spare_stays, top_values, with_kept}
use Rattle.hub_unison.specs.Rules.{IsReadingOf}
use Rattle.hub_unison.specs.UnisonReach.{IsCautious}
use Rattle.hub_unison.specs.Written.{IsWrittenAs, Written}
use Rattle.hub_folded.specs.Fold.{Folding, fold_name, fold_path, knows}
use Rattle.hub_folded.specs.InUnison.{AreSpelled, IsNormOf, Lined, Norm, member_of, norm_path, reach_at}
use Rattle.hub_folded.specs.Lines.{folded, folded_member, folded_rules, folded_set, some_fold, spread}
use Rattle.hub_folded.specs.Read.{AreReadAsWritten, AreReadFolded, IsFoldedReading}
use Rattle.hub_folded.specs.Table.{unicode}
use Rattle.hub_folded.specs.declared.member.Member.{Member}
use Rattle.hub_archives.specs.Folded.{IsFoldedHeldBy, IsFoldedKeptOut, KeepsOutFolded, ReachesNothingFolded}
use Rattle.hub_archives.specs.KeptOut.{keeps_out}
use Rattle.hub_archives.specs.Seen.{IsHeldByAs, KeptOutBy, KeptOutOf, folds_to_name, folds_to_path, keeps_out_folded}
use Rattle.hub_archives.proofs.Keeping.{reached_at}

some_is : {X : Type 0} (v u : X) → Some v ≡ Some u → v ≡ u
some_is v u e = ap (λ o. unwrap_or o v) e

no_more : {X : Type 0} (u : X) (i : ℕ) → slice_get [] i ≡ Some u → ⊥
no_more u i e = let none : None ≡ Some u = e in cc

-- The law of hub_folded.
abbrev pub ReadingsHold : Type 0
ReadingsHold =
    (F : Folding) (Vs : List Lined) (Rs : List Rule) (Cs : List Parts) → some_fold (map member_of Vs) ≡ true
    → AreSpelled Vs
    → AreReadAsWritten (folded_set F (map member_of Vs)) (folded_rules F (map member_of Vs) Rs) Cs
    → AreReadFolded F Vs Rs Cs

-- A known path is as Unison folds it.
same_path : (N : Norm) → IsNormOf unicode N → (x : Path) → IsTrue (folds_to_path x)
    → norm_path N x ≡ fold_path unicode x
same_path N is [] known = refl
same_path N is (n ∷ x) known =
    let two = and_parts (folds_to_name n) (folds_to_path x) known in
    let own = and_parts (knows unicode n) (is_name (fold_name unicode n)) two.0 in
    (λ i. is.names n own.0 i ∷ same_path N is x two.1 i)

abbrev folding : Written → Lined
folding W = record { folds = true; written = W }

module _ (law : ReadingsHold) (W : Written) (C : Parts) (spelled : IsWrittenAs W W.parts)
    (wide : (X : Written) → IsWrittenAs X (folded unicode W.parts) → IsCautious X C) where
  spelled_alone : AreSpelled (folding W ∷ [])
  spelled_alone zero U at =
      subst (λ (V : Lined). IsWrittenAs V.written V.written.parts) (some_is (folding W) U at) spelled
  spelled_alone (suc i) U at = absurd (no_more U i at)

  one_read : (i : ℕ) (X : Written) (P : Parts) → slice_get (folded unicode W.parts ∷ []) i ≡ Some P
      → IsWrittenAs X P → (D : Parts) × (slice_get (C ∷ []) i ≡ Some D) × IsReadingOf [] X D
  one_read zero X P at is = (
    C,
    refl,
    record {
      cautious = wide X (subst (IsWrittenAs X) (sym (some_is (folded unicode W.parts) P at)) is);
      breaches = λ m by k R none. absurd (no_more R k none);
    },
  )
  one_read (suc i) X P at is = absurd (no_more P i at)

  read_alone : AreReadAsWritten (folded unicode W.parts ∷ []) [] (C ∷ [])
  read_alone Ws are = record {
    count = sym are.count;
    each = λ i X at. let one = are.each i X at in one_read i X one.0 one.1 one.2;
  }

  is_reading : (N : Norm) → IsNormOf unicode N → IsFoldedReading unicode N [] (folding W) C
  is_reading N norm =
      let one = (law unicode (folding W ∷ []) [] (C ∷ []) refl spelled_alone read_alone N norm).each 0 (folding W) refl in
      subst (IsFoldedReading unicode N [] (folding W)) (sym (some_is C one.0 one.1)) one.2

  reaches_nothing_folded : IsProfile C → (f r x : Path) → KeptOutBy true f C → IsTrue (has_root W.parts r)
      → f ≡ r ++ x → ReachesNothingFolded (folding W) x
  reaches_nothing_folded facts f r x out has e N m q norm by over =
      let reading = is_reading N norm in
      let own : IsTrue (has_root C r) = ap (list_any (λ own. path_eq own r)) reading.roots ∙ has in
      let kept = and_parts (folds_to_path x) (keeps_out C (fold_path unicode x)) (out r own x e) in
      let below : IsTrue (is_over (fold_path unicode x) (norm_path N q)) = ap (λ p. is_over p (norm_path N q)) (sym (same_path N norm x kept.0)) ∙ over in
      false_from_ne_true (reach_at N m (folding W) q)
      (λ h. reached_at C (fold_path unicode x) (norm_path N q) facts kept.1 below (reading.reach m by q h))

-- The same, whatever lines say the profile.
abbrev lined_as : Bool → Written → Lined
lined_as b W = record { folds = b; written = W }

pub keeps_out_folded_lines : ReadingsHold → (P C : Parts) (f : Path)
    → ((X : Written) → IsWrittenAs X (folded unicode P) → IsCautious X C) → IsProfile C → KeptOutBy true f C
    → KeepsOutFolded f P
keeps_out_folded_lines law P C f wide facts out V r x folding_names is has e =
    subst (λ b. ReachesNothingFolded (lined_as b V.written) x) (sym folding_names)
    (reaches_nothing_folded law V.written C (subst (IsWrittenAs V.written) (sym is.parts) is)
    (λ X own. wide X (subst (λ Q. IsWrittenAs X (folded unicode Q)) is.parts own)) facts f r x out
    (ap (λ (Q : Parts). has_root Q r) is.parts ∙ has) e)

-- The cautious reading of folded lines has the roots of the profile.
cautious_roots : (P : Parts) → (cautious_of P).roots ≡ P.roots
cautious_roots P = go (has_star P) (list_all spare_stays P.ignorenot)
  where
    go : (a b : Bool) → (if a then with_tops P (top_values P.paths) (kept_bars P.partial)
        else (if b
        then with_kept P (each_kept P.ignore (map widened P.ignorenot)) (map widened P.ignorenot) (kept_bars P.partial)
        else with_patterns P [] [] (kept_bars P.partial))).roots ≡ P.roots
    go true b = refl
    go false true = refl
    go false false = refl

member_roots : (M : Member) → (folded_member unicode M).roots ≡ M.parts.roots
member_roots M = go M.folds
  where
    go : (b : Bool) → (if b then folded unicode M.parts else spread unicode M.parts).roots ≡ M.parts.roots
    go true = refl
    go false = refl

-- What a walk over the folders finds by the cautious reading of folded lines.
same_member : (M : Member) → M.folds ≡ true → folded_member unicode M ≡ folded unicode M.parts
same_member M yes_folds = ap (λ b. if b then folded unicode M.parts else spread unicode M.parts) yes_folds

pub held_folded : {E : Type 0} → ReadingsHold → (Q C : Parts) (M : Member) (fs : List Path)
    (r : Result (Option (ℕ × Path)) E) → M.folds ≡ true → Q ≡ folded_member unicode M → C ≡ cautious_of Q
    → ((X : Written) → IsWrittenAs X Q → IsCautious X C)
    → IfOk r (λ o. MatchOption o (KeptOutOf true fs C) (λ h. IsHeldByAs true fs C h.0 h.1))
    → IfOk r (λ o. MatchOption o (IsFoldedKeptOut fs M) (λ h. IsFoldedHeldBy fs M h.0 h.1))
held_folded law Q C M fs (Ok None) folding_names same is wide kept =
    λ j f again at. keeps_out_folded_lines law M.parts C f
    (λ X own. wide X (subst (IsWrittenAs X) (sym (same ∙ same_member M folding_names)) own))
    (kept j f at).0 (kept j f at).1
held_folded law Q C M fs (Ok (Some h)) folding_names same is wide held =
    let reading : C ≡ cautious_of (folded_member unicode M) = is ∙ ap cautious_of same in
    let seen = held.2 in
    let roots : C.roots ≡ M.parts.roots = ap (λ (D : Parts). D.roots) reading ∙ (cautious_roots (folded_member unicode M) ∙ member_roots M) in (
      folding_names,
      (
        held.0,
        seen.0,
        held.1,
        ap (list_any (λ own. path_eq own seen.0)) (sym roots) ∙ seen.1,
        seen.2.0,
        ap (λ D. keeps_out_folded D h.1) (sym reading) ∙ seen.2.1,
      ),
    )
held_folded law Q C M fs (Err e) folding_names same is wide h = h

-- What the readings of the folded profiles of a set show.
use Rattle.std.proofs.Common.{◌≡◌, true, false, List, map, sym, subst}
use Rattle.hub_profile.specs.Parts.{Parts}
use Rattle.hub_profile.specs.declared.rule.Rule.{Rule}
use Rattle.hub_reach.specs.Safe as safe
use Rattle.hub_unison.specs.ReadingOf.{reading_of}
use Rattle.hub_unison.specs.Rules.{AreReadForUnison, forbidden}
use Rattle.hub_unison.specs.Shared.{ShareNoArchive}
use Rattle.hub_unison.specs.Written.{AreWrittenAs, Written}
use Rattle.hub_unison.specs.laws.Reading.{readings-read}
use Rattle.hub_folded.specs.Fold.{Folding}
use Rattle.hub_folded.specs.InUnison.{AreSpelled, IsSafeFolded, Lined, member_of, norm_of}
use Rattle.hub_folded.specs.Lines.{folded_member, folded_rules, fold_rule, some_fold}
use Rattle.hub_folded.specs.Read.{AreReadAsWritten, AreReadFolded, IsSafeWhereRead, readings_of}
use Rattle.hub_folded.specs.declared.member.Member.{Member}
use Rattle.hub_folded.proofs.NormOf.{norm-met}
use Rattle.hub_folded.proofs.Plain.{plain-rules, plain-set, rules-folded, set-folded}
use Rattle.hub_folded.proofs.Safe.{keeps-as-seen, keeps-folded, read-folded, safe-as-one, safe-at-roots, safe-folded}

module _ (F : Folding) (Ms : List Member) (Rs : List Rule) where
  readings-folded : some_fold Ms ≡ true
      → readings_of F Ms Rs ≡ map (reading_of (map (fold_rule F) Rs)) (map (folded_member F) Ms)
  readings-folded e = λ i. map (reading_of (rules-folded F Ms Rs e i)) (set-folded F Ms e i)

  readings-plain : some_fold Ms ≡ false
      → readings_of F Ms Rs ≡ map (reading_of Rs) (map (λ M. M.parts) Ms)
  readings-plain e = λ i. map (reading_of (plain-rules F Ms Rs e i)) (plain-set F Ms e i)

  pub holds-plain : (Ws : List Written) → some_fold Ms ≡ false
      → AreWrittenAs Ws (map (λ M. M.parts) Ms) → AreReadForUnison Ws Rs (readings_of F Ms Rs)
  holds-plain Ws none written =
      subst (AreReadForUnison Ws Rs) (sym (readings-plain none))
      (readings-read Ws (map (λ M. M.parts) Ms) Rs written)

pub holds-folded : (F : Folding) (Vs : List Lined) (Rs : List Rule)
    → some_fold (map member_of Vs) ≡ true → AreSpelled Vs
    → AreReadFolded F Vs Rs (readings_of F (map member_of Vs) Rs)
holds-folded F Vs Rs some by =
    read-folded F Vs Rs (readings_of F (map member_of Vs) Rs) by
    (subst (AreReadAsWritten (map (folded_member F) (map member_of Vs)) (map (fold_rule F) Rs))
    (sym (readings-folded F (map member_of Vs) Rs some))
    (λ Ws written.
    readings-read Ws (map (folded_member F) (map member_of Vs)) (map (fold_rule F) Rs) written))

-- What is safe by them.
module _ (F : Folding) (Vs : List Lined) (Rs : List Rule) (some : some_fold (map member_of Vs) ≡ true)
    (by : AreSpelled Vs) where
  abbrev Cs : List Parts
  Cs = readings_of F (map member_of Vs) Rs

  read : AreReadFolded F Vs Rs Cs
  read = holds-folded F Vs Rs some by

  as-folded : safe.IsSafe Cs (map forbidden (folded_rules F (map member_of Vs) Rs))
      → safe.IsSafe Cs (map forbidden (map (fold_rule F) Rs))
  as-folded =
      subst (λ Ss. safe.IsSafe Cs (map forbidden Ss)) (rules-folded F (map member_of Vs) Rs some)

  clashes : safe.IsSafe Cs (map forbidden (folded_rules F (map member_of Vs) Rs)) → ShareNoArchive Cs
      → IsSafeFolded F Vs
  clashes is archives =
      safe-folded F Vs Rs Cs read (norm_of F) (norm-met F) (as-folded is) archives

  pub safe-anywhere : IsSafeWhereRead F Vs Rs Cs (folded_rules F (map member_of Vs) Rs)
  safe-anywhere = record {
    kept = λ is. keeps-folded F Vs Rs Cs read (as-folded is);
    seen = λ textual knows is.
        keeps-as-seen F Vs Rs textual knows (keeps-folded F Vs Rs Cs read (as-folded is));
    clashes = clashes;
    one = λ is archives. safe-as-one F Vs (clashes is archives);
    roots = λ apart is archives. safe-at-roots F Vs apart (clashes is archives);
  }

-- Folded readings hold for Unison, and what is safe by them is safe as it is seen.
use Rattle.std.proofs.Common.{◌≡◌, ℕ, zero, suc, inl, inr, Bool, true, false, List, [], ◌∷◌, ◌++◌, map, refl, sym, ap, ◌∙◌, subst, Some}
use Rattle.std.specs.Prelude.{IsTrue, slice_get, option_map, if◌then◌else◌}
use Rattle.std.specs.List.{list_all, list_any, flat_map}
use Rattle.std.proofs.lemmas.Bool.{and_parts}
use Rattle.std.proofs.lemmas.List.{length-map}
use Rattle.std.proofs.lemmas.Option.{none-some, same_Some, slice_get-map}
use Rattle.hub_path.specs.Path.{Path, path_eq, is_over, is_path}
use Rattle.hub_path.specs.laws.General.{is_over-reflexive}
use Rattle.hub_glob.specs.Glob.{matches}
use Rattle.hub_glob.specs.Specification.{Specification}
use Rattle.hub_profile.specs.Parts.{Parts, has_root}
use Rattle.hub_profile.specs.declared.rule.Rule.{Rule}
use Rattle.hub_reach.specs.Safe as safe
use Rattle.hub_unison.specs.Matching.{Matching, IsMatching}
use Rattle.hub_unison.specs.Rules.{IsReadingOf, KeepsRulesInUnison, UnisonBreach, forbidden}
use Rattle.hub_unison.specs.Shared.{ShareNoArchive}
use Rattle.hub_unison.specs.UnisonReach.{IsSafeInUnison, UnisonClash, written_roots}
use Rattle.hub_unison.specs.Written.{AreWrittenAs, IsWrittenAs, Written}
use Rattle.hub_unison.specs.laws.Cautious.{roots-read}
use Rattle.hub_folded.specs.Fold.{Folding, IsTextual, fold_path, knows_path}
use Rattle.hub_folded.specs.Lines.{fold_spec, folded_member, fold_rule, is_foldable, know_rules, knows_rule, knows_spec}
use Rattle.hub_folded.specs.InUnison.{AreSpelled, FoldedBreach, FoldedClash, IsNormOf, IsSafeFolded, KeepsRulesFolded, Lined, Norm, member_of, norm_path}
use Rattle.hub_folded.specs.Read.{AreReadAsWritten, AreReadFolded, IsFoldedReading}
use Rattle.hub_folded.specs.Seen.{AreRootsApart, ClashAsOne, IsSafeAsOne, IsSafeAtRoots, KeepsRulesAsSeen}
use Rattle.hub_folded.proofs.Paths.{all-at, known-path, one-over}
use Rattle.hub_folded.proofs.Patterns.{matches-fold}
use Rattle.hub_folded.proofs.Spelled.{folded_written, lined-as, lined_written, spread_written}
use Rattle.hub_folded.proofs.Folded.{lined-may, lined-reach, lined-write}

-- Lists of which each item of one is made of one of another.
placed : {A B : Type 0} (f : A → B) (xs : List A) (i : ℕ) (x : A) → slice_get xs i ≡ Some x
    → slice_get (map f xs) i ≡ Some (f x)
placed f xs i x at = slice_get-map f xs i ∙ ap (option_map f) at

source : {A B : Type 0} (f : A → B) (xs : List A) (i : ℕ) (y : B) → slice_get (map f xs) i ≡ Some y
    → (x : A) × (slice_get xs i ≡ Some x) × (y ≡ f x)
source f [] i y at = absurd (none-some y at)
source f (x ∷ xs) zero y at = (x, refl, same_Some y (f x) (sym at))
source f (x ∷ xs) (suc i) y at = source f xs i y at

-- A folded profile keeps its name and its roots.
same-name : (F : Folding) (N : Norm) (V : Lined)
    → (lined_written F N V).parts.name ≡ V.written.parts.name
same-name F N V = go V.folds
  where
    go : (b : Bool)
        → (if b then folded_written F N V.written else spread_written F V.written).parts.name
        ≡ V.written.parts.name
    go true = refl
    go false = refl

same-roots : (F : Folding) (N : Norm) (V : Lined)
    → (lined_written F N V).parts.roots ≡ V.written.parts.roots
same-roots F N V = go V.folds
  where
    go : (b : Bool)
        → (if b then folded_written F N V.written else spread_written F V.written).parts.roots
        ≡ V.written.parts.roots
    go true = refl
    go false = refl

-- The folded lines spell the folded set, so readings of this hold for them, and so for the
-- profiles.
module _ (F : Folding) (N : Norm) (is : IsNormOf F N) where
  lined-written : (Vs : List Lined) → AreSpelled Vs
      → AreWrittenAs (map (lined_written F N) Vs) (map (λ V. folded_member F (member_of V)) Vs)
  lined-written Vs by = record {
    count = length-map Vs (lined_written F N)
        ∙ sym (length-map Vs (λ V. folded_member F (member_of V)));
    each = λ i W at.
        let own = source (lined_written F N) Vs i W at in (
          folded_member F (member_of own.0),
          placed (λ V. folded_member F (member_of V)) Vs i own.0 own.1,
          subst (λ X. IsWrittenAs X (folded_member F (member_of own.0))) (sym own.2)
              (lined-as F N is own.0 (by i own.0 own.1)),
        );
  }

  breach-lined : (m : Matching) (R : Rule) (V : Lined) → IsWrittenAs V.written V.written.parts
      → FoldedBreach F N m V R → UnisonBreach m (lined_written F N V) (fold_rule F R)
  breach-lined m R V by b = (
    norm_path N b.0,
    norm_path N b.1,
    subst (λ (rs : List Path). IsTrue (list_any (λ own. path_eq own R.root) rs))
        (sym (same-roots F N V)) b.2,
    (and_parts (is_path b.1) (is_path (norm_path N b.1)) b.3).1,
    b.4,
    lined-reach F N is m V b.0 b.5,
    lined-may F N is m V by R.root b.0 R.verb b.6,
    b.7,
  )

  clash-lined : (m n : Matching) (V W : Lined) → IsWrittenAs V.written V.written.parts
      → FoldedClash N m n V W → UnisonClash m n (lined_written F N V) (lined_written F N W)
  clash-lined m n V W by (inl at) =
      inl (
        at.0,
        subst (λ (rs : List Path). IsTrue (list_any (λ own. path_eq own at.0) rs))
            (sym (same-roots F N V)) at.1,
        subst (λ (rs : List Path). IsTrue (list_any (λ own. path_eq own at.0) rs))
            (sym (same-roots F N W)) at.2,
        (
          norm_path N at.3.0,
          norm_path N at.3.1,
          at.3.2,
          lined-write F N is m V by at.0 at.3.0 at.3.3,
          lined-reach F N is n W at.3.1 at.3.4,
        ),
      )
  clash-lined m n V W by (inr both) =
      inr (subst (λ (rs : List Path). list_all (λ r. list_any (λ s. path_eq s r) (lined_written F N W).parts.roots) rs ≡ true)
      (sym (same-roots F N V))
      (subst (λ (rs : List Path). list_all (λ r. list_any (λ s. path_eq s r) rs) V.written.parts.roots ≡ true)
      (sym (same-roots F N W)) both))

  lined-roots : (Vs : List Lined)
      → written_roots (map (λ V. V.written) Vs) ≡ written_roots (map (lined_written F N) Vs)
  lined-roots [] = refl
  lined-roots (V ∷ Vs) =
      ap (λ (rs : List Path). rs ++ written_roots (map (λ V. V.written) Vs)) (sym (same-roots F N V))
      ∙ ap (λ (rest : List Path). (lined_written F N V).parts.roots ++ rest) (lined-roots Vs)

  reading : (Rs : List Rule) (V : Lined) (C : Parts) → IsWrittenAs V.written V.written.parts
      → IsReadingOf (map (fold_rule F) Rs) (lined_written F N V) C → IsFoldedReading F N Rs V C
  reading Rs V C by read = record {
    name = read.cautious.name ∙ same-name F N V;
    roots = read.cautious.roots ∙ same-roots F N V;
    reach = λ m known p h. read.cautious.reach m known (norm_path N p) (lined-reach F N is m V p h);
    write = λ m known r p h.
        read.cautious.write m known r (norm_path N p) (lined-write F N is m V by r p h);
    breaches = λ m known k R at b.
        read.breaches m known k (fold_rule F R) (placed (fold_rule F) Rs k R at)
        (breach-lined m R V by b);
  }

members : (F : Folding) (Vs : List Lined)
    → map (folded_member F) (map member_of Vs) ≡ map (λ V. folded_member F (member_of V)) Vs
members F [] = refl
members F (V ∷ Vs) = ap (λ Ps. folded_member F (member_of V) ∷ Ps) (members F Vs)

pub read-folded : (F : Folding) (Vs : List Lined) (Rs : List Rule) (Cs : List Parts) → AreSpelled Vs
    → AreReadAsWritten (map (folded_member F) (map member_of Vs)) (map (fold_rule F) Rs) Cs
    → AreReadFolded F Vs Rs Cs
read-folded F Vs Rs Cs by read N is =
    let all = read (map (lined_written F N) Vs)
    (subst (AreWrittenAs (map (lined_written F N) Vs)) (sym (members F Vs))
    (lined-written F N is Vs by)) in
    record {
      count = all.count ∙ length-map Vs (lined_written F N);
      each = λ i V at.
          let own = all.each i (lined_written F N V) (placed (lined_written F N) Vs i V at) in
          (own.0, own.1, reading F N is Rs V own.0 (by i V at) own.2);
    }

-- What is safe by the readings is safe.
at-left : (xs ys : List Path) (i : ℕ) (x : Path) → slice_get xs i ≡ Some x
    → slice_get (xs ++ ys) i ≡ Some x
at-left [] ys i x at = absurd (none-some x at)
at-left (y ∷ xs) ys zero x at = at
at-left (y ∷ xs) ys (suc i) x at = at-left xs ys i x at

module _ (F : Folding) (N : Norm) (Rs : List Rule) where
  has : (V : Lined) (C : Parts) → IsFoldedReading F N Rs V C → (r : Path)
      → IsTrue (has_root V.written.parts r) → IsTrue (has_root C r)
  has V C read r =
      subst (λ (rs : List Path). IsTrue (list_any (λ own. path_eq own r) rs)) (sym read.roots)

  clash-read : (m n : Matching) → IsMatching m → IsMatching n → (V W : Lined) (C D : Parts)
      → IsFoldedReading F N Rs V C → IsFoldedReading F N Rs W D
      → safe.share_archive C D ≡ false → FoldedClash N m n V W → safe.Clash C D
  clash-read m n known also V W C D first second apart (inl at) =
      inl (
        at.0,
        has V C first at.0 at.1,
        has W D second at.0 at.2,
        (
          norm_path N at.3.0,
          norm_path N at.3.1,
          at.3.2,
          first.write m known at.0 at.3.0 at.3.3,
          second.reach n also at.3.1 at.3.4,
        ),
      )
  clash-read m n known also V W C D first second apart (inr both) =
      let shared : safe.share_archive C D ≡ true =
      subst (λ (rs : List Path). list_all (has_root D) rs ≡ true) (sym first.roots)
      (subst (λ (rs : List Path). list_all (λ r. list_any (λ s. path_eq s r) rs) V.written.parts.roots ≡ true)
      (sym second.roots) both) in
      let never : false ≡ true = sym apart ∙ shared in cc

pub safe-folded : (F : Folding) (Vs : List Lined) (Rs : List Rule) (Cs : List Parts)
    → AreReadFolded F Vs Rs Cs → (N : Norm) → IsNormOf F N
    → safe.IsSafe Cs (map forbidden (map (fold_rule F) Rs)) → ShareNoArchive Cs → IsSafeFolded F Vs
safe-folded F Vs Rs Cs read K met is archives = record {
  apart = λ i j r s at_i at_j over. is.apart i j r s (root-at i r at_i) (root-at j s at_j) over;
  no_clash = λ N known m n by also i j V W at_i at_j other clash.
      let c = (read N known).each i V at_i in
      let d = (read N known).each j W at_j in
      is.no_clash i j c.0 d.0 c.1 d.1 other
      (clash-read F N Rs m n by also V W c.0 d.0 c.2 d.2 (archives i j c.0 d.0 c.1 d.1 other) clash);
}
  where
    roots : written_roots (map (λ V. V.written) Vs) ≡ flat_map (λ C. C.roots) Cs
    roots =
        roots-read (map (λ V. V.written) Vs) Cs
        ((read K met).count ∙ sym (length-map Vs (λ V. V.written)))
        (λ i W at.
        let own = source (λ (V : Lined). V.written) Vs i W at in
        let c = (read K met).each i own.0 own.1 in
        (c.0, c.1, c.2.roots ∙ ap (λ (X : Written). X.parts.roots) (sym own.2)))

    root-at : (i : ℕ) (r : Path) → slice_get (written_roots (map (λ V. V.written) Vs)) i ≡ Some r
        → slice_get (safe.all_roots Cs (map forbidden (map (fold_rule F) Rs))) i ≡ Some r
    root-at i r at =
        at-left (flat_map (λ C. C.roots) Cs) (map (λ R. R.root) (map forbidden (map (fold_rule F) Rs)))
        i r (sym (ap (λ rs. slice_get rs i) roots) ∙ at)

pub keeps-folded : (F : Folding) (Vs : List Lined) (Rs : List Rule) (Cs : List Parts)
    → AreReadFolded F Vs Rs Cs → safe.IsSafe Cs (map forbidden (map (fold_rule F) Rs))
    → KeepsRulesFolded F Vs Rs
keeps-folded F Vs Rs Cs read is N known m by i k V R at own breach =
    let c = (read N known).each i V at in
    is.no_breach i k c.0 (forbidden (fold_rule F R)) c.1
    (placed forbidden (map (fold_rule F) Rs) k (fold_rule F R) (placed (fold_rule F) Rs k R own))
    (c.2.breaches m by k R own breach)

-- Names that are one fold to one, and a rule's pattern holds for each spelling that it matches.
pub safe-as-one : (F : Folding) (Vs : List Lined) → IsSafeFolded F Vs → IsSafeAsOne F Vs
safe-as-one F Vs is one N known same m n by also i j V W at_i at_j other clash =
    is.no_clash N known m n by also i j V W at_i at_j other (up clash)
  where
    up : ClashAsOne one N m n V W → FoldedClash N m n V W
    up (inl at) = inl (
      at.0,
      at.1,
      at.2,
      (at.3.0, at.3.1, one-over one N same at.3.0 at.3.1 at.3.2, at.3.3, at.3.4),
    )
    up (inr both) = inr both

pub each-spelling : (F : Folding) (N : Norm) (s : Specification) (q : Path) → IsTextual F → IsNormOf F N
    → is_foldable s ≡ true → knows_path F q ≡ true → matches s q ≡ true
    → matches (fold_spec F s) (norm_path N q) ≡ true
each-spelling F N s q textual is foldable knows h =
    ap (matches (fold_spec F s)) (known-path F N is q knows)
    ∙ matches-fold F textual s q foldable knows h

pub keeps-as-seen : (F : Folding) (Vs : List Lined) (Rs : List Rule) → IsTextual F
    → know_rules F Rs ≡ true → KeepsRulesFolded F Vs Rs → KeepsRulesAsSeen F Vs Rs
keeps-as-seen F Vs Rs textual knows keeps N is m known i k V R at own b =
    let parts = and_parts (knows_spec F R.spec) (is_foldable R.spec)
    (all-at (knows_rule F) Rs k R knows own) in
    keeps N is m known i k V R at own
    (b.0, b.1, b.2, b.3, b.4, b.5, b.6, each-spelling F N R.spec b.1 textual is parts.1 b.7 b.8)

-- Roots that are apart up to folding are the same where they are one up to what Unison folds by.
pub safe-at-roots : (F : Folding) (Vs : List Lined) → AreRootsApart F Vs → IsSafeFolded F Vs
    → IsSafeAtRoots F Vs
safe-at-roots F Vs roots is N known m n by also i j V W at_i at_j off clash =
    is.no_clash N known m n by also i j V W at_i at_j off
    (inl (
      clash.0,
      clash.2,
      subst (λ r. IsTrue (has_root W.written.parts r)) (sym same) clash.3,
      clash.5,
    ))
  where
    folds : fold_path F clash.0 ≡ fold_path F clash.1
    folds =
        sym (known-path F N known clash.0 (roots.known i V clash.0 at_i clash.2))
        ∙ (clash.4 ∙ known-path F N known clash.1 (roots.known j W clash.1 at_j clash.3))

    same : clash.0 ≡ clash.1
    same =
        roots.apart i j V W clash.0 clash.1 at_i at_j clash.2 clash.3
        (subst (λ t. IsTrue (is_over (fold_path F clash.0) t)) folds
        (is_over-reflexive (fold_path F clash.0)))

-- What is safe in Unison when it is folded.
module _ (F : Folding) (Vs : List Lined) (by : AreSpelled Vs) where
  abbrev AsWritten : (List Written → Type 0) → Type 0
  AsWritten P =
      (Ws : List Written) → AreWrittenAs Ws (map (folded_member F) (map member_of Vs)) → P Ws

  lined : (P : List Written → Type 0) → AsWritten P → (N : Norm) → IsNormOf F N
      → P (map (lined_written F N) Vs)
  lined P all N is =
      all (map (lined_written F N) Vs)
      (subst (AreWrittenAs (map (lined_written F N) Vs)) (sym (members F Vs))
      (lined-written F N is Vs by))

  pub safe-together : AsWritten IsSafeInUnison → (K : Norm) → IsNormOf F K → IsSafeFolded F Vs
  safe-together all K met = record {
    apart = λ i j r s at_i at_j over.
        (lined IsSafeInUnison all K met).apart i j r s (root-at i r at_i) (root-at j s at_j) over;
    no_clash = λ N is m n known also i j V W at_i at_j other clash.
        (lined IsSafeInUnison all N is).no_clash m n known also i j (lined_written F N V)
        (lined_written F N W) (placed (lined_written F N) Vs i V at_i)
        (placed (lined_written F N) Vs j W at_j) other
        (clash-lined F N is m n V W (by i V at_i) clash);
  }
    where
      root-at : (i : ℕ) (r : Path)
          → slice_get (written_roots (map (λ V. V.written) Vs)) i ≡ Some r
          → slice_get (written_roots (map (lined_written F K) Vs)) i ≡ Some r
      root-at i r at = sym (ap (λ rs. slice_get rs i) (lined-roots F K met Vs)) ∙ at

  pub keeps-together : (Rs : List Rule)
      → AsWritten (λ Ws. KeepsRulesInUnison Ws (map (fold_rule F) Rs)) → KeepsRulesFolded F Vs Rs
  keeps-together Rs all N is m known i k V R at own breach =
      lined (λ Ws. KeepsRulesInUnison Ws (map (fold_rule F) Rs)) all N is m known i k
      (lined_written F N V) (fold_rule F R) (placed (lined_written F N) Vs i V at)
      (placed (fold_rule F) Rs k R own) (breach-lined F N is m R V (by i V at) breach)

-- Profiles share a place exactly when the numbers of their roots say so.
use Rattle.std.proofs.Common.{◌≡◌, ◌≢◌, ◌∙◌, ◌⊎◌, ⊎_elim, ℕ, ◌+◌, ◌<◌, ◌==◌, Bool, true, false, ◌&&◌, ◌||◌, List, [], ◌∷◌, ◌++◌, length, get_or, refl, sym, ap, subst, arith, if◌then◌else◌}
use Rattle.std.specs.Prelude.{Some, None, slice_get, nat_lt}
use Rattle.std.specs.List.{IsDistinct, list_all, list_any}
use Rattle.std.specs.Cmp.{both_ways}
use Rattle.std.proofs.lemmas.Bool.{and_parts, false≢true}
use Rattle.std.proofs.lemmas.Bool.Decides.{nat_tests}
use Rattle.std.proofs.lemmas.Map.Keys.{apart_from_distinct}
use Rattle.std.proofs.lemmas.Option.{get_or_from_slice_get, none-some, same_Some, slice_get_within}
use Rattle.hub_text.specs.laws.List.{has-item, less-or-same, snoc-new, snoc-old}
use Rattle.std.proofs.lemmas.List.{length_push}
use Rattle.hub_path.specs.Path.{Path, path_eq}
use Rattle.hub_path.specs.laws.General.{path_eq-decides}
use Rattle.hub_path.specs.declared.side.Side.TheVariants.{Left, Right}
use Rattle.hub_profile.specs.Facts.{are_roots}
use Rattle.hub_profile.specs.Parts.{IsProfile, Parts, at_side, has_root, some_passes}
use Rattle.hub_reach.specs.Numbering.{IsEachOnce}
use Rattle.hub_reach.specs.Reach.{writes}
use Rattle.indexmap.specs.IndexSet.{insert_key}
use Rattle.hub_cert.specs.Aim.{is_open_aim, shares}
use Rattle.hub_cert.specs.Goals.{clashing, is_goal}
use Rattle.hub_cert.specs.Places.{AreNumbered, AreNumbersOf, HasNumbersAt, KeepPlaces, has_number, shares_by}
use Rattle.hub_cert.specs.Set.{Members}
use Rattle.hub_cert.specs.declared.goal.Goal.TheVariants.{Clash}
use Rattle.hub_cert.specs.declared.goal.Place.{Place}
use Rattle.hub_cert.specs.declared.goal.Place.TheVariants.{Replica, Archive}
use Rattle.hub_cert.specs.declared.set.places.RootNumbers.{RootNumbers}

-- Numbers are equal exactly when the roots are.
number-same : (m n : ℕ) → (m == n) ≡ true → m ≡ n
number-same m n h = grind (arith, nat_tests)

same-number : (m n : ℕ) → m ≡ n → (m == n) ≡ true
same-number m n e = grind (arith, nat_tests)

numbers-tell : (rs : List Path) (m n : ℕ) (r s : Path) → IsEachOnce rs → slice_get rs m ≡ Some r → slice_get rs n ≡ Some s → (m == n) ≡ path_eq r s
numbers-tell rs m n r s once at_m at_n =
    both_ways (m == n) (path_eq r s)
    (λ e. (path_eq-decides r s).1 (same_Some r s (sym at_m ∙ (ap (slice_get rs) (number-same m n e) ∙ at_n))))
    (λ e. same-number m n (once m n r at_m (at_n ∙ ap Some (sym ((path_eq-decides r s).0 e)))))

or-false : (b : Bool) → (b || false) ≡ b
or-false true = refl
or-false false = refl

and-true : (b : Bool) → (b && true) ≡ b
and-true true = refl
and-true false = refl

has-number : (rs : List Path) (Q : Parts) (o : RootNumbers) (m : ℕ) (r : Path) → IsEachOnce rs → AreNumbersOf rs Q o → slice_get rs m ≡ Some r
    → has_number o m ≡ has_root Q r
has-number rs Q o m r once of at =
    ap (λ b. b || o.right == m) (numbers-tell rs o.left m of.left r once of.at_left at)
    ∙ (ap (λ b. path_eq of.left r || b) (numbers-tell rs o.right m of.right r once of.at_right at ∙ sym (or-false (path_eq of.right r)))
    ∙ sym (ap (λ (own : List Path). list_any (λ s. path_eq s r) own) of.roots))

share-numbers : (rs : List Path) (W Q : Parts) (w o : RootNumbers) (place : Place) → IsEachOnce rs → AreNumbersOf rs W w → AreNumbersOf rs Q o
    → shares_by w o place ≡ shares W Q place
share-numbers rs W Q w o (Replica Left) once of other =
    ap (λ b. b && has_number o w.left) of.writes_left
    ∙ (ap (λ b. writes W of.left && b) (has-number rs Q o w.left of.left once other of.at_left)
    ∙ sym (ap (λ (own : List Path). some_passes (λ r. writes W r && has_root Q r) (at_side own Left)) of.roots))
share-numbers rs W Q w o (Replica Right) once of other =
    ap (λ b. b && has_number o w.right) of.writes_right
    ∙ (ap (λ b. writes W of.right && b) (has-number rs Q o w.right of.right once other of.at_right)
    ∙ sym (ap (λ (own : List Path). some_passes (λ r. writes W r && has_root Q r) (at_side own Right)) of.roots))
share-numbers rs W Q w o Archive once of other =
    ap (λ b. b && has_number o w.right) (has-number rs Q o w.left of.left once other of.at_left)
    ∙ (ap (λ b. has_root Q of.left && b) (has-number rs Q o w.right of.right once other of.at_right ∙ sym (and-true (has_root Q of.right)))
    ∙ sym (ap (λ (own : List Path). list_all (has_root Q) own) of.roots))

-- A clash is a goal exactly when the numbers say so.
pub shared-by : (S : Members) (ns : List RootNumbers) (w o : ℕ) (a b : RootNumbers) (place : Place) → AreNumbered S.profiles ns → w ≢ o
    → slice_get ns w ≡ Some a → slice_get ns o ≡ Some b → shares_by a b place ≡ is_goal S (Clash w o place)
shared-by S ns w o a b place are other at_w at_o =
    let within_w : w < length S.profiles = omega (arith, slice_get_within ns w a at_w, are.many) in
    let within_o : o < length S.profiles = omega (arith, slice_get_within ns o b at_o, are.many) in
    let W = has-item S.profiles w within_w in
    let Q = has-item S.profiles o within_o in
    let first : HasNumbersAt are.roots ns w W.0 = are.each w W.0 W.1 in
    let second : HasNumbersAt are.roots ns o Q.0 = are.each o Q.0 Q.1 in
    let of : AreNumbersOf are.roots W.0 a = subst (AreNumbersOf are.roots W.0) (same_Some first.0 a (sym first.1 ∙ at_w)) first.2 in
    let with : AreNumbersOf are.roots Q.0 b = subst (AreNumbersOf are.roots Q.0) (same_Some second.0 b (sym second.1 ∙ at_o)) second.2 in
    let differ : (w == o) ≡ false = grind (arith, nat_tests) in
    share-numbers are.roots W.0 Q.0 a b place are.once of with
    ∙ (sym (ap (λ x. some_passes is_open_aim (clashing place x (Some Q.0))) W.1)
    ∙ (sym (ap (λ y. some_passes is_open_aim (clashing place (slice_get S.profiles w) y)) Q.1)
    ∙ sym (ap (λ c. some_passes is_open_aim (if c then None else clashing place (slice_get S.profiles w) (slice_get S.profiles o))) differ)))

-- What one more root makes of a list of roots.
pub kept-places : (old new : List Path) (r : Path) → new ≡ insert_key path_eq old r → KeepPlaces old new
kept-places old new r e n s at = ap (λ (rs : List Path). slice_get rs n) e ∙ go (list_any (path_eq r) old) refl
  where
    go : (b : Bool) → list_any (path_eq r) old ≡ b → slice_get (if b then old else old ++ r ∷ []) n ≡ Some s
    go true e = at
    go false e = snoc-old old r s n at

never-before : (rs : List Path) (m n : ℕ) (r : Path) → IsDistinct path_eq rs → m < n → slice_get rs m ≡ Some r → slice_get rs n ≡ Some r → ⊥
never-before rs m n r distinct l at_m at_n =
    let apart = apart_from_distinct path_eq rs m n r distinct l (slice_get_within rs n r at_n) in
    false≢true (sym apart ∙ (path_eq-decides (get_or rs m r) (get_or rs n r)).1 (get_or_from_slice_get rs m r r at_m ∙ sym (get_or_from_slice_get rs n r r at_n)))

pub are-once : (rs : List Path) → IsDistinct path_eq rs → IsEachOnce rs
are-once rs distinct m n r at_m at_n = go (nat_lt m n) refl (nat_lt n m) refl
  where
    go : (b : Bool) → nat_lt m n ≡ b → (c : Bool) → nat_lt n m ≡ c → m ≡ n
    go true e c f = absurd (never-before rs m n r distinct (grind (arith, nat_tests, e)) at_m at_n)
    go false e true f = absurd (never-before rs n m r distinct (grind (arith, nat_tests, f)) at_n at_m)
    go false e false f = grind (arith, nat_tests, e, f)

pub stored-at : (rs : List Path) (n : ℕ) (r : Path) → (k : Path) × (slice_get rs n ≡ Some k) × (path_eq r k ≡ true) → slice_get rs n ≡ Some r
stored-at rs n r w = w.1 ∙ ap Some (sym ((path_eq-decides r w.0).0 w.2))

-- The roots of a profile, and their numbers.
two-roots : (rs : List Path) (l r : Path) → are_roots rs ≡ true → slice_get rs 0 ≡ Some l → slice_get rs 1 ≡ Some r → rs ≡ l ∷ r ∷ []
two-roots [] l r valid at_l at_r = cc
two-roots (a ∷ []) l r valid at_l at_r = cc
two-roots (a ∷ b ∷ []) l r valid at_l at_r = (λ i. same_Some a l at_l i ∷ same_Some b r at_r i ∷ [])
two-roots (a ∷ b ∷ c ∷ rs) l r valid at_l at_r =
    let two = number-same (length (a ∷ b ∷ c ∷ rs)) 2 (and_parts _ _ (and_parts _ _ valid).0).0 in
    absurd (omega (arith, two))

pub are-numbers : (rs qs : List Path) (P : Parts) (n : RootNumbers) (l r : Path) → IsProfile P → at_side P.roots Left ≡ Some l → at_side P.roots Right ≡ Some r
    → slice_get rs n.left ≡ Some l → KeepPlaces rs qs → slice_get qs n.right ≡ Some r → n.writes_left ≡ writes P l → n.writes_right ≡ writes P r → AreNumbersOf qs P n
are-numbers rs qs P n l r valid first second at_l keep at_r writes_l writes_r = record {
  left = l;
  right = r;
  roots = two-roots P.roots l r valid.roots first second;
  at_left = keep n.left l at_l;
  at_right = at_r;
  writes_left = writes_l;
  writes_right = writes_r;
}

pub both-kept : (one two three : List Path) → KeepPlaces one two → KeepPlaces two three → KeepPlaces one three
both-kept one two three first second n r at = second n r (first n r at)

-- The first profiles are numbered.
pub record IsNumbering (rs : List Path) (Ps : List Parts) (ns : List RootNumbers) (k : ℕ) : Type 0 where
  pub once : IsEachOnce rs
  pub many : length ns ≡ k
  pub each : (i : ℕ) (P : Parts) → i < k → slice_get Ps i ≡ Some P → HasNumbersAt rs ns i P

pub numbering-none : (rs : List Path) (Ps : List Parts) (ns : List RootNumbers) → rs ≡ [] → ns ≡ [] → IsNumbering rs Ps ns 0
numbering-none rs Ps ns none empty = record {
  once = λ m n r at_m at_n. absurd (none-some r (sym (ap (λ (qs : List Path). slice_get qs m) none) ∙ at_m));
  many = ap length empty;
  each = λ i P l at. absurd (omega (arith, l));
}

moved : (rs qs : List Path) (P : Parts) (n : RootNumbers) → KeepPlaces rs qs → AreNumbersOf rs P n → AreNumbersOf qs P n
moved rs qs P n keep of = record {
  left = of.left;
  right = of.right;
  roots = of.roots;
  at_left = keep n.left of.left of.at_left;
  at_right = keep n.right of.right of.at_right;
  writes_left = of.writes_left;
  writes_right = of.writes_right;
}

pub numbering-more : (rs qs : List Path) (Ps : List Parts) (ns more : List RootNumbers) (k : ℕ) (P : Parts) (n : RootNumbers) → IsNumbering rs Ps ns k
    → slice_get Ps k ≡ Some P → KeepPlaces rs qs → IsEachOnce qs → AreNumbersOf qs P n → more ≡ ns ++ n ∷ [] → IsNumbering qs Ps more (k + 1)
numbering-more rs qs Ps ns more k P n are at keep once of e = record {
  once = once;
  many = ap length e ∙ (length_push ns n ∙ ap (λ m. m + 1) are.many);
  each = λ i Q l at_i. ⊎_elim (λ before. old i Q before at_i) (λ last. new i Q last at_i) (less-or-same i k l);
}
  where
    old : (i : ℕ) (Q : Parts) → i < k → slice_get Ps i ≡ Some Q → HasNumbersAt qs more i Q
    old i Q before at_i =
        let own : HasNumbersAt rs ns i Q = are.each i Q before at_i in
        (own.0, ap (λ (ms : List RootNumbers). slice_get ms i) e ∙ snoc-old ns n own.0 i own.1, moved rs qs Q own.0 keep own.2)

    new : (i : ℕ) (Q : Parts) → i ≡ k → slice_get Ps i ≡ Some Q → HasNumbersAt qs more i Q
    new i Q last at_i =
        let same : P ≡ Q = same_Some P Q (sym at ∙ (ap (slice_get Ps) (sym last) ∙ at_i)) in
        (n, ap (λ (ms : List RootNumbers). slice_get ms i) e ∙ (ap (slice_get (ns ++ n ∷ [])) (last ∙ sym are.many) ∙ snoc-new ns n), subst (λ (R : Parts). AreNumbersOf qs R n) same of)

pub numbering-all : (rs : List Path) (Ps : List Parts) (ns : List RootNumbers) (k : ℕ) → IsNumbering rs Ps ns k → k ≡ length Ps → AreNumbered Ps ns
numbering-all rs Ps ns k are e = record {
  roots = rs;
  once = are.once;
  many = are.many ∙ e;
  each = λ i P at. are.each i P (omega (arith, slice_get_within Ps i P at, e)) at;
}

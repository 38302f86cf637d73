-- What the tests of a set tell of its profiles and rules.
use Rattle.std.proofs.Common.{◌≡◌, ◌∙◌, ℕ, zero, suc, ◌+◌, ◌<◌, ◌≤◌, Bool, true, false, not, ◌&&◌, ◌||◌, List, [], ◌∷◌, ◌++◌, map, length, take, get_or, Some, refl, sym, ap, subst, arith, append_assoc, append-nil}
use Rattle.std.specs.Prelude.{slice_get, nat_lt}
use Rattle.std.specs.List.{flat_map}
use Rattle.std.proofs.lemmas.Bool.{or_left, or_right}
use Rattle.std.proofs.lemmas.Bool.Decides.{nat_tests}
use Rattle.std.proofs.lemmas.List.{take_more}
use Rattle.std.proofs.lemmas.List.Concat.{flat_map-append}
use Rattle.std.proofs.lemmas.Option.{same_Some, slice_get_read, slice_get_within}
use Rattle.hub_path.specs.laws.General.{path_eq-decides}
use Rattle.hub_path.specs.Path.{Path, path_eq, is_over}
use Rattle.hub_automaton.specs.Alphabet.{IsAlphabet, mentions, spec_characters}
use Rattle.hub_profile.specs.Parts.{Parts}
use Rattle.hub_reach.specs.Mention.{mentioned_by}
use Rattle.hub_automaton.specs.laws.AddedInTurn.{parts-mentioned}
use Rattle.hub_reach.specs.laws.Mention.{says-all}
use Rattle.hub_cert.specs.Set.{AreApart, HaveOwnNames, Members, Mentioned, forbidden_by, mentioned_in, roots_in}
use Rattle.hub_cert.specs.Refused.{AreFirstNested, AreNested, AreShownNested, FewNamed, HaveSameName, IsRefused, IsTooMuch, fault_of, is_nested}
use Rattle.hub_cert.specs.declared.set.TheConstants.{PROFILES}
use Rattle.hub_automaton.specs.declared.fault.AutomatonFault.{AutomatonFault}
use Rattle.hub_automaton.specs.declared.fault.AutomatonFault.TheVariants as automaton
use Rattle.hub_profile.specs.declared.rule.Rule.{Rule}

-- Names.
pub have-names : (S : Members) → ((i j : ℕ) → i < j → HaveSameName S.profiles i j → ⊥) → HaveOwnNames S
have-names S none i j P Q at_i at_j differ same = go (nat_lt i j) (nat_lt j i) refl refl
  where
    go : (a b : Bool) → nat_lt i j ≡ a → nat_lt j i ≡ b → ⊥
    go true b e f = none i j (grind (arith, nat_tests, e)) (record { first = P; second = Q; at_first = at_i; at_second = at_j; same = same })
    go false true e f = none j i (grind (arith, nat_tests, f)) (record { first = Q; second = P; at_first = at_j; at_second = at_i; same = sym same })
    go false false e f = differ (grind (arith, nat_tests, e, f))

-- Roots.
apart-bits : (e a b : Bool) → (not e && (a || b)) ≡ false → (a || b) ≡ true → e ≡ true
apart-bits true a b h k = refl
apart-bits false a b h k = cc

pub are-apart : (S : Members) (rs : List Path) → rs ≡ roots_in S → ((i j : ℕ) → i < j → AreNested rs i j → ⊥) → AreApart S
are-apart S rs is none i j r s at_i at_j over = go (nat_lt i j) (nat_lt j i) refl refl
  where
    own_i : slice_get rs i ≡ Some r
    own_i = ap (λ (xs : List Path). slice_get xs i) is ∙ at_i

    own_j : slice_get rs j ≡ Some s
    own_j = ap (λ (xs : List Path). slice_get xs j) is ∙ at_j

    alike : (p q : Path) (b : Bool) → is_nested p q ≡ b → (is_over p q || is_over q p) ≡ true → (is_nested p q ≡ true → ⊥) → p ≡ q
    alike p q true e o never = absurd (never e)
    alike p q false e o never = (path_eq-decides p q).0 (apart-bits (path_eq p q) (is_over p q) (is_over q p) e o)

    go : (a b : Bool) → nat_lt i j ≡ a → nat_lt j i ≡ b → r ≡ s
    go true b e f = alike r s (is_nested r s) refl (or_left (is_over r s) (is_over s r) over) (λ n. none i j (grind (arith, nat_tests, e)) (record { first = r; second = s; at_first = own_i; at_second = own_j; nested = n }))
    go false true e f = sym (alike s r (is_nested s r) refl (or_right (is_over s r) (is_over r s) over) (λ n. none j i (grind (arith, nat_tests, f)) (record { first = s; second = r; at_first = own_j; at_second = own_i; nested = n })))
    go false false e f = let same : i ≡ j = grind (arith, nat_tests, e, f) in same_Some r s (sym at_i ∙ (ap (slice_get (roots_in S)) same ∙ at_j))

-- One profile's roots more, and one rule's root more.
pub flat-taken : {X Y : Type 0} (f : X → List Y) (xs : List X) (i : ℕ) (x : X) (now more : List Y) → i < length xs → x ≡ get_or xs i x → now ≡ flat_map f (take i xs) → more ≡ now ++ f x
    → more ≡ flat_map f (take (i + 1) xs)
flat-taken f xs i x now more l e h m =
    m ∙ (ap (λ ys. ys ++ f x) h
    ∙ (ap (λ ys. flat_map f (take i xs) ++ ys) (sym (append-nil (f x)))
    ∙ (sym (flat_map-append f (take i xs) (x ∷ [])) ∙ ap (flat_map f) (sym (take_more xs i x l ∙ ap (λ r. take i xs ++ r ∷ []) (sym e))))))

pub rules-taken : (Rs : List Rule) (i : ℕ) (R : Rule) (start now more : List Path) → i < length Rs → R ≡ get_or Rs i R → now ≡ start ++ map (λ (Q : Rule). Q.root) (take i Rs) → more ≡ now ++ R.root ∷ []
    → more ≡ start ++ map (λ (Q : Rule). Q.root) (take (i + 1) Rs)
rules-taken Rs i R start now more l e h m =
    m ∙ (ap (λ ys. ys ++ R.root ∷ []) h
    ∙ (append_assoc start (map (λ (Q : Rule). Q.root) (take i Rs)) (R.root ∷ [])
    ∙ ap (λ ys. start ++ ys) (sym (ap (map (λ (Q : Rule). Q.root)) (take_more Rs i R l ∙ ap (λ r. take i Rs ++ r ∷ []) (sym e)) ∙ map-append-own (take i Rs) (R ∷ [])))))
  where
    map-append-own : (xs ys : List Rule) → map (λ (Q : Rule). Q.root) (xs ++ ys) ≡ map (λ (Q : Rule). Q.root) xs ++ map (λ (Q : Rule). Q.root) ys
    map-append-own [] ys = refl
    map-append-own (x ∷ xs) ys = ap (λ zs. x.root ∷ zs) (map-append-own xs ys)

rule-roots : (Rs : List Rule) → map (λ (Q : Rule). Q.root) Rs ≡ map (λ R. R.root) (map forbidden_by Rs)
rule-roots [] = refl
rule-roots (R ∷ Rs) = ap (λ rs. R.root ∷ rs) (rule-roots Rs)

pub roots-are : (S : Members) (Ps : List Parts) (Rs : List Rule) (now : List Path) → S.profiles ≡ Ps → S.rules ≡ Rs → now ≡ flat_map (λ P. P.roots) Ps ++ map (λ (Q : Rule). Q.root) Rs → now ≡ roots_in S
roots-are S Ps Rs now ps rs h =
    h ∙ ((λ i. flat_map (λ (P : Parts). P.roots) (sym ps i) ++ map (λ (Q : Rule). Q.root) (sym rs i)) ∙ ap (λ ys. flat_map (λ (P : Parts). P.roots) S.profiles ++ ys) (rule-roots S.rules))

-- What an alphabet of all characters mentions.
each-mentioned : {X : Type 0} (f : X → List ℕ) (ms : List ℕ) (xs : List X) (i : ℕ) (x : X) → slice_get xs i ≡ Some x → mentions ms (flat_map f xs) ≡ true → mentions ms (f x) ≡ true
each-mentioned f ms [] i x at h = cc
each-mentioned {X} f ms (y ∷ xs) zero x at h = let e : y ≡ x = same_Some y x at in ap (λ (z : X). mentions ms (f z)) (sym e) ∙ (parts-mentioned ms (f y) (flat_map f xs) h).0
each-mentioned f ms (y ∷ xs) (suc i) x at h = each-mentioned f ms xs i x at (parts-mentioned ms (f y) (flat_map f xs) h).1

pub all-mentioned : (S : Members) (ms : List ℕ) → IsAlphabet ms → mentions ms (mentioned_in S) ≡ true → Mentioned S ms
all-mentioned S ms valid h =
    let w = parts-mentioned ms (flat_map mentioned_by S.profiles) (flat_map (λ R. spec_characters R.spec) S.rules) h in
    record {
      alphabet = valid;
      profiles = λ i P at. says-all P ms (each-mentioned mentioned_by ms S.profiles i P at w.0);
      rules = λ k R at. each-mentioned (λ (Q : Rule). spec_characters Q.spec) ms S.rules k R at w.1;
    }

-- What comes before the characters and the spots.
pub few-named : (S : Members) (Ps : List Parts) → S.profiles ≡ Ps → length Ps ≤ PROFILES → ((i j : ℕ) → i < j → HaveSameName Ps i j → ⊥) → FewNamed S
few-named S Ps ps few none = (subst (λ (Qs : List Parts). length Qs ≤ PROFILES) (sym ps) few, have-names S (subst (λ (Qs : List Parts). (i j : ℕ) → i < j → HaveSameName Qs i j → ⊥) (sym ps) none))

pub too-much : (S : Members) (e : AutomatonFault) → FewNamed S → AreApart S → IsTooMuch S e → IsRefused S (fault_of e)
too-much S automaton.TooManyCharacters named apart h = (named, apart, h)
too-much S automaton.TooManySpots named apart h = (named, apart, h.0, h.1)
too-much S automaton.OutOfMemory named apart h = h

pub nested-within : (rs : List Path) (i j : ℕ) → AreFirstNested rs i j → (i < length rs) × (j < length rs)
nested-within rs i j are = (slice_get_within rs i are.nested.first are.nested.at_first, slice_get_within rs j are.nested.second are.nested.at_second)

pub shown-nested : (rs all : List Path) (i j : ℕ) (p q r s : Path) → rs ≡ all → AreFirstNested rs i j → p ≡ get_or rs i p → q ≡ get_or rs j q → r ≡ p → s ≡ q → AreShownNested all r s
shown-nested rs all i j p q r s same are is_p is_q is_r is_s =
    let l = nested-within rs i j are in
    let at_i = slice_get_read rs _ i p refl l.0 is_p in
    let at_j = slice_get_read rs _ j q refl l.1 is_q in
    subst (λ (xs : List Path). AreShownNested xs r s) same (record {
      earlier = i;
      later = j;
      are = are;
      first = is_r ∙ same_Some p are.nested.first (sym at_i ∙ are.nested.at_first);
      second = is_s ∙ same_Some q are.nested.second (sym at_j ∙ are.nested.at_second);
    })

-- What is reached of a profile that is said from above.
use Rattle.std.proofs.Common.{◌≡◌, ◌==◌, Bool, true, false, not, ◌&&◌, ◌||◌, List, [], ◌∷◌, ◌++◌, length, map, refl, sym, ap, ◌∙◌, subst}
use Rattle.std.specs.Prelude.{IsTrue, if◌then◌else◌}
use Rattle.std.specs.List.{list_any}
use Rattle.std.proofs.Math.Bool.{and-false}
use Rattle.std.proofs.lemmas.Bool.{and_parts}
use Rattle.std.proofs.lemmas.List.Folds.{list_all-append}
use Rattle.hub_text.specs.laws.Test.{any-alike, any-map}
use Rattle.hub_path.specs.Path.{Name, Path, is_name, is_over, is_path, is_place, name_eq, prefixes}
use Rattle.hub_path.specs.declared.side.Side.{Side}
use Rattle.hub_path.specs.laws.General.{is_over-append, is_over-transitive, name_eq-decides}
use Rattle.hub_path.specs.laws.Text.{prefixes-over}
use Rattle.hub_glob.specs.Glob.{matches}
use Rattle.hub_glob.specs.Specification.{Specification}
use Rattle.hub_glob.specs.laws.OneStep.{nonzero}
use Rattle.hub_profile.specs.Parts.{Parts}
use Rattle.hub_reach.specs.Reach.{is_ignored, is_open, reach}
use Rattle.hub_reach.specs.laws.General.{reach-is_path}
use Rattle.hub_nested.specs.Lifted.{lifted, lifted_spec, said_from}
use Rattle.hub_nested.specs.Placed.{placed}
use Rattle.hub_nested.proofs.Fronts.{any-both, just-below, just-own, lifted-matches, none-where, prefixes-alike}

-- Below one path, paths lie over each other as they do by themselves.
pub over-below : (x p q : Path) → is_over (x ++ p) (x ++ q) ≡ is_over p q
over-below [] p q = refl
over-below (n ∷ x) p q = ap (λ b. b && is_over (x ++ p) (x ++ q)) ((name_eq-decides n n).1 refl) ∙ over-below x p q

-- Paths that are over each other are the same.
pub over-both : (p q : Path) → is_over p q ≡ true → is_over q p ≡ true → p ≡ q
over-both [] [] h k = refl
over-both [] (m ∷ q) h k = cc
over-both (n ∷ p) [] h k = cc
over-both (n ∷ p) (m ∷ q) h k =
    let one = and_parts (name_eq n m) (is_over p q) h in
    let two = and_parts (name_eq m n) (is_over q p) k in
    (λ i. (name_eq-decides n m).0 one.0 i ∷ over-both p q one.1 two.1 i)

pub places-both : (x p : Path) → is_place (x ++ p) ≡ (is_place x && is_place p)
places-both x p = list_all-append is_name x p

module _ (n : Name) (x : Path) (P : Parts) where
  abbrev top : Path
  top = n ∷ x

  abbrev L : Parts
  L = lifted top P

  any-lifted : (ss : List Specification) (m : Name) (p : Path)
      → list_any (λ s. matches s (top ++ m ∷ p)) (map (lifted_spec top) ss) ≡ list_any (λ s. matches s (m ∷ p)) ss
  any-lifted ss m p =
      sym (any-map (λ s. matches s (top ++ m ∷ p)) (lifted_spec top) ss)
      ∙ any-alike (λ s. matches (lifted_spec top s) (top ++ m ∷ p)) (λ s. matches s (m ∷ p)) ss
      (λ s. lifted-matches n x s m p)

  ignored-below : (m : Name) (p : Path) → is_ignored L (top ++ m ∷ p) ≡ is_ignored P (m ∷ p)
  ignored-below m p =
      (λ i. any-lifted P.ignore m p i && not (just-below n x m p i || any-lifted P.ignorenot m p i))

  own-spared : is_ignored L top ≡ false
  own-spared =
      (λ i. list_any (λ s. matches s top) L.ignore
      && not (just-own n x i || list_any (λ s. matches s top) (map (lifted_spec top) P.ignorenot)))
      ∙ and-false (list_any (λ s. matches s top) L.ignore)

  -- Nothing is ignored from a kept value down to x.
  above-open : (v q : Path) → is_over q top ≡ true → (is_over (top ++ v) q && is_ignored L q) ≡ false
  above-open v q over = go (is_over (top ++ v) q) refl
    where
      go : (b : Bool) → is_over (top ++ v) q ≡ b → (b && is_ignored L q) ≡ false
      go true e =
          let same : q ≡ top =
          over-both q top over (is_over-transitive top (top ++ v) q (is_over-append top v) e) in
          ap (is_ignored L) same ∙ own-spared
      go false e = refl

  open-below : (v : Path) (m : Name) (p : Path) → is_open L (top ++ v) (top ++ m ∷ p) ≡ is_open P v (m ∷ p)
  open-below v m p =
      let f : Path → Bool = λ q. is_over (top ++ v) q && is_ignored L q in
      let above : list_any f (prefixes top) ≡ false =
      none-where (λ q. is_over q top) f (prefixes top) (prefixes-over top) (above-open v) in
      ap not
      (any-both f top (m ∷ p)
      ∙ (ap (λ b. b || list_any (λ q. f (top ++ q)) (prefixes (m ∷ p))) above
      ∙ prefixes-alike (λ q. f (top ++ q)) (λ q. is_over v q && is_ignored P q) (m ∷ p)
      (λ k q i. over-below top v (k ∷ q) i && ignored-below k q i)))

  path-below : is_place top ≡ true → (m : Name) (p : Path) → is_path (top ++ m ∷ p) ≡ is_path (m ∷ p)
  path-below place m p =
      (λ i. not (nonzero (length (x ++ m ∷ p)) i) && places-both top (m ∷ p) i)
      ∙ (λ i. place i && is_place (m ∷ p))
      ∙ (λ i. not (sym (nonzero (length p)) i) && is_place (m ∷ p))

  pub reach-some : is_place top ≡ true → (m : Name) (p : Path) → reach L (top ++ m ∷ p) ≡ reach P (m ∷ p)
  unfolding reach
  reach-some place m p =
      let kept : list_any (λ s. is_over s (top ++ m ∷ p) && is_open L s (top ++ m ∷ p)) (map (λ v. top ++ v) P.paths)
      ≡ list_any (λ s. is_over s (m ∷ p) && is_open P s (m ∷ p)) P.paths =
      sym (any-map (λ s. is_over s (top ++ m ∷ p) && is_open L s (top ++ m ∷ p)) (λ v. top ++ v) P.paths)
      ∙ any-alike (λ v. is_over (top ++ v) (top ++ m ∷ p) && is_open L (top ++ v) (top ++ m ∷ p))
      (λ v. is_over v (m ∷ p) && is_open P v (m ∷ p)) P.paths
      (λ v i. over-below top v (m ∷ p) i && open-below v m p i) in
      (λ i. path-below place m p i && kept i)

pub said-lifted : (n : Name) (x : Path) (P : Parts) → said_from (n ∷ x) P ≡ lifted (n ∷ x) P
said-lifted n x P = ap (λ b. if b then P else lifted (n ∷ x) P) (nonzero (length x))

-- What is reached by itself has a name.
pub some-name : (P : Parts) (p : Path) → IsTrue (reach P p) → not (length p == 0) ≡ true
some-name P p h = (and_parts (not (length p == 0)) (is_place p) (reach-is_path P p h)).0

reach-lifted : (n : Name) (x : Path) (P : Parts) (p : Path) → is_place (n ∷ x) ≡ true → IsTrue (reach P p)
    → IsTrue (reach (lifted (n ∷ x) P) (n ∷ x ++ p))
reach-lifted n x P [] place h = let none : false ≡ true = some-name P [] h in cc
reach-lifted n x P (m ∷ p) place h = reach-some n x P place m p ∙ h

pub reach-said : (x : Path) (P : Parts) (p : Path) → is_place x ≡ true → IsTrue (reach P p)
    → IsTrue (reach (said_from x P) (x ++ p))
reach-said [] P p place h = h
reach-said (n ∷ x) P p place h =
    subst (λ (S : Parts). IsTrue (reach S (n ∷ x ++ p))) (sym (said-lifted n x P)) (reach-lifted n x P p place h)

-- Which roots a profile has doesn't matter to what it reaches.
pub reach-placed : (a : Side) (r aside : Path) (P : Parts) (p : Path) → reach (placed a r aside P) p ≡ reach P p
unfolding reach
reach-placed a r aside P p = refl

-- An alphabet to which the characters of one thing after another are added, and the spots of choices
-- after others.
use Rattle.std.proofs.Common.{◌≡◌, ◌∙◌, ℕ, ◌+◌, ◌<◌, ◌≤◌, true, ◌&&◌, ◌||◌, List, [], ◌∷◌, ◌++◌}
use Rattle.std.proofs.Common.{length, take, drop, get_or, refl, sym, ap, append-nil, arith}
use Rattle.std.specs.List.{list_all, flat_map}
use Rattle.std.proofs.lemmas.Bool.{and_parts}
use Rattle.std.proofs.lemmas.List.{take_more, take_all, take-append-drop}
use Rattle.std.proofs.lemmas.List.Concat.{flat_map-append}
use Rattle.std.proofs.lemmas.List.Folds.{list_all-append}
use Rattle.hub_automaton.specs.declared.fault.AutomatonFault.{AutomatonFault}
use Rattle.hub_automaton.specs.Alphabet.{mentions, is_never_mentioned, is_mentioned, with_characters, RefusesCharacters}
use Rattle.hub_automaton.specs.laws.Adding.{with-append, mention_refused, flat_drop}
use Rattle.hub_automaton.specs.declared.alternatives.Alternatives.{Alternatives}
use Rattle.hub_automaton.specs.Spots.{spots_count}

pub parts-mentioned : (ms cs ds : List ℕ) → mentions ms (cs ++ ds) ≡ true
    → (mentions ms cs ≡ true) × (mentions ms ds ≡ true)
parts-mentioned ms cs ds h =
    and_parts (mentions ms cs) (mentions ms ds)
    (sym (list_all-append (λ c. is_never_mentioned c || is_mentioned ms c) cs ds) ∙ h)

pub added-after : (ms now more cs ds : List ℕ) → now ≡ with_characters ms cs
    → more ≡ with_characters now ds → more ≡ with_characters ms (cs ++ ds)
added-after ms now more cs ds is h =
    h ∙ (ap (λ (ns : List ℕ). with_characters ns ds) is ∙ sym (with-append ms cs ds))

-- What is refused to a part is refused to the whole.
pub refused-before : (ms cs ds : List ℕ) (e : AutomatonFault) → RefusesCharacters ms cs e
    → RefusesCharacters ms (cs ++ ds) e
refused-before ms cs ds e r = mention_refused cs (cs ++ ds) ds ms ms (cs ++ ds) e refl refl r

pub refused-after : (ms now cs ds : List ℕ) (e : AutomatonFault) → now ≡ with_characters ms cs
    → RefusesCharacters now ds e → RefusesCharacters ms (cs ++ ds) e
refused-after ms now cs ds e is r =
    mention_refused ds ds [] now ms (cs ++ ds) e (sym (append-nil ds))
    (ap (λ (ns : List ℕ). with_characters ns ds) is ∙ sym (with-append ms cs ds)) r

module _ {X : Type 0} (f : X → List ℕ) where
  pub flat-parts : (xs : List X) (i : ℕ)
      → flat_map f (take i xs) ++ flat_map f (drop i xs) ≡ flat_map f xs
  flat-parts xs i =
      sym (flat_map-append f (take i xs) (drop i xs)) ∙ ap (flat_map f) (take-append-drop i xs)

  pub each-mentioned : (ms : List ℕ) (xs : List X) → mentions ms (flat_map f xs) ≡ true
      → list_all (λ x. mentions ms (f x)) xs ≡ true
  each-mentioned ms [] h = refl
  each-mentioned ms (x ∷ xs) h =
      let w = parts-mentioned ms (f x) (flat_map f xs) h in
      (λ i. w.0 i && each-mentioned ms xs w.1 i)

  -- The characters of the first i of them have been added.
  pub added-more : (start now more : List ℕ) (xs : List X) (i : ℕ) (x : X) → i < length xs
      → x ≡ get_or xs i x → more ≡ with_characters now (f x)
      → now ≡ with_characters start (flat_map f (take i xs))
      → more ≡ with_characters start (flat_map f (take (i + 1) xs))
  added-more start now more xs i x l e m h =
      m ∙ (ap (λ (ns : List ℕ). with_characters ns (f x)) h
      ∙ (sym (with-append start (flat_map f (take i xs)) (f x))
      ∙ ap (with_characters start)
      (ap (λ cs. flat_map f (take i xs) ++ cs) (sym (append-nil (f x)))
      ∙ (sym (flat_map-append f (take i xs) (x ∷ []))
      ∙ ap (flat_map f) (sym (take_more xs i x l ∙ ap (λ r. take i xs ++ r ∷ []) (sym e)))))))

  pub added-all : (start now : List ℕ) (xs : List X) (i : ℕ) → length xs ≤ i
      → now ≡ with_characters start (flat_map f (take i xs))
      → now ≡ with_characters start (flat_map f xs)
  added-all start now xs i l h =
      h ∙ ap (λ ys. with_characters start (flat_map f ys)) (take_all i xs l)

  pub refused-one : (start now : List ℕ) (xs : List X) (i : ℕ) (x : X) (e : AutomatonFault)
      → i < length xs → x ≡ get_or xs i x
      → now ≡ with_characters start (flat_map f (take i xs)) → RefusesCharacters now (f x) e
      → RefusesCharacters start (flat_map f xs) e
  refused-one start now xs i x e l is h r =
      mention_refused (f x) (flat_map f (drop i xs)) (flat_map f (drop (i + 1) xs)) now start
      (flat_map f xs) e (flat_drop f xs i x l is)
      (ap (λ (ns : List ℕ). with_characters ns (flat_map f (drop i xs))) h
      ∙ (sym (with-append start (flat_map f (take i xs)) (flat_map f (drop i xs)))
      ∙ ap (with_characters start) (flat-parts xs i))) r

-- The spots of choices, and then of further ones.
pub spots-append : (ls ms : List Alternatives)
    → spots_count (ls ++ ms) ≡ spots_count ls + spots_count ms
spots-append [] ms = omega arith
spots-append (a ∷ ls) ms = omega (arith, spots-append ls ms)

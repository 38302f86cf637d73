-- Characters added to an alphabet, some after others.
use Rattle.std.proofs.Common.{◌≡◌, inl, inr, ⊎_elim, ℕ, ◌+◌, ◌<◌, ◌≤◌, Bool, true, false, ◌||◌, cond, List, [], ◌∷◌, ◌++◌, length, drop, get_or, refl, sym, ap, ◌∙◌, arith}
use Rattle.std.specs.Prelude.{nat_lt}
use Rattle.std.specs.List.{flat_map}
use Rattle.std.proofs.lemmas.List.{drop_more}
use Rattle.hub_automaton.specs.declared.fault.AutomatonFault.{AutomatonFault}
use Rattle.hub_automaton.specs.declared.alphabet.TheConstants.{MENTIONED_CHARACTERS}
use Rattle.hub_automaton.specs.Alphabet.{is_never_mentioned, is_mentioned, inserted, with_character, with_characters, RefusesCharacters}

pub length-placed : (ms : List ℕ) (c : ℕ) → length (inserted ms c) ≡ length ms + 1
length-placed [] c = refl
length-placed (m ∷ ms) c = by_test (nat_lt c m) (length-placed ms c) where
  by_test : (b : Bool) → length (inserted ms c) ≡ length ms + 1
      → length (cond b (c ∷ m ∷ ms) (m ∷ inserted ms c)) ≡ length (m ∷ ms) + 1
  by_test true h = omega arith
  by_test false h = omega (arith, h)

pub length-with : (ms : List ℕ) (c : ℕ) → length ms ≤ length (with_character ms c)
length-with ms c = by_test (is_never_mentioned c || is_mentioned ms c) where
  by_test : (b : Bool) → length ms ≤ length (cond b ms (inserted ms c))
  by_test true = omega arith
  by_test false = omega (arith, length-placed ms c)

pub with-append : (ms cs ds : List ℕ) → with_characters ms (cs ++ ds)
    ≡ with_characters (with_characters ms cs) ds
with-append ms [] ds = refl
with-append ms (c ∷ cs) ds = with-append (with_character ms c) cs ds

pub length-with_all : (ms cs : List ℕ) → length ms ≤ length (with_characters ms cs)
length-with_all ms [] = omega arith
length-with_all ms (c ∷ cs) =
    omega (arith, length-with ms c, length-with_all (with_character ms c) cs)

-- What is left to mention while a list is gone through: the whole is what there is now, with the
-- rest.
pub mention_step : (cs old rest ms more whole : List ℕ) → old ≡ cs ++ rest
    → more ≡ with_characters ms cs → with_characters ms old ≡ whole
    → with_characters more rest ≡ whole
mention_step cs old rest ms more whole e m h =
    ap (λ ns. with_characters ns rest) m ∙ sym (with-append ms cs rest)
    ∙ ap (with_characters ms) (sym e) ∙ h

pub mention_refused : (cs old rest ms start all : List ℕ) (e : AutomatonFault) → old ≡ cs ++ rest
    → with_characters ms old ≡ with_characters start all → RefusesCharacters ms cs e
    → RefusesCharacters start all e
mention_refused cs old rest ms start all e at h r =
    ⊎_elim (λ none. inl none)
    (λ many.
    let step : with_characters (with_characters ms cs) rest ≡ with_characters start all =
    mention_step cs old rest ms (with_characters ms cs) (with_characters start all) at refl h in
    let more = length-with_all (with_characters ms cs) rest in
    let same = ap length step in
    let over : MENTIONED_CHARACTERS < length (with_characters ms cs) = many.1 in
    let whole : MENTIONED_CHARACTERS < length (with_characters start all) =
    omega (arith, more, same, over) in
    inr (many.0, whole)) r

pub flat_drop : {X : Type 0} (f : X → List ℕ) (xs : List X) (i : ℕ) (x : X) → i < length xs
    → x ≡ get_or xs i x
    → flat_map f (drop i xs) ≡ f x ++ flat_map f (drop (i + 1) xs)
flat_drop f xs i x l e =
    ap (flat_map f) (drop_more xs i x l ∙ ap (λ y. y ∷ drop (i + 1) xs) (sym e))

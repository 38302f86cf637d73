-- Files that were looked for.
use Rattle.std.proofs.Common.{◌≡◌, ◌∙◌, ◌+◌, ◌||◌, ℕ, Bool, true, false, List, [], ◌∷◌, None, is_some, bytes_eq, refl, sym, ap, arith}
use Rattle.std.specs.List.{list_any}
use Rattle.std.proofs.lemmas.Slice.Eq.{bytes_eq-Decides}
use Rattle.hub_include.specs.Files.{Known}
use Rattle.hub_folder.specs.Taken.{AreKnown, AreLookedFor, KeepsKnown}

true-false : true ≡ false → ⊥
true-false h = cc

-- A name that nobody looked for is another one than each that is known.
apart-known : (known : Known) (other name : List ℕ) → known name ≡ None → is_some (known other) ≡ true → bytes_eq other name ≡ false
apart-known known other name none some = by (bytes_eq other name) refl
  where
    by : (b : Bool) → bytes_eq other name ≡ b → b ≡ false
    by true e = absurd (true-false (sym some ∙ ap (λ n. is_some (known n)) ((bytes_eq-Decides other name).0 e) ∙ ap is_some none))
    by false e = refl

still-known : (old new : Known) (name : List ℕ) (ns : List (List ℕ)) → old name ≡ None
    → ((other : List ℕ) → bytes_eq other name ≡ false → new other ≡ old other) → AreKnown old ns
    → AreKnown new ns × (list_any (λ m. bytes_eq m name) ns ≡ false)
still-known old new name [] none same are = (tt, refl)
still-known old new name (n ∷ ns) none same are =
    let e = apart-known old n name none are.0 in
    let more = still-known old new name ns none same are.1 in ((ap is_some (same n e) ∙ are.0, more.0), (λ i. e i || more.1 i))

-- One more file.
pub looked-more : (old new : Known) (name : List ℕ) (count : ℕ) → old name ≡ None → is_some (new name) ≡ true
    → ((other : List ℕ) → bytes_eq other name ≡ false → new other ≡ old other) → AreLookedFor old count → AreLookedFor new (count + 1)
looked-more old new name count none some same are =
    let more = still-known old new name are.names none same are.are_known in
    record {
      names = name ∷ are.names;
      count_is = omega (arith, are.count_is);
      apart = (more.1, are.apart);
      are_known = (some, more.0);
    }

-- What is known stays known.
pub keeps-more : (first old new : Known) (name : List ℕ) → old name ≡ None
    → ((other : List ℕ) → bytes_eq other name ≡ false → new other ≡ old other) → KeepsKnown first old → KeepsKnown first new
keeps-more first old new name none same keeps other held is =
    let known = keeps other held is in same other (apart-known old other name none (ap is_some known)) ∙ known

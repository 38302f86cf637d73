-- What has been added to an alphabet when the characters of one thing after another are added.
use Rattle.std.proofs.Common.{◌≡◌, ◌∙◌, ℕ, ◌+◌, ◌<◌, List, [], ◌++◌, length, take, drop, get_or, refl, sym, ap, subst, append_assoc, Result, Ok, Err, OnErr}
use Rattle.std.specs.List.{flat_map}
use Rattle.hub_automaton.specs.Alphabet.{with_characters}
use Rattle.hub_automaton.specs.laws.Adding.{with-append, flat_drop}
use Rattle.hub_automaton.specs.laws.AddedInTurn.{flat-parts}
use Rattle.hub_reach.specs.Mention.{IsPartly}

-- What has been added of a part has been added of the whole.
pub partly-before : (ms cs ds new : List ℕ) → IsPartly ms cs new → IsPartly ms (cs ++ ds) new
partly-before ms cs ds new p = record {
  added = p.added;
  left = p.left ++ ds;
  all = sym (append_assoc p.added p.left ds) ∙ ap (λ es. es ++ ds) p.all;
  mentioned = p.mentioned;
}

pub partly-after : (ms now cs ds new : List ℕ) → now ≡ with_characters ms cs → IsPartly now ds new → IsPartly ms (cs ++ ds) new
partly-after ms now cs ds new is p = record {
  added = cs ++ p.added;
  left = p.left;
  all = append_assoc cs p.added p.left ∙ ap (λ es. cs ++ es) p.all;
  mentioned = p.mentioned ∙ (ap (λ (ns : List ℕ). with_characters ns p.added) is ∙ sym (with-append ms cs p.added));
}

-- After an error nothing has been added.
pub partly_none : {V E : Type 0} (r : Result V E) (ms cs new : List ℕ) → OnErr r (new ≡ ms) → OnErr r (IsPartly ms cs new)
partly_none (Ok v) ms cs new is = tt
partly_none (Err e) ms cs new is = record { added = []; left = cs; all = refl; mentioned = is }

-- The first i of some values have been added, and a part of the next one.
pub partly-one : {X : Type 0} (f : X → List ℕ) (start now new : List ℕ) (xs : List X) (i : ℕ) (x : X) → i < length xs → x ≡ get_or xs i x
    → now ≡ with_characters start (flat_map f (take i xs)) → IsPartly now (f x) new → IsPartly start (flat_map f xs) new
partly-one f start now new xs i x l is h p =
    subst (λ cs. IsPartly start cs new) (flat-parts f xs i)
    (partly-after start now (flat_map f (take i xs)) (flat_map f (drop i xs)) new h
    (subst (λ cs. IsPartly now cs new) (sym (flat_drop f xs i x l is)) (partly-before now (f x) (flat_map f (drop (i + 1) xs)) new p)))

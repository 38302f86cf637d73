-- A name after what was read of it.
use Rattle.std.proofs.Common.{◌≡◌, ℕ, List, [], ◌∷◌, ◌++◌, Option, Some, None, refl, ap, append_assoc}
use Rattle.std.specs.Option.{option_map}
use Rattle.hub_include.specs.Words.{onto}

abbrev pub prepend : List ℕ → Option (List ℕ) → Option (List ℕ)
prepend p name = option_map (λ bs. p ++ bs) name

pub prepend-onto : (p : List ℕ) (b : ℕ) (name : Option (List ℕ))
    → prepend (p ++ b ∷ []) name ≡ prepend p (onto b name)
prepend-onto p b None = refl
prepend-onto p b (Some bs) = ap Some (append_assoc p (b ∷ []) bs)

pub prepend-nothing : (name : Option (List ℕ)) → prepend [] name ≡ name
prepend-nothing None = refl
prepend-nothing (Some bs) = refl

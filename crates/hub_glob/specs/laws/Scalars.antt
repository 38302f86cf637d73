-- Parts of a text are made of characters (Unicode scalar values), as the text is.
use Rattle.std.proofs.Common.{◌≡◌, ℕ, suc, zero, Bool, true, false, List, [], ◌∷◌, drop, refl}
use Rattle.std.specs.Prelude.{if◌then◌else◌}
use Rattle.std.specs.Str.{all_scalars}
use Rattle.std.proofs.lemmas.Bool.{and_parts}
use lib.Utf8.{scalar}
use Rattle.hub_text.specs.Blanks.{is_blank, skip_blanks}

pub either-scalars : (b : Bool) (xs ys : List ℕ) → all_scalars xs ≡ true → all_scalars ys ≡ true
    → all_scalars (if b then xs else ys) ≡ true
either-scalars true xs ys h k = h
either-scalars false xs ys h k = k

pub skip-scalars : (cs : List ℕ) → all_scalars cs ≡ true → all_scalars (skip_blanks cs) ≡ true
skip-scalars [] h = h
skip-scalars (c ∷ cs) h =
    either-scalars (is_blank c) (skip_blanks cs) (c ∷ cs)
    (skip-scalars cs (and_parts (scalar c) (all_scalars cs) h).1) h

pub drop-scalars : (n : ℕ) (cs : List ℕ) → all_scalars cs ≡ true → all_scalars (drop n cs) ≡ true
drop-scalars zero cs h = h
drop-scalars (suc n) [] h = refl
drop-scalars (suc n) (c ∷ cs) h = drop-scalars n cs (and_parts (scalar c) (all_scalars cs) h).1

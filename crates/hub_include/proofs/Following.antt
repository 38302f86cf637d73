-- How a file is followed.
use Rattle.std.proofs.Common.{◌≡◌, ℕ, zero, suc, ◌-◌, ◌<◌, List, [], ◌∷◌, ◌++◌, refl, arith}
use Rattle.hub_include.specs.Files.{Held, Known}
use Rattle.hub_include.specs.Includes.{Lines, Placed, add_file, follow}

-- A file that may be open is followed line by line.
pub follow-open : (known : Known) (left : ℕ) (opened : List (List ℕ)) (at : Placed) (f : Held) (done : Lines)
    → 0 < left
    → follow known left opened at f done
    ≡ add_file (follow known (left - 1) (opened ++ f.name ∷ [])) known (opened ++ f.name ∷ []) f done
follow-open known zero opened at f done h = absurd (omega arith)
follow-open known (suc left) opened at f done h =
    let e : suc left - 1 ≡ left = omega arith in rw e refl

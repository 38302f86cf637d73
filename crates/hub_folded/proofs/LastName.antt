-- The last name of a path.
use Rattle.std.proofs.Common.{◌≡◌, ◌+◌, ℕ, suc, zero, Some, Bool, List, [], ◌∷◌, length, sym, ap, ◌∙◌, arith}
use Rattle.std.specs.Prelude.{slice_get, IsTrue, chars, codes, encode_utf8_all}
use Rattle.hub_path.specs.Path.{Path, name_eq, last_name, is_name}
use Rattle.hub_path.specs.laws.NameFacts.{name_chars}
use Rattle.hub_unison.specs.UnisonReach.{is_starred}

last-at : (p : Path) (i : ℕ) (n : List ℕ) → slice_get p i ≡ Some n → i + 1 ≡ length p
    → last_name p ≡ n
last-at [] i n h l = cc
last-at (m ∷ []) zero n h l = cc
last-at (m ∷ []) (suc i) n h l = absurd (omega arith)
last-at (m ∷ k ∷ p) zero n h l = absurd (omega arith)
last-at (m ∷ k ∷ p) (suc i) n h l = last-at (k ∷ p) i n h (omega arith)

pub starred-last : (p : Path) (i : ℕ) (n t : List ℕ) (b : Bool) → slice_get p i ≡ Some n
    → t ≡ encode_utf8_all n → IsTrue (is_name n) → i + 1 ≡ length p
    → b ≡ name_eq (chars t) (codes "*") → b ≡ is_starred p
starred-last p i n t b h e valid l matched =
    matched ∙ ap (λ m. name_eq m (codes "*")) (name_chars n t e valid ∙ sym (last-at p i n h l))

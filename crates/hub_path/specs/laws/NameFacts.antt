-- What a name is, and a text without a fault.
use Rattle.std.proofs.Common.{◌≡◌, Bool, true, false, not, ◌&&◌, ℕ, List, Some, None, refl, cond, ap, ◌∙◌}
use Rattle.std.specs.List.{list_any, list_all}
use Rattle.std.specs.Prelude.{IsTrue, length, ◌==◌, nat_lt, sum_by, chars, encode_utf8_all}
use Rattle.std.specs.Char.{len_utf8}
use Rattle.std.specs.Str.{all_scalars}
use Rattle.std.proofs.lemmas.Bool.{and_parts}
use Rattle.std.proofs.lemmas.Str.{chars-encodes}
use Rattle.hub_text.specs.laws.Test.{list_all-not}
use Rattle.hub_path.specs.Path.{Name, is_name, is_forbidden, is_dots}
use Rattle.hub_path.specs.Reading.{name_fault}
use Rattle.hub_path.specs.declared.fault.PathFault.{PathFault}
use Rattle.hub_path.specs.declared.fault.PathFault.TheVariants.{EmptyName, DotName, BadCharacter, NameTooLong}
use Rattle.hub_path.specs.declared.name.TheConstants.{NAME_BYTES}

-- What holds of each name.
pub record NameParts (n : Name) : Type 0 where
  pub some : not (length n == 0) ≡ true
  pub scalars : all_scalars n ≡ true
  pub allowed : list_all (λ c. not (is_forbidden c)) n ≡ true

pub name_parts : (n : Name) → IsTrue (is_name n) → NameParts n
name_parts n h =
    let some = not (length n == 0) in
    let allowed = list_all (λ c. not (is_forbidden c)) n in
    let proper = and_parts (some && all_scalars n && allowed) (not (is_dots n)) h in
    let last = and_parts (some && all_scalars n) allowed proper.0 in
    let first = and_parts some (all_scalars n) last.0 in
    record { some = first.0; scalars = first.1; allowed = last.1 }

-- The characters of a name's text are the name.
pub name_chars : (n bs : List ℕ) → bs ≡ encode_utf8_all n → IsTrue (is_name n) → chars bs ≡ n
name_chars n bs e h = ap chars e ∙ chars-encodes n (name_parts n h).scalars

-- A chain of tests that gives no fault has passed each test.
pub none_of_four : (a b c d : Bool) (e f g h : PathFault)
    → cond a (Some e) (cond b (Some f) (cond c (Some g) (cond d (Some h) None))) ≡ None
    → (a ≡ false) × (b ≡ false) × (c ≡ false)
none_of_four true b c d e f g h p = cc
none_of_four false true c d e f g h p = cc
none_of_four false false true d e f g h p = cc
none_of_four false false false d e f g h p = (refl, refl, refl)

-- Characters that have no fault are a name.
pub is_name-no_fault : (n : List ℕ) → all_scalars n ≡ true → name_fault n ≡ None
    → IsTrue (is_name n)
is_name-no_fault n s h =
    let passed = none_of_four (length n == 0) (is_dots n) (list_any is_forbidden n)
    (nat_lt NAME_BYTES (sum_by len_utf8 n)) EmptyName DotName BadCharacter NameTooLong h in
    rw (passed.0, s, list_all-not is_forbidden n, passed.2, passed.1) refl

-- The three tests of a text that may have any length.
reorder : (a d f : Bool) → (a && d && f) ≡ (a && true && f && d)
reorder false d f = refl
reorder true false false = refl
reorder true false true = refl
reorder true true false = refl
reorder true true true = refl

pub is_name-tests : (n : List ℕ) → all_scalars n ≡ true
    → (not (length n == 0) && not (is_dots n) && not (list_any is_forbidden n)) ≡ is_name n
is_name-tests n s =
    rw (s, list_all-not is_forbidden n) (reorder (not (length n == 0)) (not (is_dots n))
    (not (list_any is_forbidden n)))

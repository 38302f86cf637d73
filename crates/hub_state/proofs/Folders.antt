-- The names of a path that is read have no fault, and neither have those of its folder, nor those of a path in it.
use Rattle.std.proofs.Common.{◌≡◌, ◌==◌, ℕ, ◌+◌, ◌<◌, true, false, List, [], ◌∷◌, ◌++◌, length, refl, sym, ap, ◌∙◌, subst, arith}
use Rattle.std.specs.Prelude.{None, Ok}
use Rattle.std.specs.Prelude.{not, bytes_eq, encode_utf8_all}
use Rattle.std.proofs.lemmas.Bool.{and_from, ne_eqb}
use Rattle.std.proofs.lemmas.Bool.Decides.{nat_tests}
use Rattle.std.proofs.lemmas.Slice.Eq.{bytes_eq-Decides}
use Rattle.hub_path.specs.Path.{Name, Path, parent, is_path, is_place, text_of}
use Rattle.hub_path.specs.Reading.{name_fault, name_reading, names_fault}
use Rattle.hub_path.specs.laws.ReadNames.{or_fault-Ok, first_fault-None, tested-None}
use Rattle.hub_path.specs.declared.fault.PathFault.TheVariants.{TooDeep}
use Rattle.hub_path.specs.declared.rel_path.TheConstants.{PATH_NAMES}
use Rattle.hub_state.specs.forms.Near.{IsReadFrom}
use Rattle.hub_state.specs.Reading.{path_field}
use Rattle.hub_state.specs.Writing.{path_bytes}
use Rattle.hub_state.proofs.Fields.{path_field-written}

-- The first name, and the others.
record Fine (depth : ℕ) (n : Name) (p : Path) : Type 0 where
  room : (depth == PATH_NAMES) ≡ false
  first : name_fault n ≡ None
  rest : names_fault (depth + 1) p ≡ None

fine : (depth : ℕ) (n : Name) (p : Path) → names_fault depth (n ∷ p) ≡ None → Fine depth n p
fine depth n p h =
    let a = tested-None (depth == PATH_NAMES) TooDeep _ h in
    let b = first_fault-None (name_fault n) (names_fault (depth + 1) p) a.1 in
    record { room = a.0; first = b.0; rest = b.1 }

fine-below : (depth : ℕ) (p : Path) (n : Name) → names_fault depth p ≡ None → depth + length p < PATH_NAMES → name_fault n ≡ None → names_fault depth (p ++ n ∷ []) ≡ None
fine-below depth [] n h l one = rw (ne_eqb depth PATH_NAMES (λ e. omega (arith, l, e)), one) refl
fine-below depth (m ∷ p) n h l one =
    let f = fine depth m p h in
    rw (f.room, f.first) (fine-below (depth + 1) p n f.rest (omega (arith, l)) one)

fine-parent : (depth : ℕ) (p : Path) → names_fault depth p ≡ None → names_fault depth (parent p) ≡ None
fine-parent depth [] h = refl
fine-parent depth (n ∷ []) h = refl
fine-parent depth (n ∷ m ∷ p) h =
    let f = fine depth n (m ∷ p) h in
    rw (f.room, f.first) (fine-parent (depth + 1) (m ∷ p) f.rest)

-- A name that is read, in a folder with room.
pub below_fine : (p : Path) (t n : List ℕ) → names_fault 0 p ≡ None → length p < PATH_NAMES → name_reading t ≡ Ok n → names_fault 0 (p ++ n ∷ []) ≡ None
below_fine p t n h l read =
    let r = or_fault-Ok (name_fault t) t n read in
    fine-below 0 p n h (omega (arith, l)) (sym (ap name_fault r.1) ∙ r.0)

pub parent_fine : (p : Path) → names_fault 0 p ≡ None → names_fault 0 (parent p) ≡ None
parent_fine p h = fine-parent 0 p h

-- A path whose text is the field.
some_more : (p : Path) (n : Name) → not (length (p ++ n ∷ []) == 0) ≡ true
some_more [] n = grind (arith, nat_tests)
some_more (m ∷ p) n = grind (arith, nat_tests)

pub is_read_from : (folder : Path) (n : Name) (p : Path) (text field : List ℕ) → p ≡ folder ++ n ∷ [] → names_fault 0 (folder ++ n ∷ []) ≡ None → is_place p ≡ true → text ≡ encode_utf8_all (text_of p) → bytes_eq text field ≡ true
    → IsReadFrom field p
is_read_from folder n p text field e fine place t same =
    let is : is_path p ≡ true = and_from (not (length p == 0)) (is_place p) (ap (λ q. not (length q == 0)) e ∙ some_more folder n) place in
    let names : names_fault 0 p ≡ None = ap (names_fault 0) e ∙ fine in
    let field_is : path_bytes p ≡ field = sym t ∙ (bytes_eq-Decides text field).0 same in
    (subst (λ u. path_field u ≡ Ok p) field_is (path_field-written p is names), is, names)

-- How the names of a path are read, from the left.
use Rattle.std.proofs.Common.{◌≡◌, ◌==◌, add-one, length-append, ℕ, ◌+◌, ◌<◌, Bool, true, false, cond, [], ◌∷◌, ◌++◌, length, take, drop, get_or, Option, Some, None, Result, Ok, Err, refl, sym, ap, ◌∙◌, arith}
use Rattle.std.specs.Prelude.{IsTrue}
use Rattle.std.proofs.Math.Seq.{drop-cons}
use Rattle.std.proofs.lemmas.List.{take_more, take_all, drop_all}
use Rattle.std.proofs.lemmas.List.Folds.{list_all-append}
use Rattle.hub_path.specs.Path.{Name, Path, is_place, is_name}
use Rattle.hub_path.specs.Reading.{name_fault, name_reading, names_fault, names_reading, or_fault, first_fault}
use Rattle.hub_path.specs.declared.fault.PathFault.{PathFault}
use Rattle.hub_path.specs.declared.fault.PathFault.TheVariants.{TooDeep}
use Rattle.hub_path.specs.declared.rel_path.TheConstants.{PATH_NAMES}

-- What is read of the names so far, and that the fault of them all is that of the rest.
pub record ReadSoFar (all names : Path) (count : ℕ) : Type 0 where
  pub count_is : length names ≡ count
  pub front : names ≡ take count all
  pub fault : names_fault 0 all ≡ names_fault count (drop count all)
  pub valid : IsTrue (is_place names)

pub or_fault-Ok : {T : Type 0} (f : Option PathFault) (x y : T) → or_fault f x ≡ Ok y
    → (f ≡ None) × (x ≡ y)
or_fault-Ok None x y h = (refl, cc)
or_fault-Ok (Some e) x y h = cc

pub or_fault-Err : {T : Type 0} (f : Option PathFault) (x : T) (e : PathFault)
    → or_fault f x ≡ Err e → f ≡ Some e
or_fault-Err None x e h = cc
or_fault-Err (Some d) x e h = cc

-- Where two tests find no fault, neither does.
pub first_fault-None : (f g : Option PathFault) → first_fault f g ≡ None → (f ≡ None) × (g ≡ None)
first_fault-None None g h = (refl, h)
first_fault-None (Some e) g h = cc

pub tested-None : (b : Bool) (e : PathFault) (f : Option PathFault) → cond b (Some e) f ≡ None
    → (b ≡ false) × (f ≡ None)
tested-None true e f h = cc
tested-None false e f h = (refl, h)

-- The fault of the names from one on, by that name.
fault-at : (all : Path) (i : ℕ) (n : Name) → i < length all → n ≡ get_or all i n
    → names_fault i (drop i all) ≡ cond (i == PATH_NAMES) (Some TooDeep)
    (first_fault (name_fault n) (names_fault (i + 1) (drop (i + 1) all)))
fault-at all i n l e = rw (drop-cons all i n l, ← e, add-one) refl

-- A name after as many as a path may have.
pub fault-deep : (all names : Path) (i : ℕ) (n : Name) → ReadSoFar all names i → i < length all
    → n ≡ get_or all i n → (i == PATH_NAMES) ≡ true → names_reading all ≡ Err TooDeep
fault-deep all names i n so_far l e deep =
    let reading : Option PathFault → Result Path PathFault = λ f. or_fault f all in
    ap reading {x = names_fault 0 all} {y = Some TooDeep}
    (so_far.fault ∙ (fault-at all i n l e ∙ rw deep refl))

-- A name with a fault.
pub fault-name : (all names : Path) (i : ℕ) (n : Name) (f : PathFault) → ReadSoFar all names i
    → i < length all → n ≡ get_or all i n → (i == PATH_NAMES) ≡ false → name_reading n ≡ Err f
    → names_reading all ≡ Err f
fault-name all names i n f so_far l e deep bad =
    let reading : Option PathFault → Result Path PathFault = λ g. or_fault g all in
    ap reading {x = names_fault 0 all} {y = Some f}
    (so_far.fault ∙ (fault-at all i n l e
    ∙ rw (deep, or_fault-Err (name_fault n) n f bad) refl))

-- One more name.
pub read-more : (all names : Path) (i : ℕ) (n m : Name) → ReadSoFar all names i → i < length all
    → n ≡ get_or all i n → (i == PATH_NAMES) ≡ false → name_reading n ≡ Ok m → IsTrue (is_name m)
    → ReadSoFar all (names ++ m ∷ []) (i + 1)
read-more all names i n m so_far l e deep good valid =
    let same = or_fault-Ok (name_fault n) n m good in
    record {
      count_is = length-append names (m ∷ []) ∙ ap (λ k. k + 1) so_far.count_is;
      front =
          ap (λ ns. ns ++ m ∷ []) so_far.front
          ∙ (ap (λ k. take i all ++ k ∷ []) (sym same.1 ∙ e) ∙ sym (take_more all i n l));
      fault = so_far.fault ∙ (fault-at all i n l e ∙ rw (deep, same.0) refl);
      valid = list_all-append is_name names (m ∷ []) ∙ rw (so_far.valid, valid) refl;
    }

-- All names.
pub read-all : (all names : Path) (i : ℕ) → ReadSoFar all names i → i ≡ length all
    → names_reading all ≡ Ok names
read-all all names i so_far e =
    let whole : names ≡ all = so_far.front ∙ (take_all i all (omega arith)) in
    let none : names_fault 0 all ≡ None =
    so_far.fault ∙ ap (names_fault i) (drop_all i all (omega arith)) in
    let reading : Option PathFault → Result Path PathFault = λ f. or_fault f all in
    let to_ok : Path → Result Path PathFault = λ ns. Ok ns in
    ap reading {x = names_fault 0 all} {y = None} none ∙ ap to_ok (sym whole)

-- What holds of paths: prefixes, parents, order and texts.
use Rattle.std.proofs.Common.{◌≡◌, ◌≢◌, ◌==◌, ◌⊎◌, inl, inr, ⊎_elim, cond, ℕ, ◌≤◌, Bool, true, false, not, ◌||◌, List, [], ◌∷◌, ◌++◌, length, drop, refl, sym, ap, ◌∙◌, arith, append-nil, append_assoc, length-append, subst}
use Rattle.std.specs.Prelude.{IsTrue, ◌↔◌, Option, None, Some, Ok}
use Rattle.std.specs.Bool.{Decides}
use Rattle.std.specs.List.{list_all, onto_first}
use Rattle.std.specs.Cmp.{IsTotalOrder}
use Rattle.std.specs.FinMap.{IsAntisymmetric, nat_cmp-IsAntisymmetric, slice_cmp-IsAntisymmetric}
use Rattle.std.proofs.lemmas.Cmp.{tied_itself, lists_total, nat_list_cmp_total}
use Rattle.std.proofs.lemmas.Bool.{and_parts}
use Rattle.std.proofs.lemmas.Bool.Decides.{nat_tests, Decides-eqb, Decides-like, same_from_decides}
use Rattle.std.proofs.lemmas.Slice.Eq.{bytes_eq-Decides, slice_eq-Decides, starts_is}
use Rattle.std.proofs.lemmas.List.Splits.{join_with_byte-slice_split}
use Rattle.std.specs.declared.cmp.Ordering.TheVariants.{Less, Equal}
use Rattle.std.proofs.lemmas.List.Folds.{list_all-append}
use Rattle.hub_path.specs.declared.fault.PathFault.{PathFault}
use Rattle.hub_path.specs.declared.fault.PathFault.TheVariants.{Empty, NotAbsolute, RemoteRoot}
use Rattle.hub_path.specs.Reading.{names_fault, begins_with_slash, is_remote, or_fault, path_fault, path_reading, root_fault, root_names, root_reading, place_of, without_last_slash}
use Rattle.hub_path.specs.laws.NameFacts.{name_parts}
use Rattle.hub_path.specs.Path.{Name, Path, name_eq, path_eq, name_cmp, path_cmp, is_forbidden, is_name, is_place, is_path, is_over, parent, last_name, text_of, path_of}

-- Names are equal exactly where the test says so.
pub name_eq-decides : (a b : Name) → Decides (name_eq a b) (a ≡ b)
name_eq-decides a b = bytes_eq-Decides a b

-- Two paths have equal names exactly when they are equal.
pub path_eq-decides : (p q : Path) → Decides (path_eq p q) (p ≡ q)
path_eq-decides p q = slice_eq-Decides name_eq-decides p q (path_eq p q) refl

pub path_eq-turned : (p q : Path) → path_eq p q ≡ path_eq q p
path_eq-turned p q =
    same_from_decides (path_eq p q) (path_eq q p) (path_eq-decides p q)
    (Decides-like (path_eq q p) sym sym (path_eq-decides q p))

-- A path that is over another one is continued by it.
pub is_over-rest : (p q : Path) → IsTrue (is_over p q) → q ≡ p ++ drop (length p) q
is_over-rest p q h = (starts_is bytes_eq-Decides q p (is_over p q) refl).0 h

pub is_over-append : (p r : Path) → IsTrue (is_over p (p ++ r))
is_over-append p r = (starts_is bytes_eq-Decides (p ++ r) p (is_over p (p ++ r)) refl).1 r refl

pub is_over-continued : (p q r : Path) → q ≡ p ++ r → IsTrue (is_over p q)
is_over-continued p q r e = (starts_is bytes_eq-Decides q p (is_over p q) refl).1 r e

-- To be over a path is to be a prefix of it.
pub is_over-prefix : (p q : Path) → IsTrue (is_over p q) ↔ ((r : Path) × (q ≡ p ++ r))
is_over-prefix p q =
    (λ h. (drop (length p) q, is_over-rest p q h), λ w. is_over-continued p q w.0 w.1)

pub is_over-reflexive : (p : Path) → IsTrue (is_over p p)
is_over-reflexive p = is_over-continued p p [] (sym (append-nil p))

pub is_over-transitive : (p q r : Path) → IsTrue (is_over p q) → IsTrue (is_over q r)
    → IsTrue (is_over p r)
is_over-transitive p q r h k =
    let e : q ≡ p ++ drop (length p) q = is_over-rest p q h in
    let f : r ≡ q ++ drop (length q) r = is_over-rest q r k in
    is_over-continued p r (drop (length p) q ++ drop (length q) r)
    (f ∙ (ap (λ t. t ++ drop (length q) r) e
    ∙ append_assoc p (drop (length p) q) (drop (length q) r)))

-- A path is no longer than one that it is over.
pub is_over-length : (p q : Path) → IsTrue (is_over p q) → length p ≤ length q
is_over-length p q h =
    omega (arith, ap length (is_over-rest p q h), length-append p (drop (length p) q))

is_over-cons : (n m : Name) (p q : Path) → n ≡ m → IsTrue (is_over p q)
    → IsTrue (is_over (n ∷ p) (m ∷ q))
is_over-cons n m p q e h = rw ((name_eq-decides n m).1 e, h) refl

-- Of two prefixes of one path, one is over the other.
pub is_over-comparable : (a b p : Path) → IsTrue (is_over a p) → IsTrue (is_over b p)
    → IsTrue (is_over a b) ⊎ IsTrue (is_over b a)
is_over-comparable [] b p h k = inl refl
is_over-comparable (n ∷ a) [] p h k = inr refl
is_over-comparable (n ∷ a) (m ∷ b) [] h k = cc
is_over-comparable (n ∷ a) (m ∷ b) (l ∷ p) h k =
    let one = and_parts (name_eq n l) (is_over a p) h in
    let two = and_parts (name_eq m l) (is_over b p) k in
    let e : n ≡ m = (name_eq-decides n l).0 one.0 ∙ sym ((name_eq-decides m l).0 two.0) in
    ⊎_elim (λ over. inl (is_over-cons n m a b e over))
    (λ over. inr (is_over-cons m n b a (sym e) over)) (is_over-comparable a b p one.1 two.1)

pub parent-push : (p : Path) (n : Name) → parent (p ++ n ∷ []) ≡ p
parent-push [] n = refl
parent-push (m ∷ []) n = refl
parent-push (m ∷ k ∷ p) n = ap (λ q. m ∷ q) (parent-push (k ∷ p) n)

pub last_name-push : (p : Path) (n : Name) → last_name (p ++ n ∷ []) ≡ n
last_name-push [] n = refl
last_name-push (m ∷ []) n = refl
last_name-push (m ∷ k ∷ p) n = last_name-push (k ∷ p) n

-- A path is its parent and its last name.
pub parent-last_name : (n : Name) (p : Path) → parent (n ∷ p) ++ last_name (n ∷ p) ∷ [] ≡ n ∷ p
parent-last_name n [] = refl
parent-last_name n (m ∷ p) = ap (λ q. n ∷ q) (parent-last_name m p)

pub is_over-parent : (p : Path) → IsTrue (is_over (parent p) p)
is_over-parent [] = refl
is_over-parent (n ∷ p) = is_over-continued (parent (n ∷ p)) (n ∷ p) (last_name (n ∷ p) ∷ [])
    (sym (parent-last_name n p))

-- What is over a place is a place.
pub is_place-over : (p q : Path) → IsTrue (is_place q) → IsTrue (is_over p q) → IsTrue (is_place p)
is_place-over p q place h =
    let e : q ≡ p ++ drop (length p) q = is_over-rest p q h in
    (and_parts (is_place p) (is_place (drop (length p) q))
    (sym (list_all-append is_name p (drop (length p) q)) ∙ (sym (ap is_place e) ∙ place))).0

pub is_place-push : (p : Path) (n : Name) → IsTrue (is_place p) → IsTrue (is_name n)
    → IsTrue (is_place (p ++ n ∷ []))
is_place-push p n place name = list_all-append is_name p (n ∷ []) ∙ rw (place, name) refl

-- Names and paths are in a total order, and only equal ones tie.
pub name_cmp-total : IsTotalOrder name_cmp
name_cmp-total = nat_list_cmp_total

pub name_cmp-exact : IsAntisymmetric name_cmp
name_cmp-exact = slice_cmp-IsAntisymmetric nat_cmp-IsAntisymmetric

pub path_cmp-total : IsTotalOrder path_cmp
path_cmp-total = lists_total nat_list_cmp_total

pub path_cmp-exact : IsAntisymmetric path_cmp
path_cmp-exact = slice_cmp-IsAntisymmetric name_cmp-exact

-- A path comes before each other path that it is over.
pub path_cmp-over : (p q : Path) → IsTrue (is_over p q) → p ≢ q → path_cmp p q ≡ Less
path_cmp-over [] [] h other = absurd (other refl)
path_cmp-over [] (m ∷ q) h other = refl
path_cmp-over (n ∷ p) [] h other = cc
path_cmp-over (n ∷ p) (m ∷ q) h other =
    let heads = and_parts (name_eq n m) (is_over p q) h in
    let e : n ≡ m = (name_eq-decides n m).0 heads.0 in
    let tied : name_cmp n m ≡ Equal =
    subst (λ (k : Name). name_cmp n k ≡ Equal) e (tied_itself name_cmp-total n) in
    rw tied (path_cmp-over p q heads.1 (λ same. other (ap (λ t. n ∷ t) same ∙ ap (λ k. k ∷ q) e)))

-- The text of the names of a text is the text.
pub text_of-path_of : (cs : List ℕ) → text_of (path_of cs) ≡ cs
text_of-path_of cs = join_with_byte-slice_split 47 cs

abbrev pub is_no_slash : ℕ → Bool
is_no_slash c = not (c == 47)

last_of_four : (a b c d : Bool) → not (a || b || c || d) ≡ true → not d ≡ true
last_of_four a b c true h =
    elim a as (λ x. not (x || b || c || true) ≡ true → false ≡ true) [
      | true ↦ λ k. k
      | false ↦ elim b as (λ x. not (false || x || c || true) ≡ true → false ≡ true) [
        | true ↦ λ k. k
        | false ↦ elim c as (λ x. not (false || false || x || true) ≡ true → false ≡ true)
            [ true ↦ λ k. k | false ↦ λ k. k ]
      ]
    ] h
last_of_four a b c false h = refl

all_apart : (n : Name) → list_all (λ c. not (is_forbidden c)) n ≡ true
    → list_all is_no_slash n ≡ true
all_apart [] h = refl
all_apart (c ∷ n) h =
    let passed = and_parts (not (is_forbidden c)) (list_all (λ d. not (is_forbidden d)) n) h in
    rw (last_of_four (c == 0) (c == 10) (c == 13) (c == 47) passed.0, all_apart n passed.1) refl

-- A name has no slash.
pub name-apart : (n : Name) → IsTrue (is_name n) → list_all is_no_slash n ≡ true
name-apart n h = all_apart n (name_parts n h).allowed

not_cut : (t : Bool) (c : ℕ) (ps qs : List (List ℕ)) → not t ≡ true
    → cond t ps (onto_first c qs) ≡ onto_first c qs
not_cut true c ps qs h = cc
not_cut false c ps qs h = refl

path_of-name : (n : Name) → list_all is_no_slash n ≡ true → path_of n ≡ n ∷ []
path_of-name [] h = refl
path_of-name (c ∷ n) h =
    let passed = and_parts (is_no_slash c) (list_all is_no_slash n) h in
    not_cut (c == 47) c _ _ passed.0 ∙ ap (onto_first c) (path_of-name n passed.1)

pub path_of-front : (n : Name) (cs : List ℕ) → list_all is_no_slash n ≡ true
    → path_of (n ++ 47 ∷ cs) ≡ n ∷ path_of cs
path_of-front [] cs h = refl
path_of-front (c ∷ n) cs h =
    let passed = and_parts (is_no_slash c) (list_all is_no_slash n) h in
    not_cut (c == 47) c _ _ passed.0 ∙ ap (onto_first c) (path_of-front n cs passed.1)

path_of-text_of-cons : (n : Name) (p : Path) → IsTrue (is_place (n ∷ p))
    → path_of (text_of (n ∷ p)) ≡ n ∷ p
path_of-text_of-cons n [] h = path_of-name n (name-apart n (and_parts (is_name n) true h).0)
path_of-text_of-cons n (m ∷ p) h =
    let names = and_parts (is_name n) (is_place (m ∷ p)) h in
    path_of-front n (text_of (m ∷ p)) (name-apart n names.0)
    ∙ ap (λ q. n ∷ q) (path_of-text_of-cons m p names.1)

-- The names of the text of a path are the path.
pub path_of-text_of : (p : Path) → IsTrue (is_path p) → path_of (text_of p) ≡ p
path_of-text_of [] h = cc
path_of-text_of (n ∷ p) h = path_of-text_of-cons n p
    (and_parts (not (length (n ∷ p) == 0)) (is_place (n ∷ p)) h).1

or_fault-Ok : (f : Option PathFault) (x y : Path) → or_fault f x ≡ Ok y → x ≡ y
or_fault-Ok None x y h = cc
or_fault-Ok (Some e) x y h = cc

or_fault-None : (f : Option PathFault) (x y : Path) → or_fault f x ≡ Ok y → f ≡ None
or_fault-None None x y h = refl
or_fault-None (Some e) x y h = cc

-- What is read of a text has that text.
pub text_of-read : (cs : List ℕ) (p : Path) → path_reading cs ≡ Ok p → text_of p ≡ cs
text_of-read cs p h = ap text_of (sym (or_fault-Ok (path_fault cs) (path_of cs) p h))
    ∙ text_of-path_of cs

text_of-place_of : (cs : List ℕ) → text_of (place_of cs) ≡ cs
text_of-place_of [] = refl
text_of-place_of (c ∷ cs) =
    let some : (length (c ∷ cs) == 0) ≡ false = grind (arith, nat_tests) in
    rw some (text_of-path_of (c ∷ cs))

-- What is read of a root's text has that text, less the slash before it and one slash after it.
pub text_of-root_read : (cs : List ℕ) (r : Path) → root_reading cs ≡ Ok r
    → text_of r ≡ without_last_slash (drop 1 cs)
text_of-root_read cs r h = ap text_of (sym (or_fault-Ok (root_fault cs) (root_names cs) r h))
    ∙ text_of-place_of (without_last_slash (drop 1 cs))

begins : (cs : List ℕ) → begins_with_slash cs ≡ true → cs ≡ 47 ∷ drop 1 cs
begins cs h = (starts_is Decides-eqb cs (47 ∷ []) (begins_with_slash cs) refl).0 h

not_false : (a b c : Bool) (e f g : PathFault) (rest : Option PathFault)
    → cond a (Some e) (cond b (Some f) (cond (not c) (Some g) rest)) ≡ None → c ≡ true
not_false true b c e f g rest h = cc
not_false false true c e f g rest h = cc
not_false false false true e f g rest h = refl
not_false false false false e f g rest h = cc

-- A root begins with a slash.
pub root_read-slash : (cs : List ℕ) (r : Path) → root_reading cs ≡ Ok r → cs ≡ 47 ∷ drop 1 cs
root_read-slash cs r h =
    begins cs (not_false (length cs == 0) (is_remote cs) (begins_with_slash cs)
    Empty RemoteRoot NotAbsolute (names_fault 0 (root_names cs))
    (or_fault-None (root_fault cs) (root_names cs) r h))

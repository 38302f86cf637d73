-- Two lists of children are the same replica exactly where they have the same names, and the same nodes at them.
use Rattle.std.proofs.Common.{◌≡◌, ℕ, Bool, true, false, cond, List, [], ◌∷◌, Option, Some, None, refl, ap, sym, ◌∙◌, subst}
use Rattle.std.specs.FinMap as fin
use Rattle.std.specs.Prelude.{IsTrue, ◌↔◌}
use Rattle.std.specs.Str.{bytes_eq}
use Rattle.std.proofs.lemmas.Slice.Eq.{bytes_eq-Decides}
use Rattle.std.specs.FinMap.Entries.{find}
use Rattle.std.specs.List.{AllByRecursion}
use Rattle.std.specs.List.Sorted.{IsStrictlySortedBy}
use Rattle.std.specs.Map.{keys_of}
use Rattle.std.specs.Option.{option_and_then, unwrap_or}
use Rattle.std.specs.Ordering.{eq_by_cmp, ordering_reverse}
use Rattle.std.specs.declared.cmp.Ordering.TheVariants.{Less, Greater}
use Rattle.std.proofs.lemmas.Bool.{false≢true}
use Rattle.std.proofs.lemmas.Option.{same_Some}
use Rattle.std.proofs.lemmas.Map.Keys.{sorted_head, sorted_tail}
use Rattle.hub_path.specs.Path.{Name, Path, name_cmp}
use Rattle.hub_tree.specs.Nodes.{replica_of, kids_of, node_get, contents_of, AreSame}
use Rattle.hub_tree.specs.Tree.{Replica, bytes_of}
use Rattle.hub_tree.specs.declared.contents.Contents.{Contents}
use Rattle.hub_tree.specs.declared.contents.Contents.TheVariants as contents
use Rattle.hub_tree.specs.declared.node.Node.{Node}
use Rattle.hub_tree.proofs.LookUp.{look_up, get_top}
use Rattle.hub_tree.specs.laws.Order.{name_total, path_total, path_antisymmetric, same_name, name_itself}
use Rattle.hub_tree.proofs.Paths.{above_none}

abbrev pub Children : Type 0
Children = List (Name × Node)

abbrev pub IsAscending : List (Name × Node) → Type 0
IsAscending cs = IsStrictlySortedBy name_cmp (keys_of cs)

-- What is at a path below several children, of which one is the first.
at_first : (n k : Name) (p : Path) (x : Node) (cs : Children) (b : Bool) → eq_by_cmp name_cmp k n ≡ b
    → fin.get (replica_of ((n, x) ∷ cs)) (k ∷ p) ≡ option_and_then (node_get p) (cond b (Some x) (find name_cmp k cs))
at_first n k p x cs b e = look_up ((n, x) ∷ cs) k p ∙ ap (λ t. option_and_then (node_get p) (cond t (Some x) (find name_cmp k cs))) e

at_head : (n : Name) (p : Path) (x : Node) (cs : Children) → fin.get (replica_of ((n, x) ∷ cs)) (n ∷ p) ≡ node_get p x
at_head n p x cs = at_first n n p x cs true (name_itself n)

at_other : (n k : Name) (p : Path) (x : Node) (cs : Children) → eq_by_cmp name_cmp k n ≡ false → fin.get (replica_of ((n, x) ∷ cs)) (k ∷ p) ≡ fin.get (replica_of cs) (k ∷ p)
at_other n k p x cs e = at_first n k p x cs false e ∙ sym (look_up cs k p)

-- A name that was first isn't among the others.
gone : (n k : Name) (p : Path) (x : Node) (cs : Children) → IsAscending ((n, x) ∷ cs) → eq_by_cmp name_cmp k n ≡ true → fin.get (replica_of cs) (k ∷ p) ≡ None
gone n k p x cs h e =
    look_up cs k p
    ∙ ap (option_and_then (node_get p)) (ap (λ m. find name_cmp m cs) (same_name k n e) ∙ above_none n cs (sorted_head name_cmp n (keys_of cs) h))

-- Equal nodes have the same at each path.
node_same : (x y : Node) → AreSame x y → (p : Path) → node_get p x ≡ node_get p y
node_same x y h [] = ap (λ (c : Contents). Some c) h.0
node_same x y h (m ∷ p) = ap (λ (r : Replica). fin.get r (m ∷ p)) h.1

-- One child less on both sides.
module _ (n : Name) (x y : Node) (cs ds : List (Name × Node)) (h : IsAscending ((n, x) ∷ cs)) (k : IsAscending ((n, y) ∷ ds)) where
  pub same_heads : replica_of ((n, x) ∷ cs) ≡ replica_of ((n, y) ∷ ds) → AreSame x y
  same_heads e = (
    same_Some (contents_of x) (contents_of y) (at []),
    fin.same_map path_total path_antisymmetric (replica_of (kids_of x)) (replica_of (kids_of y)) below,
  )
    where
      at : (p : Path) → node_get p x ≡ node_get p y
      at p = sym (at_head n p x cs) ∙ ap (λ (r : Replica). fin.get r (n ∷ p)) e ∙ at_head n p y ds

      below : (q : Path) → fin.get (replica_of (kids_of x)) q ≡ fin.get (replica_of (kids_of y)) q
      below [] = get_top (kids_of x) ∙ sym (get_top (kids_of y))
      below (m ∷ q) = at (m ∷ q)

  pub same_tails : replica_of ((n, x) ∷ cs) ≡ replica_of ((n, y) ∷ ds) → replica_of cs ≡ replica_of ds
  same_tails e = fin.same_map path_total path_antisymmetric (replica_of cs) (replica_of ds) at
    where
      by : (m : Name) (p : Path) (b : Bool) → eq_by_cmp name_cmp m n ≡ b → fin.get (replica_of cs) (m ∷ p) ≡ fin.get (replica_of ds) (m ∷ p)
      by m p true f = gone n m p x cs h f ∙ sym (gone n m p y ds k f)
      by m p false f = sym (at_other n m p x cs f) ∙ ap (λ (r : Replica). fin.get r (m ∷ p)) e ∙ at_other n m p y ds f

      at : (q : Path) → fin.get (replica_of cs) q ≡ fin.get (replica_of ds) q
      at [] = get_top cs ∙ sym (get_top ds)
      at (m ∷ p) = by m p (eq_by_cmp name_cmp m n) refl

  pub same_both : AreSame x y → replica_of cs ≡ replica_of ds → replica_of ((n, x) ∷ cs) ≡ replica_of ((n, y) ∷ ds)
  same_both s e = fin.same_map path_total path_antisymmetric (replica_of ((n, x) ∷ cs)) (replica_of ((n, y) ∷ ds)) at
    where
      by : (m : Name) (p : Path) (b : Bool) → eq_by_cmp name_cmp m n ≡ b → fin.get (replica_of ((n, x) ∷ cs)) (m ∷ p) ≡ fin.get (replica_of ((n, y) ∷ ds)) (m ∷ p)
      by m p true f = at_first n m p x cs true f ∙ node_same x y s p ∙ sym (at_first n m p y ds true f)
      by m p false f = at_other n m p x cs f ∙ ap (λ (r : Replica). fin.get r (m ∷ p)) e ∙ sym (at_other n m p y ds f)

      at : (q : Path) → fin.get (replica_of ((n, x) ∷ cs)) q ≡ fin.get (replica_of ((n, y) ∷ ds)) q
      at [] = get_top ((n, x) ∷ cs) ∙ sym (get_top ((n, y) ∷ ds))
      at (m ∷ p) = by m p (eq_by_cmp name_cmp m n) refl

-- Equal replicas have the same first name.
first_or_later : (n m : Name) (c : Name × Node) (cs : Children) → name_cmp m c.0 ≡ Less → (x : Node) → (find name_cmp n cs ≡ Some x → name_cmp m n ≡ Less)
    → (b : Bool) → eq_by_cmp name_cmp n c.0 ≡ b → cond b (Some c.1) (find name_cmp n cs) ≡ Some x → name_cmp m n ≡ Less
first_or_later n m c cs h x rest true f g = ap (name_cmp m) (same_name n c.0 f) ∙ h
first_or_later n m c cs h x rest false f g = rest g

found_later : (n m : Name) (cs : Children) → AllByRecursion (λ k. name_cmp m k ≡ Less) (keys_of cs) → (x : Node) → find name_cmp n cs ≡ Some x → name_cmp m n ≡ Less
found_later n m [] h x e = cc
found_later n m (c ∷ cs) h x e = first_or_later n m c cs h.0 x (λ f. found_later n m cs h.1 x f) (eq_by_cmp name_cmp n c.0) refl e

some_through : (o : Option Node) (c : Contents) → option_and_then (node_get []) o ≡ Some c → (x : Node) × (o ≡ Some x)
some_through None c e = cc
some_through (Some x) c e = (x, refl)

-- A name that is first in one replica, and not in an equal one, comes later there.
comes_later : (n m : Name) (x y : Node) (cs ds : Children) → IsAscending ((m, y) ∷ ds) → replica_of ((n, x) ∷ cs) ≡ replica_of ((m, y) ∷ ds) → eq_by_cmp name_cmp n m ≡ false → name_cmp m n ≡ Less
comes_later n m x y cs ds h e f =
    let there : option_and_then (node_get []) (find name_cmp n ds) ≡ Some (contents_of x)
    = sym (at_first m n [] y ds false f) ∙ sym (ap (λ (r : Replica). fin.get r (n ∷ [])) e) ∙ at_head n [] x cs in
    let w = some_through (find name_cmp n ds) (contents_of x) there in
    found_later n m ds (sorted_head name_cmp m (keys_of ds) h) w.0 w.1

not_both_names : (m n : Name) → name_cmp m n ≡ Less → name_cmp n m ≡ Less → ⊥
not_both_names m n e f =
    let w : Greater ≡ Less = sym (ap ordering_reverse e) ∙ sym (name_total.antisymm n m) ∙ f in cc

turned_test : (m n : Name) → eq_by_cmp name_cmp n m ≡ false → eq_by_cmp name_cmp m n ≡ false
turned_test m n e = by (eq_by_cmp name_cmp m n) refl
  where
    by : (b : Bool) → eq_by_cmp name_cmp m n ≡ b → b ≡ false
    by true f = absurd (false≢true (sym e ∙ ap (eq_by_cmp name_cmp n) (same_name m n f) ∙ name_itself n))
    by false f = refl

pub first_names : (n m : Name) (x y : Node) (cs ds : Children) → IsAscending ((n, x) ∷ cs) → IsAscending ((m, y) ∷ ds) → replica_of ((n, x) ∷ cs) ≡ replica_of ((m, y) ∷ ds) → eq_by_cmp name_cmp n m ≡ true
first_names n m x y cs ds h k e = by (eq_by_cmp name_cmp n m) refl
  where
    by : (b : Bool) → eq_by_cmp name_cmp n m ≡ b → b ≡ true
    by true f = refl
    by false f =
        absurd (not_both_names m n (comes_later n m x y cs ds k e f) (comes_later m n y x ds cs h (sym e) (turned_test m n f)))

pub none_left : (m : Name) (y : Node) (ds : Children) → replica_of [] ≡ replica_of ((m, y) ∷ ds) → ⊥
none_left m y ds e =
    let w : None ≡ Some (contents_of y) = sym (look_up [] m []) ∙ ap (λ (r : Replica). fin.get r (m ∷ [])) e ∙ at_head m [] y ds in cc

-- How far two lists were compared: what is left is the same exactly where the whole is.
pub record IsSoFar (all others left rest : List (Name × Node)) : Type 0 where
  pub ascends : IsAscending left
  pub too : IsAscending rest
  pub then : replica_of all ≡ replica_of others → replica_of left ≡ replica_of rest
  pub back : replica_of left ≡ replica_of rest → replica_of all ≡ replica_of others

tail_of : (n : Name) (x : Node) (cs : Children) → IsAscending ((n, x) ∷ cs) → IsAscending cs
tail_of n x cs h = sorted_tail name_cmp n (keys_of cs) h

pub one_less : (all others left rest cs ds : List (Name × Node)) (n m : Name) (x y : Node) → IsSoFar all others left rest → left ≡ (n, x) ∷ cs → rest ≡ (m, y) ∷ ds → n ≡ m → AreSame x y → IsSoFar all others cs ds
one_less all others left rest cs ds n m x y so e f same nodes =
    let h : IsAscending ((n, x) ∷ cs) = subst IsAscending e so.ascends in
    let is : rest ≡ (n, y) ∷ ds = f ∙ ap (λ (k : Name). (k, y) ∷ ds) (sym same) in
    let k : IsAscending ((n, y) ∷ ds) = subst IsAscending is so.too in
    record {
      ascends = tail_of n x cs h;
      too = tail_of n y ds k;
      then = λ g. same_tails n x y cs ds h k (sym (ap replica_of e) ∙ so.then g ∙ ap replica_of is);
      back = λ g. so.back (ap replica_of e ∙ same_both n x y cs ds h k nodes g ∙ sym (ap replica_of is));
    }

-- Where they differ.
pub other_names : (all others left rest cs ds : List (Name × Node)) (n m : Name) (x y : Node) → IsSoFar all others left rest → left ≡ (n, x) ∷ cs → rest ≡ (m, y) ∷ ds → (n ≡ m → ⊥) → replica_of all ≡ replica_of others → ⊥
other_names all others left rest cs ds n m x y so e f other g =
    other (same_name n m (first_names n m x y cs ds (subst IsAscending e so.ascends) (subst IsAscending f so.too) (sym (ap replica_of e) ∙ so.then g ∙ ap replica_of f)))

pub other_nodes : (all others left rest cs ds : List (Name × Node)) (n m : Name) (x y : Node) → IsSoFar all others left rest → left ≡ (n, x) ∷ cs → rest ≡ (m, y) ∷ ds → n ≡ m → (AreSame x y → ⊥) → replica_of all ≡ replica_of others → ⊥
other_nodes all others left rest cs ds n m x y so e f same other g =
    let is : rest ≡ (n, y) ∷ ds = f ∙ ap (λ (k : Name). (k, y) ∷ ds) (sym same) in
    other (same_heads n x y cs ds (subst IsAscending e so.ascends) (subst IsAscending is so.too) (sym (ap replica_of e) ∙ so.then g ∙ ap replica_of is))

pub too_few : (all others left rest cs : List (Name × Node)) (n : Name) (x : Node) → IsSoFar all others left rest → left ≡ (n, x) ∷ cs → rest ≡ [] → replica_of all ≡ replica_of others → ⊥
too_few all others left rest cs n x so e f g = none_left n x cs (sym (sym (ap replica_of e) ∙ so.then g ∙ ap replica_of f))

pub too_many : (all others left rest ds : List (Name × Node)) (m : Name) (y : Node) → IsSoFar all others left rest → left ≡ [] → rest ≡ (m, y) ∷ ds → replica_of all ≡ replica_of others → ⊥
too_many all others left rest ds m y so e f g = none_left m y ds (sym (ap replica_of e) ∙ so.then g ∙ ap replica_of f)

pub all_same : (all others left rest : List (Name × Node)) → IsSoFar all others left rest → left ≡ [] → rest ≡ [] → replica_of all ≡ replica_of others
all_same all others left rest so e f = so.back (ap replica_of e ∙ sym (ap replica_of f))

-- Two nodes of which it is known what they are.
file_bytes : (a b : List ℕ) → contents.File a ≡ contents.File b → a ≡ b
file_bytes a b e = ap (λ (c : Contents). unwrap_or (bytes_of c) []) e

pub files_alike : (x y : Node) (a b : List ℕ) (r : Bool) → contents_of x ≡ contents.File a → contents_of y ≡ contents.File b → kids_of x ≡ [] → kids_of y ≡ [] → r ≡ bytes_eq a b → IsTrue r ↔ AreSame x y
files_alike x y a b r e f k l h = (
  λ t. (e ∙ ap contents.File ((bytes_eq-Decides a b).0 (sym h ∙ t)) ∙ sym f, ap replica_of (k ∙ sym l)),
  λ s. h ∙ (bytes_eq-Decides a b).1 (file_bytes a b (sym e ∙ s.0 ∙ f)),
)

pub directories_alike : (x y : Node) (cs ds : List (Name × Node)) (r : Bool) → contents_of x ≡ contents.Directory → contents_of y ≡ contents.Directory → kids_of x ≡ cs → kids_of y ≡ ds
    → IsTrue r ↔ (replica_of cs ≡ replica_of ds) → IsTrue r ↔ AreSame x y
directories_alike x y cs ds r e f k l h = (
  λ t. (e ∙ sym f, ap replica_of k ∙ h.0 t ∙ sym (ap replica_of l)),
  λ s. h.1 (sym (ap replica_of k) ∙ s.1 ∙ ap replica_of l),
)

pub file_or_directory : (x y : Node) (a : List ℕ) → contents_of x ≡ contents.File a → contents_of y ≡ contents.Directory → contents_of x ≡ contents_of y → ⊥
file_or_directory x y a e f s = let w : contents.File a ≡ contents.Directory = sym e ∙ s ∙ f in cc

-- What one more character makes of the names of a text, which prefixes a path has, and what holds of
-- all characters of a text.
use Rattle.std.proofs.Common.{◌≡◌, ◌==◌, cond, ℕ, Bool, true, false, ◌&&◌, List, [], ◌∷◌, ◌++◌, ◌<◌, length, map, refl, sym, ap, ◌∙◌, arith, append_assoc}
use Rattle.std.specs.List.{list_all, list_any, onto_first}
use Rattle.std.specs.Str.{all_scalars}
use Rattle.std.proofs.lemmas.Bool.{and_from, and_parts}
use Rattle.std.proofs.lemmas.List.Folds.{list_all-append}
use lib.Utf8.{scalar}
use Rattle.hub_text.specs.laws.Test.{any-map, or-then}
use Rattle.hub_path.specs.Path.{Name, Path, name_eq, is_name, is_place, is_over, parent, last_name, prefixes, path_of, text_of}
use Rattle.hub_path.specs.laws.NameFacts.{name_parts}
use Rattle.hub_path.specs.laws.General.{parent-last_name, parent-push, is_over-append, name_eq-decides}

abbrev cut : Bool → ℕ → List Name → List Name
cut slash c ns = cond slash ([] ∷ ns) (onto_first c ns)

-- There is always a first name, which may be empty.
record Nonempty (ns : List Name) : Type 0 where
  first : Name
  rest : List Name
  are : ns ≡ first ∷ rest

cut-nonempty : (slash : Bool) (c : ℕ) (ns : List Name) → Nonempty ns → Nonempty (cut slash c ns)
cut-nonempty true c ns h = record { first = []; rest = ns; are = refl }
cut-nonempty false c ns h =
    record { first = c ∷ h.first; rest = h.rest; are = ap (onto_first c) h.are }

names : (t : List ℕ) → Nonempty (path_of t)
names [] = record { first = []; rest = []; are = refl }
names (c ∷ t) = cut-nonempty (c == 47) c (path_of t) (names t)

-- A `/` begins a new name.
cut-slash : (slash : Bool) (d : ℕ) (ns : List Name) → Nonempty ns
    → cut slash d (ns ++ [] ∷ []) ≡ cut slash d ns ++ [] ∷ []
cut-slash true d ns h = refl
cut-slash false d ns h = rw h.are refl

pub path_of-slash : (t : List ℕ) → path_of (t ++ 47 ∷ []) ≡ path_of t ++ [] ∷ []
path_of-slash [] = refl
path_of-slash (d ∷ t) =
    ap (cut (d == 47) d) (path_of-slash t) ∙ cut-slash (d == 47) d (path_of t) (names t)

-- Another character stands at the end of the last name.
abbrev pub longer : Path → ℕ → Path
longer p c = parent p ++ (last_name p ++ c ∷ []) ∷ []

cut-longer : (slash : Bool) (d c : ℕ) (ns : List Name) → Nonempty ns
    → cut slash d (longer ns c) ≡ longer (cut slash d ns) c
cut-longer true d c ns h = rw h.are refl
cut-longer false d c ns h = rw h.are (in_first h.first h.rest)
  where
    in_first : (n : Name) (ns : List Name)
        → onto_first d (longer (n ∷ ns) c) ≡ longer ((d ∷ n) ∷ ns) c
    in_first n [] = refl
    in_first n (m ∷ ns) = refl

pub path_of-longer : (t : List ℕ) (c : ℕ) → (c == 47) ≡ false
    → path_of (t ++ c ∷ []) ≡ longer (path_of t) c
path_of-longer [] c h = rw h refl
path_of-longer (d ∷ t) c h =
    ap (cut (d == 47) d) (path_of-longer t c h) ∙ cut-longer (d == 47) d c (path_of t) (names t)

-- The names of a text are its parent's and its last one.
pub path_of-parts : (t : List ℕ) → parent (path_of t) ++ last_name (path_of t) ∷ [] ≡ path_of t
path_of-parts t = let h = names t in rw h.are (parent-last_name h.first h.rest)

-- The prefixes of a path with one more name.
map_append : (m : Name) (qs : List Path) (q : Path)
    → map (λ r. m ∷ r) (qs ++ q ∷ []) ≡ map (λ r. m ∷ r) qs ++ (m ∷ q) ∷ []
map_append m [] q = refl
map_append m (r ∷ qs) q = ap (λ rs. (m ∷ r) ∷ rs) (map_append m qs q)

pub prefixes-push : (p : Path) (n : Name)
    → prefixes (p ++ n ∷ []) ≡ prefixes p ++ (p ++ n ∷ []) ∷ []
prefixes-push [] n = refl
prefixes-push (m ∷ p) n =
    ap (λ qs. (m ∷ []) ∷ map (λ q. m ∷ q) qs) (prefixes-push p n)
    ∙ ap (λ qs. (m ∷ []) ∷ qs) (map_append m (prefixes p) (p ++ n ∷ []))

-- The prefixes of a nonempty path are those of its parent, and itself.
pub prefixes-parent : (n : Name) (p : Path)
    → prefixes (n ∷ p) ≡ prefixes (parent (n ∷ p)) ++ (n ∷ p) ∷ []
prefixes-parent n p =
    ap prefixes (sym (parent-last_name n p)) ∙ prefixes-push (parent (n ∷ p)) (last_name (n ∷ p))
    ∙ ap (λ q. prefixes (parent (n ∷ p)) ++ q ∷ []) (parent-last_name n p)

-- The folders of a text, which are its parts that end before a `/`: a `/` adds the path that the
-- text was.
pub folders-slash : (t : List ℕ) → prefixes (parent (path_of (t ++ 47 ∷ [])))
    ≡ prefixes (parent (path_of t)) ++ path_of t ∷ []
folders-slash t =
    ap (λ p. prefixes (parent p)) (path_of-slash t) ∙ ap prefixes (parent-push (path_of t) [])
    ∙ (let h = names t in rw h.are (prefixes-parent h.first h.rest))

pub folders-longer : (t : List ℕ) (c : ℕ) → (c == 47) ≡ false
    → prefixes (parent (path_of (t ++ c ∷ []))) ≡ prefixes (parent (path_of t))
folders-longer t c h =
    ap (λ p. prefixes (parent p)) (path_of-longer t c h)
    ∙ ap prefixes (parent-push (parent (path_of t)) (last_name (path_of t) ++ c ∷ []))

-- Each prefix of a path is over it.
all_map : (f : Path → Bool) (g : Path → Path) (qs : List Path)
    → list_all f (map g qs) ≡ list_all (λ q. f (g q)) qs
all_map f g [] = refl
all_map f g (q ∷ qs) = ap (λ b. f (g q) && b) (all_map f g qs)

pub prefixes-over : (p : Path) → list_all (λ q. is_over q p) (prefixes p) ≡ true
prefixes-over [] = refl
prefixes-over (n ∷ p) =
    let same : name_eq n n ≡ true = (name_eq-decides n n).1 refl in
    and_from _ _ (is_over-append (n ∷ []) p)
    (all_map (λ q. is_over q (n ∷ p)) (λ q. n ∷ q) (prefixes p)
    ∙ (ap (λ b. list_all (λ q. b && is_over q p) (prefixes p)) same ∙ prefixes-over p))

-- What some prefix of a path passes, some prefix of a longer one does.
pub any-prefixes : (f : Path → Bool) (p q : Path) → list_any f (prefixes p) ≡ true
    → list_any f (prefixes (p ++ q)) ≡ true
any-prefixes f [] q h = cc
any-prefixes f (n ∷ p) q h =
    or-then (f (n ∷ [])) (list_any f (map (λ r. n ∷ r) (prefixes p)))
    (list_any f (map (λ r. n ∷ r) (prefixes (p ++ q)))) h
    (λ e. sym (any-map f (λ r. n ∷ r) (prefixes (p ++ q)))
    ∙ any-prefixes (λ r. f (n ∷ r)) p q (any-map f (λ r. n ∷ r) (prefixes p) ∙ e))

-- A test on all characters of a text by those of its names.
pub joined-pass : (f : ℕ → Bool) → f 47 ≡ true
    → ((n : Name) → is_name n ≡ true → list_all f n ≡ true) → (p : Path) → is_place p ≡ true
    → list_all f (text_of p) ≡ true
joined-pass f slash names [] h = refl
joined-pass f slash names (n ∷ []) h = names n (and_parts (is_name n) true h).0
joined-pass f slash names (n ∷ m ∷ p) h =
    let parts = and_parts (is_name n) (is_place (m ∷ p)) h in
    list_all-append f n (47 ∷ text_of (m ∷ p))
    ∙ and_from (list_all f n) (list_all f (47 ∷ text_of (m ∷ p))) (names n parts.0)
    (and_from (f 47) (list_all f (text_of (m ∷ p))) slash
    (joined-pass f slash names (m ∷ p) parts.1))

-- The characters of a path's text are Unicode scalar values.
scalars-all : (cs : List ℕ) → all_scalars cs ≡ list_all scalar cs
scalars-all [] = refl
scalars-all (c ∷ cs) = ap (λ b. scalar c && b) (scalars-all cs)

pub scalars-text : (p : Path) → is_place p ≡ true → all_scalars (text_of p) ≡ true
scalars-text p h =
    scalars-all (text_of p)
    ∙ joined-pass scalar refl (λ n k. sym (scalars-all n) ∙ (name_parts n k).scalars) p h

-- The text of a path with one more name.
pub text_of-push : (ns : Path) (n : Name) → 0 < length ns
    → text_of (ns ++ n ∷ []) ≡ text_of ns ++ 47 ∷ n
text_of-push [] n l = absurd (omega arith)
text_of-push (m ∷ []) n l = refl
text_of-push (m ∷ k ∷ ns) n l =
    ap (λ t. m ++ 47 ∷ t) (text_of-push (k ∷ ns) n (omega arith))
    ∙ sym (append_assoc m (47 ∷ text_of (k ∷ ns)) (47 ∷ n))

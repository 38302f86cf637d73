-- What is matched after the text of a path and a slash.
use Rattle.std.proofs.Common.{◌≡◌, ◌==◌, ◌≤◌, ℕ, Bool, true, false, not, ◌&&◌, ◌||◌, List, [], ◌∷◌, ◌++◌, length, map, refl, sym, ap, ◌∙◌, arith, append-nil, append_assoc, length-append, subst}
use Rattle.std.specs.Prelude.{IsTrue}
use Rattle.std.specs.List.{list_all, list_any}
use Rattle.std.proofs.Math.Bool.{and-false, or-false}
use Rattle.std.proofs.lemmas.Bool.{and_parts}
use Rattle.std.proofs.lemmas.Bool.Decides.{nat_tests}
use Rattle.hub_text.specs.laws.Test.{any-alike, any-false, any-map, or-assoc}
use Rattle.hub_path.specs.Path.{Name, Path, is_over, last_name, prefixes, text_of}
use Rattle.hub_path.specs.laws.General.{is_over-rest}
use Rattle.hub_path.specs.laws.Text.{prefixes-over}
use Rattle.hub_glob.specs.declared.path_spec.Kind.{Kind}
use Rattle.hub_glob.specs.declared.path_spec.Kind.TheVariants as kind
use Rattle.hub_glob.specs.declared.piece.Part.{Part}
use Rattle.hub_glob.specs.declared.piece.Part.TheVariants.{Brace}
use Rattle.hub_glob.specs.declared.piece.Piece.{Piece}
use Rattle.hub_glob.specs.declared.piece.Piece.TheVariants.{Lit}
use Rattle.hub_glob.specs.Glob.{Texts, by_kind, choices, glob, matches, no_more, pieces}
use Rattle.hub_glob.specs.Specification.{Specification}
use Rattle.hub_glob.specs.laws.Choice.{glob_choices}
use Rattle.hub_glob.specs.laws.OneStep.{nonzero}
use Rattle.hub_nested.specs.Lifted.{in_front, just, lifted_spec, literal}

same-number : (c : ℕ) → (c == c) ≡ true
same-number c = grind (arith, nat_tests)

number-same : (a b : ℕ) → (a == b) ≡ true → a ≡ b
number-same a b h = grind (arith, nat_tests)

-- Pieces after a text and a slash match what comes after these.
front-matches : (t : List ℕ) (c : List Piece) (R : Texts) (first : Bool) (u : List ℕ)
    → pieces (literal t ++ Lit 47 ∷ c) R first (t ++ 47 ∷ u) ≡ pieces c R true u
front-matches [] c R first u = refl
front-matches (a ∷ t) c R first u = rw (same-number a) (front-matches t c R (a == 47) u)

-- They match nothing that is as short as the text.
front-short : (t : List ℕ) (c : List Piece) (R : Texts) (first : Bool) (u : List ℕ) → length u ≤ length t
    → pieces (literal t ++ Lit 47 ∷ c) R first u ≡ false
front-short [] c R first [] l = refl
front-short [] c R first (d ∷ u) l = absurd (omega (arith, l))
front-short (a ∷ t) c R first [] l = refl
front-short (a ∷ t) c R first (d ∷ u) l =
    ap (λ b. (d == a) && b) (front-short t c R (d == 47) u (omega (arith, l))) ∙ and-false (d == a)

-- The pieces of a text match it, and nothing longer.
literal-own : (t : List ℕ) (first : Bool) → pieces (literal t) no_more first t ≡ true
literal-own [] first = refl
literal-own (a ∷ t) first = rw (same-number a) (literal-own t (a == 47))

literal-long : (t : List ℕ) (first : Bool) (d : ℕ) (u : List ℕ) → pieces (literal t) no_more first (t ++ d ∷ u) ≡ false
literal-long [] first d u = nonzero (length u)
literal-long (a ∷ t) first d u = ap (λ b. (a == a) && b) (literal-long t (a == 47) d u) ∙ and-false (a == a)

-- The text of a path of two parts.
text-front : (n : Name) (x : Path) (m : Name) (p : Path) → text_of (n ∷ x ++ m ∷ p) ≡ text_of (n ∷ x) ++ 47 ∷ text_of (m ∷ p)
text-front n [] m p = refl
text-front n (k ∷ x) m p =
    ap (λ t. n ++ 47 ∷ t) (text-front k x m p)
    ∙ sym (append_assoc n (47 ∷ text_of (k ∷ x)) (47 ∷ text_of (m ∷ p)))

text-shorter : (q r : Path) → length (text_of q) ≤ length (text_of (q ++ r))
text-shorter [] r = omega arith
text-shorter (n ∷ q) [] = subst (λ p. length (text_of (n ∷ q)) ≤ length (text_of p)) (sym (append-nil (n ∷ q))) (omega arith)
text-shorter (n ∷ q) (m ∷ r) =
    subst (λ t. length (text_of (n ∷ q)) ≤ length t) (sym (text-front n q m r))
    (omega (arith, length-append (text_of (n ∷ q)) (47 ∷ text_of (m ∷ r))))

over-shorter : (q x : Path) → IsTrue (is_over q x) → length (text_of q) ≤ length (text_of x)
over-shorter q x over =
    subst (λ p. length (text_of q) ≤ length (text_of p)) (sym (is_over-rest q x over)) (text-shorter q _)

last-front : (x : Path) (m : Name) (p : Path) → last_name (x ++ m ∷ p) ≡ last_name (m ∷ p)
last-front [] m p = refl
last-front (n ∷ []) m p = refl
last-front (n ∷ k ∷ x) m p = last-front (k ∷ x) m p

-- The paths over a path of two parts.
pub any-both : (f : Path → Bool) (x p : Path)
    → list_any f (prefixes (x ++ p)) ≡ (list_any f (prefixes x) || list_any (λ q. f (x ++ q)) (prefixes p))
any-both f [] p = refl
any-both f (n ∷ x) p =
    ap (λ b. f (n ∷ []) || b)
    (sym (any-map f (λ q. n ∷ q) (prefixes (x ++ p)))
    ∙ (any-both (λ q. f (n ∷ q)) x p
    ∙ ap (λ b. b || list_any (λ q. f (n ∷ (x ++ q))) (prefixes p)) (any-map f (λ q. n ∷ q) (prefixes x))))
    ∙ or-assoc (f (n ∷ [])) (list_any f (map (λ q. n ∷ q) (prefixes x))) (list_any (λ q. f (n ∷ (x ++ q))) (prefixes p))

pub none-where : {X : Type 0} (h f : X → Bool) (xs : List X) → list_all h xs ≡ true
    → ((x : X) → h x ≡ true → f x ≡ false) → list_any f xs ≡ false
none-where h f [] all none = refl
none-where h f (x ∷ xs) all none =
    let parts = and_parts (h x) (list_all h xs) all in
    (λ i. none x parts.0 i || none-where h f xs parts.1 none i)

pub prefixes-alike : (f g : Path → Bool) (p : Path) → ((m : Name) (q : Path) → f (m ∷ q) ≡ g (m ∷ q))
    → list_any f (prefixes p) ≡ list_any g (prefixes p)
prefixes-alike f g [] same = refl
prefixes-alike f g (n ∷ p) same =
    let rest : list_any f (map (λ q. n ∷ q) (prefixes p)) ≡ list_any g (map (λ q. n ∷ q) (prefixes p)) =
    sym (any-map f (λ q. n ∷ q) (prefixes p))
    ∙ (any-alike (λ q. f (n ∷ q)) (λ q. g (n ∷ q)) (prefixes p) (λ q. same n q)
    ∙ any-map g (λ q. n ∷ q) (prefixes p)) in
    (λ i. same n [] i || rest i)

-- The pattern with the text of x and a slash in front of each choice.
abbrev fronted : Path → List Part → List Part
fronted x ps = Brace (map (in_front x) (choices ps)) ∷ []

glob-front : (x : Path) (ps : List Part) (u : List ℕ) → glob (fronted x ps) true (text_of x ++ 47 ∷ u) ≡ glob ps true u
glob-front x ps u =
    sym (any-map (λ c. pieces c no_more true (text_of x ++ 47 ∷ u)) (in_front x) (choices ps))
    ∙ (any-alike (λ c. pieces (in_front x c) no_more true (text_of x ++ 47 ∷ u)) (λ c. pieces c no_more true u) (choices ps)
    (λ c. front-matches (text_of x) c no_more true u)
    ∙ sym (glob_choices ps true u))

glob-short : (x : Path) (ps : List Part) (u : List ℕ) → length u ≤ length (text_of x) → glob (fronted x ps) true u ≡ false
glob-short x ps u short =
    sym (any-map (λ c. pieces c no_more true u) (in_front x) (choices ps))
    ∙ (any-alike (λ c. pieces (in_front x c) no_more true u) (λ c. false) (choices ps)
    (λ c. front-short (text_of x) c no_more true u short)
    ∙ sym (any-false (choices ps)))

glob-text : (n : Name) (x : Path) (ps : List Part) (m : Name) (q : Path)
    → glob (fronted (n ∷ x) ps) true (text_of (n ∷ x ++ m ∷ q)) ≡ glob ps true (text_of (m ∷ q))
glob-text n x ps m q =
    ap (glob (fronted (n ∷ x) ps) true) (text-front n x m q) ∙ glob-front (n ∷ x) ps (text_of (m ∷ q))

abbrev spec : Kind → List Part → Specification
spec k ps = record { kind = k; pattern = ps }

matches-some : (k : Kind) (ps : List Part) (m : Name) (p : Path) → matches (spec k ps) (m ∷ p) ≡ by_kind k ps (m ∷ p)
unfolding matches
matches-some k ps m p = ap (λ b. not b && by_kind k ps (m ∷ p)) (nonzero (length p))

-- Below x a lifted specification matches what it does from its own root.
lifted-by : (k : Kind) (n : Name) (x : Path) (ps : List Part) (m : Name) (p : Path)
    → matches (lifted_spec (n ∷ x) (spec k ps)) (n ∷ x ++ m ∷ p) ≡ matches (spec k ps) (m ∷ p)
lifted-by kind.Name n x ps m p =
    matches-some kind.Name ps n (x ++ m ∷ p)
    ∙ (ap (glob ps true) (last-front (n ∷ x) m p) ∙ sym (matches-some kind.Name ps m p))
lifted-by kind.Path n x ps m p =
    matches-some kind.Path (fronted (n ∷ x) ps) n (x ++ m ∷ p)
    ∙ (glob-text n x ps m p ∙ sym (matches-some kind.Path ps m p))
lifted-by kind.BelowPath n x ps m p =
    let f : Path → Bool = λ q. glob (fronted (n ∷ x) ps) true (text_of q) in
    let above : list_any f (prefixes (n ∷ x)) ≡ false =
    none-where (λ q. is_over q (n ∷ x)) f (prefixes (n ∷ x)) (prefixes-over (n ∷ x))
    (λ q over. glob-short (n ∷ x) ps (text_of q) (over-shorter q (n ∷ x) over)) in
    matches-some kind.BelowPath (fronted (n ∷ x) ps) n (x ++ m ∷ p)
    ∙ (any-both f (n ∷ x) (m ∷ p)
    ∙ (ap (λ b. b || list_any (λ q. f ((n ∷ x) ++ q)) (prefixes (m ∷ p))) above
    ∙ (prefixes-alike (λ q. f ((n ∷ x) ++ q)) (λ q. glob ps true (text_of q)) (m ∷ p) (glob-text n x ps)
    ∙ sym (matches-some kind.BelowPath ps m p))))

pub lifted-matches : (n : Name) (x : Path) (s : Specification) (m : Name) (p : Path)
    → matches (lifted_spec (n ∷ x) s) (n ∷ x ++ m ∷ p) ≡ matches s (m ∷ p)
lifted-matches n x s m p = lifted-by s.kind n x s.pattern m p

-- The specification of x alone matches x, and nothing below it.
pub just-own : (n : Name) (x : Path) → matches (just (n ∷ x)) (n ∷ x) ≡ true
just-own n x =
    matches-some kind.Path (Brace (literal (text_of (n ∷ x)) ∷ []) ∷ []) n x
    ∙ (or-false (pieces (literal (text_of (n ∷ x))) no_more true (text_of (n ∷ x))) ∙ literal-own (text_of (n ∷ x)) true)

pub just-below : (n : Name) (x : Path) (m : Name) (p : Path) → matches (just (n ∷ x)) (n ∷ x ++ m ∷ p) ≡ false
just-below n x m p =
    let t = text_of (n ∷ x) in
    matches-some kind.Path (Brace (literal t ∷ []) ∷ []) n (x ++ m ∷ p)
    ∙ (or-false (pieces (literal t) no_more true (text_of (n ∷ x ++ m ∷ p)))
    ∙ (ap (pieces (literal t) no_more true) (text-front n x m p) ∙ literal-long t true 47 (text_of (m ∷ p))))

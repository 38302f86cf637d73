-- Patterns that begin with other characters than kept values match nothing that is reached.
use Rattle.std.proofs.Common.{◌≡◌, ◌==◌, ⊎_elim, ℕ, Bool, true, false, not, ◌&&◌, ◌||◌, List, [], ◌∷◌, ◌++◌, length, refl, sym, subst, ◌∙◌}
use Rattle.std.specs.Prelude.{IsTrue}
use Rattle.std.proofs.lemmas.Bool.{and_from, and_parts, false≢true}
use Rattle.std.proofs.lemmas.Bool.Decides.{Decides-eqb}
use Rattle.hub_text.specs.laws.Test.{any-weaker, some-of}
use Rattle.hub_path.specs.Path.{Path, is_over, name_eq, prefixes, text_of}
use Rattle.hub_path.specs.laws.General.{is_over-comparable, name_eq-decides}
use Rattle.hub_path.specs.laws.Text.{prefixes-over}
use Rattle.hub_glob.specs.Glob.{by_kind, glob, matches}
use Rattle.hub_glob.specs.Specification.{Specification, is_name_kind}
use Rattle.hub_glob.specs.declared.piece.Piece.TheVariants.{Lit, Any, Run, OneOf}
use Rattle.hub_glob.specs.declared.piece.Part.{Part}
use Rattle.hub_glob.specs.declared.piece.Part.TheVariants.{One, Brace}
use Rattle.hub_glob.specs.declared.path_spec.Kind.{Kind}
use Rattle.hub_glob.specs.declared.path_spec.Kind.TheVariants as kind
use Rattle.hub_profile.specs.Parts.{Parts}
use Rattle.hub_reach.specs.laws.General.{reach-below}
use Rattle.hub_reach.specs.Reach.{reach}
use Rattle.hub_fronts.specs.Fronts.{begins_like, may_meet, may_meet_one}

-- Two texts have the same characters, as far as both go.
abbrev near_text : List ℕ → List ℕ → Bool
near_text [] t = true
near_text (c ∷ u) [] = true
near_text (c ∷ u) (d ∷ t) = c == d && near_text u t

same : (c : ℕ) → (c == c) ≡ true
same c = (Decides-eqb c c).1 refl

near-front : (u t : List ℕ) → near_text u (u ++ t) ≡ true
near-front [] t = refl
near-front (c ∷ u) t = and_from (c == c) (near_text u (u ++ t)) (same c) (near-front u t)

near-self : (u : List ℕ) → near_text u u ≡ true
near-self [] = refl
near-self (c ∷ u) = and_from (c == c) (near_text u u) (same c) (near-self u)

near-turned : (u t : List ℕ) → near_text u t ≡ true → near_text t u ≡ true
near-turned [] [] h = refl
near-turned [] (d ∷ t) h = refl
near-turned (c ∷ u) [] h = refl
near-turned (c ∷ u) (d ∷ t) h =
    let w = and_parts (c == d) (near_text u t) h in
    and_from (d == c) (near_text t u) ((Decides-eqb d c).1 (sym ((Decides-eqb c d).0 w.0)))
    (near-turned u t w.1)

near-join : (n x y : List ℕ) → near_text x y ≡ true → near_text (n ++ x) (n ++ y) ≡ true
near-join [] x y h = h
near-join (c ∷ n) x y h =
    and_from (c == c) (near_text (n ++ x) (n ++ y)) (same c) (near-join n x y h)

-- The text of a path begins with that of each path over it.
over-near : (p q : Path) → IsTrue (is_over p q) → near_text (text_of p) (text_of q) ≡ true
over-near [] q h = refl
over-near (n ∷ p) [] h = cc
over-near (n ∷ []) (m ∷ []) h =
    let w = and_parts (name_eq n m) (is_over [] []) h in
    subst (λ (k : List ℕ). near_text n k ≡ true) ((name_eq-decides n m).0 w.0) (near-self n)
over-near (n ∷ []) (m ∷ k ∷ q) h =
    let w = and_parts (name_eq n m) (is_over [] (k ∷ q)) h in
    subst (λ (l : List ℕ). near_text n (l ++ 47 ∷ text_of (k ∷ q)) ≡ true)
    ((name_eq-decides n m).0 w.0) (near-front n (47 ∷ text_of (k ∷ q)))
over-near (n ∷ l ∷ p) (m ∷ []) h =
    absurd (false≢true (and_parts (name_eq n m) (is_over (l ∷ p) []) h).1)
over-near (n ∷ l ∷ p) (m ∷ k ∷ q) h =
    let w = and_parts (name_eq n m) (is_over (l ∷ p) (k ∷ q)) h in
    let x = text_of (l ∷ p) in
    let y = text_of (k ∷ q) in
    subst (λ (j : List ℕ). near_text (n ++ 47 ∷ x) (j ++ 47 ∷ y) ≡ true)
    ((name_eq-decides n m).0 w.0)
    (near-join n (47 ∷ x) (47 ∷ y) (over-near (l ∷ p) (k ∷ q) w.1))

both-near : (q v p : Path) → IsTrue (is_over q p) → IsTrue (is_over v p)
    → near_text (text_of q) (text_of v) ≡ true
both-near q v p h k =
    ⊎_elim (λ over. over-near q v over)
    (λ over. near-turned (text_of v) (text_of q) (over-near v q over))
    (is_over-comparable q v p h k)

-- What a pattern matches has its literal prefix.
glob-near : (ps : List Part) (first : Bool) (u t : List ℕ) → glob ps first u ≡ true
    → near_text u t ≡ true → begins_like ps t ≡ true
glob-near [] first u t h k = refl
glob-near (Brace cs ∷ ps) first u t h k = refl
glob-near (One Any ∷ ps) first u t h k = refl
glob-near (One Run ∷ ps) first u t h k = refl
glob-near (One (OneOf cs) ∷ ps) first u t h k = refl
glob-near (One (Lit c) ∷ ps) first u [] h k = refl
glob-near (One (Lit c) ∷ ps) first [] (d ∷ t) h k = absurd (false≢true h)
glob-near (One (Lit c) ∷ ps) first (e ∷ u) (d ∷ t) h k =
    let own = and_parts (e == c) (glob ps (e == 47) u) h in
    let near = and_parts (e == d) (near_text u t) k in
    let is : c ≡ d = sym ((Decides-eqb e c).0 own.0) ∙ (Decides-eqb e d).0 near.0 in
    and_from (c == d) (begins_like ps t) ((Decides-eqb c d).1 is)
    (glob-near ps (e == 47) u t own.1 near.1)

-- An item that passes two tests, where all pass the one and some the other.
kind-met : (k : Kind) (ps : List Part) (p v : Path) → by_kind k ps p ≡ true
    → IsTrue (is_over v p) → (is_name_kind k || begins_like ps (text_of v)) ≡ true
kind-met kind.Name ps p v h over = refl
kind-met kind.Path ps p v h over =
    glob-near ps true (text_of p) (text_of v) h
    (near-turned (text_of v) (text_of p) (over-near v p over))
kind-met kind.BelowPath ps p v h over =
    let q = some-of (λ q. is_over q p) (λ q. glob ps true (text_of q)) (prefixes p)
    (prefixes-over p) h in
    glob-near ps true (text_of q.0) (text_of v) q.2 (both-near q.0 v p q.1 over)

met : (s : Specification) (p v : Path) → matches s p ≡ true → IsTrue (is_over v p)
    → may_meet s v ≡ true
unfolding matches
met s p v h over =
    kind-met s.kind s.pattern p v
    (and_parts (not (length p == 0)) (by_kind s.kind s.pattern p) h).1 over

-- Where the literal prefix of a specification differs from each kept value, it matches nothing that
-- is reached.
pub fronts-apart : (P : Parts) (s : Specification) (p : Path) → may_meet_one s P.paths ≡ false
    → IsTrue (reach P p) → matches s p ≡ true → ⊥
fronts-apart P s p apart reached matched =
    false≢true (sym apart
    ∙ any-weaker (λ v. is_over v p) (may_meet s) P.paths (λ v over. met s p v matched over)
    (reach-below P p reached))

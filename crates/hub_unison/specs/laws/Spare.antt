-- What hubsync has a pattern match, Unison matches for certain, or a spare matches it.
use Rattle.std.proofs.Common.{◌≡◌, ◌==◌, ℕ, Bool, true, false, not, ◌&&◌, ◌||◌, List, [], ◌∷◌, ◌++◌, map, length, refl, sym, ap, ◌∙◌, subst}
use Rattle.std.specs.Prelude.{nat_lt, slice_index, flat_map, if◌then◌else◌}
use Rattle.std.specs.List.{list_any, list_all}
use Rattle.std.proofs.lemmas.Bool.{and_parts, and_from, or_right}
use Rattle.std.proofs.Math.Bool.{or-false, and-false}
use Rattle.hub_text.specs.laws.Test.{any-append, any-map, any-or, any-weaker}
use Rattle.hub_glob.specs.declared.piece.Piece.{Piece}
use Rattle.hub_glob.specs.declared.piece.Piece.TheVariants.{Lit, Any, Run, OneOf}
use Rattle.hub_glob.specs.declared.piece.Part.{Part}
use Rattle.hub_glob.specs.Specification.{Specification}
use Rattle.hub_path.specs.Path.{Path}
use Rattle.hub_glob.specs.Glob.{Texts, splits, is_run, piece, pieces, glob, choices, no_more, matches, by_kind}
use Rattle.hub_glob.specs.laws.OneStep.{run_step, run_end, takes_run, nonzero}
use Rattle.hub_glob.specs.laws.Choice.{glob_choices}
use Rattle.hub_unison.specs.Matching.{sure_pieces, sure_text, is_known, is_simple, is_simple_member, is_odd, is_unknown, all_simple, all_known, of_kind, spec_surely}
use Rattle.hub_unison.specs.Spares.{dotted, spares, pattern_spares, is_plain, IsSpare}
use Rattle.hub_unison.specs.laws.Pattern.{by_kind-of, of_kind-weaker, of_kind-or}
use Rattle.hub_unison.specs.laws.Piece.{any-where, all-weaker, same-number, run-mono, member-passes}

no : false ≡ true → ⊥
no i = cc

-- What begins with a dot.
from-run : (k : Texts) (t : List ℕ) → piece Run k true (46 ∷ t) ≡ true → k true (46 ∷ t) ≡ true
from-run k t h = sym (or-false (k true (46 ∷ t))) ∙ (sym (run_step true 46 k t) ∙ h)

abbrev AnyOf : List (List Piece) → Bool → List ℕ → Bool
AnyOf ds first t = list_any (λ d. pieces d no_more first t) ds

dotted-takes : (ps : List Piece) (t : List ℕ) → pieces ps no_more true (46 ∷ t) ≡ true
    → AnyOf (dotted ps) true (46 ∷ t) ≡ true
dotted-takes [] t h = absurd (no (sym (nonzero (length t)) ∙ h))
dotted-takes (Lit c ∷ ps) t h = go (c == 46) refl
  where
    parts : ((46 == c) ≡ true) × (pieces ps no_more false t ≡ true)
    parts = and_parts (46 == c) (pieces ps no_more false t) h

    go : (b : Bool) → (c == 46) ≡ b → AnyOf (if c == 46 then (Lit 46 ∷ ps) ∷ [] else []) true (46 ∷ t) ≡ true
    go true e =
        (λ i. AnyOf (if e i then (Lit 46 ∷ ps) ∷ [] else []) true (46 ∷ t))
        ∙ (or-false (pieces ps no_more false t) ∙ parts.1)
    go false e =
        absurd (no (sym e ∙ subst (λ x. (x == 46) ≡ true) (same-number 46 c parts.0) refl))
dotted-takes (Any ∷ ps) t h = or-false (pieces ps no_more false t) ∙ h
dotted-takes (OneOf cs ∷ ps) t h =
    let parts = and_parts (list_any (λ c. c == 46) cs) (pieces ps no_more false t) h in
    (λ i. AnyOf (if parts.0 i then (Lit 46 ∷ ps) ∷ [] else []) true (46 ∷ t))
    ∙ (or-false (pieces ps no_more false t) ∙ parts.1)
dotted-takes (Run ∷ ps) t h = dotted-takes ps t (from-run (pieces ps no_more) t h)

or-split : (a b c d : Bool) → (a || b) ≡ true → (a ≡ true → c ≡ true) → (b ≡ true → d ≡ true)
    → (c || d) ≡ true
or-split true b c d h u v = ap (λ x. x || d) (u refl)
or-split false b c d h u v = or_right c d (v h)

-- A `*`, where what follows is weaker at this very text, and anywhere behind its start.
run-at : (R S : Texts) (first : Bool) (t : List ℕ) → (R first t ≡ true → S first t ≡ true)
    → ((b : Bool) (u : List ℕ) → b ≡ false → R b u ≡ true → S b u ≡ true)
    → piece Run R first t ≡ true → piece Run S first t ≡ true
run-at R S first [] here there h = run_end first S ∙ here (sym (run_end first R) ∙ h)
run-at R S first (c ∷ t) here there h =
    run_step first c S t
    ∙ or-split (R first (c ∷ t)) (takes_run first c && piece Run R (c == 47) t) (S first (c ∷ t))
    (takes_run first c && piece Run S (c == 47) t) (sym (run_step first c R t) ∙ h) here
    (λ e. later (c == 47) refl e)
  where
    later : (b : Bool) → (c == 47) ≡ b → (takes_run first c && piece Run R (c == 47) t) ≡ true
        → (takes_run first c && piece Run S (c == 47) t) ≡ true
    later true e g =
        absurd (no (sym (ap (λ b. (not b && not (first && c == 46)) && piece Run R (c == 47) t) e) ∙ g))
    later false e g =
        let two = and_parts (takes_run first c) (piece Run R (c == 47) t) g in
        and_from (takes_run first c) (piece Run S (c == 47) t) two.0
        (subst (λ b. piece Run S b t ≡ true) (sym e)
        (run-mono R S false t (λ u. there false u refl) (λ u. there false u refl)
        (subst (λ b. piece Run R b t ≡ true) e two.1)))

run-or : (A B : Texts) (first : Bool) (t : List ℕ)
    → piece Run (λ b u. A b u || B b u) first t ≡ true
    → (piece Run A first t || piece Run B first t) ≡ true
run-or A B first t h =
    any-or (λ s. is_run first s.0 && A (first && length s.0 == 0) s.1)
    (λ s. is_run first s.0 && B (first && length s.0 == 0) s.1) (splits t)
    ∙ any-weaker
    (λ s. is_run first s.0 && (A (first && length s.0 == 0) s.1 || B (first && length s.0 == 0) s.1))
    (λ s. is_run first s.0 && A (first && length s.0 == 0) s.1
    || is_run first s.0 && B (first && length s.0 == 0) s.1) (splits t)
    (λ s. spread (is_run first s.0) (A (first && length s.0 == 0) s.1)
    (B (first && length s.0 == 0) s.1)) h
  where
    spread : (a b c : Bool) → (a && (b || c)) ≡ true → (a && b || a && c) ≡ true
    spread true b c h = h
    spread false b c h = h

-- A `*` before one of some pieces.
run-any : (ds : List (List Piece)) (first : Bool) (t : List ℕ)
    → piece Run (λ b u. AnyOf ds b u) first t ≡ true
    → AnyOf (map (λ d. Run ∷ d) ds) first t ≡ true
run-any [] first t h = absurd (no (sym (none (splits t)) ∙ h))
  where
    none : (ss : List (List ℕ × List ℕ)) → list_any (λ s. is_run first s.0 && false) ss ≡ false
    none [] = refl
    none (s ∷ ss) = (λ i. and-false (is_run first s.0) i || none ss i)
run-any (d ∷ ds) first t h =
    or-split (piece Run (pieces d no_more) first t) (piece Run (λ b u. AnyOf ds b u) first t)
    (piece Run (pieces d no_more) first t) (AnyOf (map (λ d. Run ∷ d) ds) first t)
    (run-or (pieces d no_more) (λ b u. AnyOf ds b u) first t h) (λ e. e) (run-any ds first t)

-- The same, of a piece that takes one character.
begins-any : (f : ℕ → Bool) (ds : List (List Piece)) (d : ℕ) (t : List ℕ) → f d ≡ true
    → AnyOf ds (d == 47) t ≡ true
    → list_any (λ e. f d && pieces e no_more (d == 47) t) ds ≡ true
begins-any f ds d t h some =
    any-weaker (λ e. pieces e no_more (d == 47) t) (λ e. f d && pieces e no_more (d == 47) t) ds
    (λ e g. and_from (f d) (pieces e no_more (d == 47) t) h g) some

-- Members of simple sets.
abbrev member-facts : ℕ → Type 0
member-facts d = (nat_lt d 128 ≡ true) × ((d == 47) ≡ false)

simple-facts : (d : ℕ) → is_simple_member d ≡ true → member-facts d
simple-facts d h = three (nat_lt d 128) (d == 47) _ h
  where
    three : (a b e : Bool) → ((a && not b) && e) ≡ true → (a ≡ true) × (b ≡ false)
    three true true e h = absurd (no h)
    three true false e h = (refl, refl)
    three false b e h = absurd (no h)

abbrev Sure : List Piece → Bool → Bool → List ℕ → Bool
Sure ps flag first t = sure_pieces ps no_more first t || AnyOf (spares flag ps) first t

abbrev Allowed : Bool → Bool → List ℕ → Bool
Allowed flag first t = not (first && slice_index t 0 == 46) || flag

later-allowed : (b : Bool) (t : List ℕ) → Allowed b b t ≡ true
later-allowed true t = or_right (not (slice_index t 0 == 46)) true refl
later-allowed false t = refl

-- The spares of the first piece, and those of what follows.
any-both : (xs ys : List (List Piece)) (first : Bool) (t : List ℕ)
    → (AnyOf xs first t || AnyOf ys first t) ≡ AnyOf (xs ++ ys) first t
any-both xs ys first t = any-append (λ d. pieces d no_more first t) xs ys

second : (s : Bool) (xs ys : List (List Piece)) (first : Bool) (t : List ℕ)
    → (s || AnyOf ys first t) ≡ true → (s || AnyOf (xs ++ ys) first t) ≡ true
second true xs ys first t h = refl
second false xs ys first t h =
    sym (any-both xs ys first t) ∙ or_right (AnyOf xs first t) (AnyOf ys first t) h

foremost : (s : Bool) (xs ys : List (List Piece)) (first : Bool) (t : List ℕ)
    → AnyOf xs first t ≡ true → (s || AnyOf (xs ++ ys) first t) ≡ true
foremost s xs ys first t h =
    or_right s (AnyOf (xs ++ ys) first t)
    (sym (any-both xs ys first t) ∙ ap (λ b. b || AnyOf ys first t) h)

at-set : (cs : List ℕ) (ps : List Piece) (flag first : Bool) (d : ℕ) (t : List ℕ)
    → list_all is_simple (OneOf cs ∷ ps) ≡ true → Allowed flag first (d ∷ t) ≡ true
    → (pieces ps no_more false t ≡ true → Sure ps false false t ≡ true)
    → pieces (OneOf cs ∷ ps) no_more first (d ∷ t) ≡ true
    → Sure (OneOf cs ∷ ps) flag first (d ∷ t) ≡ true
at-set cs ps flag first d t simple allowed further h = go (first && d == 46) refl
  where
    facts : (list_all is_simple_member cs ≡ true) × (list_all is_simple ps ≡ true)
    facts = and_parts (list_all is_simple_member cs) (list_all is_simple ps) simple

    parts : (list_any (λ c. c == d) cs ≡ true) × (pieces ps no_more (d == 47) t ≡ true)
    parts = and_parts (list_any (λ c. c == d) cs) (pieces ps no_more (d == 47) t) h

    member : member-facts d
    member = simple-facts d (member-passes is_simple_member cs d facts.0 parts.0)

    rest : Sure ps false false t ≡ true
    rest = further (subst (λ b. pieces ps no_more b t ≡ true) member.1 parts.1)

    heads : List (List Piece)
    heads = if flag && true then dotted (OneOf cs ∷ ps) else []

    tails : List (List Piece)
    tails = map (λ e. OneOf cs ∷ e) (spares false ps)

    sure : Bool
    sure = not (first && d == 46) && ((nat_lt d 128 && list_any (λ c. c == d) cs) && sure_pieces ps no_more (d == 47) t)

    go : (b : Bool) → (first && d == 46) ≡ b → (sure || AnyOf (heads ++ tails) first (d ∷ t)) ≡ true
    go true e =
        let two = and_parts first (d == 46) e in
        let dot = same-number d 46 two.1 in
        let flagged : flag ≡ true = sym (ap (λ b. not b || flag) e) ∙ allowed in
        foremost sure heads tails first (d ∷ t)
        (subst (λ b. AnyOf (if b && true then dotted (OneOf cs ∷ ps) else []) first (d ∷ t) ≡ true) (sym flagged)
        (subst (λ x. AnyOf (dotted (OneOf cs ∷ ps)) first (x ∷ t) ≡ true) (sym dot)
        (subst (λ b. AnyOf (dotted (OneOf cs ∷ ps)) b (46 ∷ t) ≡ true) (sym two.0)
        (dotted-takes (OneOf cs ∷ ps) t
        (subst (λ x. pieces (OneOf cs ∷ ps) no_more true (x ∷ t) ≡ true) dot
        (subst (λ b. pieces (OneOf cs ∷ ps) no_more b (d ∷ t) ≡ true) two.0 h))))))
    go false e =
        second sure heads tails first (d ∷ t)
        (or-split (sure_pieces ps no_more false t) (AnyOf (spares false ps) false t) sure (AnyOf tails first (d ∷ t)) rest
        (λ g. and_from (not (first && d == 46)) ((nat_lt d 128 && list_any (λ c. c == d) cs) && sure_pieces ps no_more (d == 47) t)
        (ap not e)
        (and_from (nat_lt d 128 && list_any (λ c. c == d) cs) (sure_pieces ps no_more (d == 47) t)
        (and_from (nat_lt d 128) (list_any (λ c. c == d) cs) member.0 parts.0)
        (subst (λ b. sure_pieces ps no_more b t ≡ true) (sym member.1) g)))
        (λ g. sym (any-map (λ x. pieces x no_more first (d ∷ t)) (λ x. OneOf cs ∷ x) (spares false ps))
        ∙ begins-any (λ x. list_any (λ c. c == x) cs) (spares false ps) d t parts.0
        (subst (λ b. AnyOf (spares false ps) b t ≡ true) (sym member.1) g)))

at-star : (ps : List Piece) (flag first : Bool) (t : List ℕ) → Allowed flag first t ≡ true
    → ((b : Bool) (u : List ℕ) → Allowed false b u ≡ true → pieces ps no_more b u ≡ true
    → Sure ps false b u ≡ true)
    → pieces (Run ∷ ps) no_more first t ≡ true → Sure (Run ∷ ps) flag first t ≡ true
at-star ps flag first t allowed further h = go (first && slice_index t 0 == 46) refl
  where
    heads : List (List Piece)
    heads = if flag && true then dotted ps else []

    tails : List (List Piece)
    tails = map (λ d. Run ∷ d) (spares false ps)

    sure : Bool
    sure = not (first && slice_index t 0 == 46) && piece Run (sure_pieces ps no_more) first t

    undotted : not (first && slice_index t 0 == 46) ≡ true → (sure || AnyOf (heads ++ tails) first t) ≡ true
    undotted e =
        second sure heads tails first t
        (or-split (piece Run (sure_pieces ps no_more) first t) (piece Run (λ b u. AnyOf (spares false ps) b u) first t) sure (AnyOf tails first t)
        (run-or (sure_pieces ps no_more) (λ b u. AnyOf (spares false ps) b u) first t
        (run-at (pieces ps no_more) (λ b u. Sure ps false b u) first t
        (λ g. further first t (ap (λ b. b || false) e) g)
        (λ b u f g. further b u (ap (λ x. not (x && slice_index u 0 == 46) || false) f) g) h))
        (λ g. and_from (not (first && slice_index t 0 == 46)) (piece Run (sure_pieces ps no_more) first t) e g)
        (run-any (spares false ps) first t))

    at-dot : (u : List ℕ) → (first && slice_index u 0 == 46) ≡ true → flag ≡ true
        → pieces (Run ∷ ps) no_more first u ≡ true → AnyOf heads first u ≡ true
    at-dot [] e f g = absurd (no (sym (none first) ∙ e))
      where
        none : (b : Bool) → (b && false) ≡ false
        none true = refl
        none false = refl
    at-dot (d ∷ u) e f g =
        let two = and_parts first (d == 46) e in
        let dot = same-number d 46 two.1 in
        subst (λ b. AnyOf (if b && true then dotted ps else []) first (d ∷ u) ≡ true) (sym f)
        (subst (λ x. AnyOf (dotted ps) first (x ∷ u) ≡ true) (sym dot)
        (subst (λ b. AnyOf (dotted ps) b (46 ∷ u) ≡ true) (sym two.0)
        (dotted-takes (Run ∷ ps) u
        (subst (λ x. pieces (Run ∷ ps) no_more true (x ∷ u) ≡ true) dot
        (subst (λ b. pieces (Run ∷ ps) no_more b (d ∷ u) ≡ true) two.0 g)))))

    go : (b : Bool) → (first && slice_index t 0 == 46) ≡ b → (sure || AnyOf (heads ++ tails) first t) ≡ true
    go true e =
        foremost sure heads tails first t (at-dot t e (sym (ap (λ b. not b || flag) e) ∙ allowed) h)
    go false e = undotted (ap not e)

pub spared : (ps : List Piece) (flag first : Bool) (t : List ℕ) → list_all is_simple ps ≡ true
    → Allowed flag first t ≡ true → pieces ps no_more first t ≡ true → Sure ps flag first t ≡ true
spared [] flag first t simple allowed h = ap (λ b. b || false) h
spared (Lit c ∷ ps) flag first [] simple allowed h = absurd (no h)
spared (Lit c ∷ ps) flag first (d ∷ t) simple allowed h =
    let facts = and_parts (not (is_unknown c)) (list_all is_simple ps) simple in
    let parts = and_parts (d == c) (pieces ps no_more (d == 47) t) h in
    let same = same-number d c parts.0 in
    let rest = spared ps (d == 47) (d == 47) t facts.1 (later-allowed (d == 47) t) parts.1 in
    second (d == c && sure_pieces ps no_more (d == 47) t)
    (if flag && false then dotted (Lit c ∷ ps) else []) (map (λ e. Lit c ∷ e) (spares (c == 47) ps)) first (d ∷ t)
    (or-split (sure_pieces ps no_more (d == 47) t) (AnyOf (spares (d == 47) ps) (d == 47) t)
    (d == c && sure_pieces ps no_more (d == 47) t) (AnyOf (map (λ e. Lit c ∷ e) (spares (c == 47) ps)) first (d ∷ t)) rest
    (λ e. and_from (d == c) (sure_pieces ps no_more (d == 47) t) parts.0 e)
    (λ e. sym (any-map (λ x. pieces x no_more first (d ∷ t)) (λ x. Lit c ∷ x) (spares (c == 47) ps))
    ∙ begins-any (λ x. x == c) (spares (c == 47) ps) d t parts.0
    (subst (λ x. AnyOf (spares (x == 47) ps) (d == 47) t ≡ true) same e)))
spared (Any ∷ ps) flag first t simple allowed h = absurd (no simple)
spared (OneOf cs ∷ ps) flag first [] simple allowed h = absurd (no h)
spared (OneOf cs ∷ ps) flag first (d ∷ t) simple allowed h =
    at-set cs ps flag first d t simple allowed
    (spared ps false false t (and_parts (list_all is_simple_member cs) (list_all is_simple ps) simple).1 refl) h
spared (Run ∷ ps) flag first t simple allowed h =
    at-star ps flag first t allowed (λ b u. spared ps false b u simple) h

-- The same of patterns.
simple-known : (p : Piece) → is_simple p ≡ true → is_known p ≡ true
simple-known (Lit c) h = h
simple-known Any h = refl
simple-known Run h = h
simple-known (OneOf cs) h = ap not (none cs h)
  where
    three : (a b e : Bool) → ((a && b) && not e) ≡ true → e ≡ false
    three true true true h = absurd (no h)
    three true true false h = refl
    three true false e h = absurd (no h)
    three false b e h = absurd (no h)

    none : (cs : List ℕ) → list_all is_simple_member cs ≡ true → list_any is_odd cs ≡ false
    none [] h = refl
    none (c ∷ cs) h =
        let parts = and_parts (is_simple_member c) (list_all is_simple_member cs) h in
        (λ i. three (nat_lt c 128) (not (c == 47)) (is_odd c) parts.0 i || none cs parts.1 i)

pub all-known : (ps : List Part) → all_simple ps ≡ true → all_known ps ≡ true
all-known ps h =
    all-weaker (λ c. list_all is_simple c) (λ c. list_all is_known c) (choices ps)
    (λ c. all-weaker is_simple is_known c simple-known) h

any-flat : (f : List Piece → Bool) (g : List Piece → List (List Piece)) (xs : List (List Piece))
    → list_any (λ x. list_any f (g x)) xs ≡ list_any f (flat_map g xs)
any-flat f g [] = refl
any-flat f g (x ∷ xs) =
    ap (λ b. list_any f (g x) || b) (any-flat f g xs) ∙ any-append f (g x) (flat_map g xs)

pub spared_text : (ps : List Part) (t : List ℕ) → all_simple ps ≡ true → glob ps true t ≡ true
    → (sure_text ps t || AnyOf (pattern_spares ps) true t) ≡ true
spared_text ps t simple h =
    (λ i. (all-known ps simple i && list_any (λ c. sure_pieces c no_more true t) (choices ps))
    || AnyOf (pattern_spares ps) true t)
    ∙ ((λ i. list_any (λ c. sure_pieces c no_more true t) (choices ps)
    || sym (any-flat (λ d. pieces d no_more true t) (spares true) (choices ps)) i)
    ∙ (any-or (λ c. sure_pieces c no_more true t) (λ c. AnyOf (spares true c) true t) (choices ps)
    ∙ any-where (λ c. list_all is_simple c) (λ c. pieces c no_more true t)
    (λ c. Sure c true true t) (choices ps) simple
    (λ c p e. spared c true true t p (or_right (not (slice_index t 0 == 46)) true refl) e)
    (sym (glob_choices ps true t) ∙ h)))

pub spared-matches : (s spare : Specification) (p : Path) → all_simple s.pattern ≡ true
    → IsSpare s spare → matches s p ≡ true → (spec_surely s p || matches spare p) ≡ true
unfolding matches spec_surely
spared-matches s spare p simple is h =
    let parts = and_parts (not (length p == 0)) (by_kind s.kind s.pattern p) h in
    let either = sym (of_kind-or s.kind (sure_text s.pattern) (glob spare.pattern true) p)
    ∙ of_kind-weaker s.kind (glob s.pattern true)
    (λ t. sure_text s.pattern t || glob spare.pattern true t) p
    (λ t e. ap (λ b. sure_text s.pattern t || b)
    (glob_choices spare.pattern true t ∙ ap (λ ds. AnyOf ds true t) is.choices)
    ∙ spared_text s.pattern t simple e) (sym (by_kind-of s.kind s.pattern p) ∙ parts.1) in
    (λ i. (parts.0 i && of_kind s.kind (sure_text s.pattern) p)
    || (parts.0 i && by_kind (is.kind i) spare.pattern p))
    ∙ (ap (λ b. of_kind s.kind (sure_text s.pattern) p || b) (by_kind-of s.kind spare.pattern p)
    ∙ either)

-- Without spares, Unison matches it for certain.
pub plain-matches : (s : Specification) (p : Path) → is_plain s.pattern ≡ true
    → matches s p ≡ true → spec_surely s p ≡ true
unfolding matches spec_surely
plain-matches s p plain h =
    let two = and_parts (all_simple s.pattern) (length (pattern_spares s.pattern) == 0) plain in
    let parts = and_parts (not (length p == 0)) (by_kind s.kind s.pattern p) h in
    and_from (not (length p == 0)) (of_kind s.kind (sure_text s.pattern) p) parts.0
    (of_kind-weaker s.kind (glob s.pattern true) (sure_text s.pattern) p
    (λ t e. sym (or-false (sure_text s.pattern t))
    ∙ (ap (λ ds. sure_text s.pattern t || AnyOf ds true t)
    (sym (none (pattern_spares s.pattern) two.1)) ∙ spared_text s.pattern t two.0 e))
    (sym (by_kind-of s.kind s.pattern p) ∙ parts.1))
  where
    none : (ds : List (List Piece)) → (length ds == 0) ≡ true → ds ≡ []
    none [] e = refl
    none (d ∷ ds) e = absurd (no (sym (nonzero (length ds)) ∙ e))

-- What specifications match for certain, and what they may match.
use Rattle.std.proofs.Common.{◌≡◌, ◌==◌, ℕ, Option, Some, None, Bool, true, false, not, ◌||◌, List, [], ◌∷◌, ◌++◌, map, length, refl, sym, ap, ◌∙◌, append-nil}
use Rattle.std.specs.Prelude.{if◌then◌else◌}
use Rattle.std.specs.List.{list_any}
use Rattle.std.proofs.lemmas.Bool.{and_parts, and_from, or_right}
use Rattle.hub_text.specs.laws.Test.{any-append, any-or, any-weaker}
use Rattle.hub_path.specs.Path.{Path, text_of, last_name, prefixes}
use Rattle.hub_glob.specs.declared.piece.Part.{Part}
use Rattle.hub_glob.specs.declared.piece.Part.TheVariants.{Brace}
use Rattle.hub_glob.specs.declared.piece.Piece.{Piece}
use Rattle.hub_glob.specs.declared.path_spec.Kind.{Kind}
use Rattle.hub_glob.specs.Specification.{Specification}
use Rattle.hub_glob.specs.declared.path_spec.Kind.TheVariants as kind
use Rattle.hub_glob.specs.Glob.{pieces, glob, choices, no_more, matches, by_kind}
use Rattle.hub_glob.specs.laws.Choice.{glob_choices}
use Rattle.hub_unison.specs.Matching.{sure_pieces, sure_text, all_simple, all_known, of_kind, spec_surely, spec_perhaps, star_for, starred, widened, surely_by, perhaps_by, matches_by, line_matches, IsMatching}
use Rattle.hub_unison.specs.Lines.{line_spec}
use Rattle.hub_unison.specs.laws.Piece.{sure-within}

pub by_kind-of : (k : Kind) (ps : List Part) (p : Path) → by_kind k ps p ≡ of_kind k (glob ps true) p
by_kind-of kind.Name ps p = refl
by_kind-of kind.Path ps p = refl
by_kind-of kind.BelowPath ps p = refl

pub of_kind-weaker : (k : Kind) (f g : List ℕ → Bool) (p : Path)
    → ((t : List ℕ) → f t ≡ true → g t ≡ true) → of_kind k f p ≡ true → of_kind k g p ≡ true
of_kind-weaker kind.Name f g p w h = w (last_name p) h
of_kind-weaker kind.Path f g p w h = w (text_of p) h
of_kind-weaker kind.BelowPath f g p w h =
    any-weaker (λ q. f (text_of q)) (λ q. g (text_of q)) (prefixes p) (λ q. w (text_of q)) h

pub of_kind-or : (k : Kind) (f g : List ℕ → Bool) (p : Path)
    → of_kind k (λ t. f t || g t) p ≡ (of_kind k f p || of_kind k g p)
of_kind-or kind.Name f g p = refl
of_kind-or kind.Path f g p = refl
of_kind-or kind.BelowPath f g p =
    sym (any-or (λ q. f (text_of q)) (λ q. g (text_of q)) (prefixes p))

-- What is matched for certain, hubsync matches.
sure-text-within : (ps : List Part) (t : List ℕ) → sure_text ps t ≡ true → glob ps true t ≡ true
sure-text-within ps t h =
    glob_choices ps true t
    ∙ any-weaker (λ c. sure_pieces c no_more true t) (λ c. pieces c no_more true t) (choices ps)
    (λ c. sure-within c true t)
    (and_parts (all_known ps) (list_any (λ c. sure_pieces c no_more true t) (choices ps)) h).1

pub surely-matches : (s : Specification) (p : Path) → spec_surely s p ≡ true → matches s p ≡ true
unfolding matches spec_surely
surely-matches s p h =
    let parts = and_parts (not (length p == 0)) (of_kind s.kind (sure_text s.pattern) p) h in
    and_from (not (length p == 0)) (by_kind s.kind s.pattern p) parts.0
    (by_kind-of s.kind s.pattern p
    ∙ of_kind-weaker s.kind (sure_text s.pattern) (glob s.pattern true) p
    (sure-text-within s.pattern) parts.1)

-- What hubsync has a specification match, it has it match with stars, too.
pub brace-choices : (ds : List (List Piece)) → choices (Brace ds ∷ []) ≡ ds
brace-choices [] = refl
brace-choices (d ∷ ds) = (λ i. append-nil d i ∷ brace-choices ds i)

starred-text : (ps : List Part) (stars : List (List Piece)) (t : List ℕ) → glob ps true t ≡ true
    → glob (Brace (choices ps ++ stars) ∷ []) true t ≡ true
starred-text ps stars t h =
    glob_choices (Brace (choices ps ++ stars) ∷ []) true t
    ∙ ap (list_any (λ c. pieces c no_more true t)) (brace-choices (choices ps ++ stars))
    ∙ sym (any-append (λ c. pieces c no_more true t) (choices ps) stars)
    ∙ ap (λ b. b || list_any (λ c. pieces c no_more true t) stars) (sym (glob_choices ps true t) ∙ h)

starred-matches : (s : Specification) (p : Path) → matches s p ≡ true → matches (starred s) p ≡ true
unfolding matches
starred-matches s p h =
    let parts = and_parts (not (length p == 0)) (by_kind s.kind s.pattern p) h in
    and_from (not (length p == 0)) (by_kind s.kind (starred s).pattern p) parts.0
    (by_kind-of s.kind (starred s).pattern p
    ∙ of_kind-weaker s.kind (glob s.pattern true) (glob (starred s).pattern true) p
    (starred-text s.pattern (map (map star_for) (choices s.pattern)))
    (sym (by_kind-of s.kind s.pattern p) ∙ parts.1))

pub widened-matches : (s : Specification) (p : Path) → matches s p ≡ true → matches (widened s) p ≡ true
widened-matches s p h = go (all_simple s.pattern)
  where
    go : (b : Bool) → matches (if b then s else starred s) p ≡ true
    go true = h
    go false = starred-matches s p h

matches-perhaps : (s : Specification) (p : Path) → matches s p ≡ true → spec_perhaps s p ≡ true
unfolding spec_perhaps
matches-perhaps s p h =
    or_right (not (all_known s.pattern)) (matches (widened s) p) (widened-matches s p h)

-- So hubsync's reading of lines is one of those that Unison may have.
surely-by : (o : Option Specification) (p : Path) → surely_by o p ≡ true → matches_by o p ≡ true
surely-by None p h = h
surely-by (Some s) p h = surely-matches s p h

by-perhaps : (o : Option Specification) (p : Path) → matches_by o p ≡ true → perhaps_by o p ≡ true
by-perhaps None p h = refl
by-perhaps (Some s) p h = matches-perhaps s p h

pub line_matches_is_matching : IsMatching line_matches
line_matches_is_matching = record {
  least = λ l p. surely-by (line_spec l) p;
  most = λ l p. by-perhaps (line_spec l) p;
}

-- Of a known pattern Unison matches at most what hubsync does with stars.
pub known-perhaps : (s : Specification) (p : Path) → all_known s.pattern ≡ true
    → spec_perhaps s p ≡ true → matches (widened s) p ≡ true
unfolding spec_perhaps
known-perhaps s p known h = sym (ap (λ b. not b || matches (widened s) p) known) ∙ h

-- What `BelowPath` matches above a path it matches at the path.
use Rattle.std.proofs.Common.{◌≡◌, ◌==◌, ◌∙◌, suc, zero, ℕ, Bool, true, false, not, ◌&&◌, ◌||◌, List, [], ◌∷◌, length, take, refl, sym, ap}
use Rattle.std.specs.List.{list_any}
use Rattle.std.proofs.lemmas.Bool.{and_parts, or_parts}
use Rattle.hub_path.specs.Path.{Path, text_of}
use Rattle.hub_glob.specs.declared.path_spec.Kind.{Kind}
use Rattle.hub_glob.specs.declared.path_spec.Kind.TheVariants as kind
use Rattle.hub_glob.specs.declared.piece.Part.{Part}
use Rattle.hub_glob.specs.Glob.{glob, by_kind, matches}
use Rattle.hub_glob.specs.Specification.{Specification}
use Rattle.hub_automaton.specs.Spots.{is_below_kind}
use Rattle.hub_glob.specs.laws.OneStep.{nonzero}
use Rattle.hub_reach.specs.laws.Prefix.{any-front}

some-names : (p : Path) (i : ℕ) → not (length (take i p) == 0) ≡ true → not (length p == 0) ≡ true
some-names [] zero h = h
some-names [] (suc i) h = h
some-names (n ∷ p) i h = ap not (nonzero (length p))

kind-front : (k : Kind) (ps : List Part) (p : Path) (i : ℕ) → is_below_kind k ≡ true → by_kind k ps (take i p) ≡ true → by_kind k ps p ≡ true
kind-front kind.Name ps p i b h = cc
kind-front kind.Path ps p i b h = cc
kind-front kind.BelowPath ps p i b h = any-front (λ q. glob ps true (text_of q)) p i h

below-front : (s : Specification) (p : Path) (i : ℕ) → is_below_kind s.kind ≡ true → matches s (take i p) ≡ true → matches s p ≡ true
unfolding matches
below-front s p i b h =
    let w = and_parts (not (length (take i p) == 0)) (by_kind s.kind s.pattern (take i p)) h in
    (λ j. some-names p i w.0 j && kind-front s.kind s.pattern p i b w.1 j)

-- So where it matches no path, it needn't be tried above it.
spared : (is_below whole front : Bool) → (is_below && whole) ≡ false → (is_below ≡ true → front ≡ true → whole ≡ true) → (not is_below && front) ≡ front
spared false whole front h up = refl
spared true whole false h up = refl
spared true whole true h up = sym (sym (up refl refl) ∙ h)

none-below : (specs : List Specification) (p : Path) (i : ℕ) → list_any (λ s. is_below_kind s.kind && matches s p) specs ≡ false
    → list_any (λ s. not (is_below_kind s.kind) && matches s (take i p)) specs ≡ list_any (λ s. matches s (take i p)) specs
none-below [] p i h = refl
none-below (s ∷ specs) p i h =
    let w = or_parts (is_below_kind s.kind && matches s p) (list_any (λ r. is_below_kind r.kind && matches r p) specs) h in
    (λ j. spared (is_below_kind s.kind) (matches s p) (matches s (take i p)) w.0 (below-front s p i) j || none-below specs p i w.1 j)

pub spared-below : (below : Bool) (specs : List Specification) (p : Path) (i : ℕ) → (below ≡ false → list_any (λ s. is_below_kind s.kind && matches s p) specs ≡ false)
    → list_any (λ s. (below || not (is_below_kind s.kind)) && matches s (take i p)) specs ≡ list_any (λ s. matches s (take i p)) specs
spared-below true specs p i h = refl
spared-below false specs p i h = none-below specs p i (h refl)

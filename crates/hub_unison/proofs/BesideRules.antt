-- Readings beside rules, and of the profiles of a set.
use Rattle.std.proofs.Common.{◌≡◌, List, [], ◌∷◌, ◌++◌, map, refl, sym, ap, ◌∙◌}
use Rattle.hub_path.specs.Path.{Path}
use Rattle.hub_glob.specs.Specification.{Specification}
use Rattle.hub_profile.specs.declared.bars.Bars.{Bars}
use Rattle.hub_profile.specs.declared.partial.Partial.{Partial}
use Rattle.hub_profile.specs.Parts.{Parts}
use Rattle.hub_unison.specs.Cautious.{with_patterns}
use Rattle.hub_unison.specs.ReadingOf.{top_values}
use Rattle.hub_unison.specs.Rules.{for_rules, rule_bars}

pub by-rules : (P C K B : Parts) (tops paths : List Path) (own bars : List Bars)
    (ignore ignorenot : List Specification) (partial : List Partial)
    → C ≡ with_patterns B ignore ignorenot partial → B ≡ record K { bars = bars }
    → K ≡ record P { paths = tops } → ignore ≡ [] → ignorenot ≡ [] → partial ≡ []
    → bars ≡ map rule_bars own → own ≡ P.bars → paths ≡ P.paths → tops ≡ top_values paths
    → C ≡ for_rules P (top_values P.paths)
by-rules P C K B tops paths own bars ignore ignorenot partial c b k i n p are are_own values top =
    c ∙ ((λ j. with_patterns (b j) (i j) (n j) (p j))
    ∙ ((λ j. record (k j) { ignore = []; ignorenot = []; partial = []; bars = (are ∙ ap (map rule_bars) are_own) j })
    ∙ (λ j. for_rules P ((top ∙ ap top_values values) j))))

module _ {X Y : Type 0} (f : X → Y) where
  map-push : (xs : List X) (x : X) → map f (xs ++ x ∷ []) ≡ map f xs ++ f x ∷ []
  map-push [] x = refl
  map-push (y ∷ xs) x = ap (λ zs. f y ∷ zs) (map-push xs x)

  pub mapped : (xs : List X) (ys new : List Y) (x : X) (y : Y) → ys ≡ map f xs → y ≡ f x
      → new ≡ ys ++ y ∷ [] → new ≡ map f (xs ++ x ∷ [])
  mapped xs ys new x y h e more = more ∙ ((λ i. h i ++ e i ∷ []) ∙ sym (map-push xs x))

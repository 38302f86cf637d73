-- The least path over a path at which a test holds.
use Rattle.std.proofs.Common.{◌≡◌, Bool, true, false, cond, List, [], ◌∷◌, map, drop, length, Option, Some, None, refl, ap, sym, ◌∙◌, subst}
use Rattle.std.specs.Prelude.{find, option_map}
use Rattle.std.proofs.lemmas.Bool.{and_parts, false≢true}
use Rattle.std.proofs.lemmas.Option.{same_Some}
use Rattle.hub_path.specs.laws.General.{name_eq-decides, is_over-append, is_over-rest, is_over-continued}
use Rattle.hub_path.specs.Path.{Name, Path, is_over, prefixes}

map_find : (f : Path → Bool) (n : Name) (ps : List Path)
    → find f (map (λ q. n ∷ q) ps) ≡ option_map (λ q. n ∷ q) (find (λ q. f (n ∷ q)) ps)
map_find f n [] = refl
map_find f n (p ∷ ps) =
    elim (f (n ∷ p)) as (λ b. cond b (Some (n ∷ p)) (find f (map (λ q. n ∷ q) ps)) ≡ option_map
    (λ q. n ∷ q) (cond b (Some p) (find (λ q. f (n ∷ q)) ps))) [
      | true ↦ refl
      | false ↦ map_find f n ps
    ]

pub find_first : (f : Path → Bool) (n : Name) (p : Path)
    → find f (prefixes (n ∷ p)) ≡ cond (f (n ∷ [])) (Some (n ∷ []))
    (option_map (λ q. n ∷ q) (find (λ q. f (n ∷ q)) (prefixes p)))
find_first f n p = ap (cond (f (n ∷ [])) (Some (n ∷ []))) (map_find f n (prefixes p))

longer_by : (n : Name) (x : Path) (b : Bool) (o u : Option Path)
    → ((y : Path) → o ≡ Some y → u ≡ Some y)
    → cond b (Some (n ∷ [])) (option_map (λ q. n ∷ q) o) ≡ Some x
    → cond b (Some (n ∷ [])) (option_map (λ q. n ∷ q) u) ≡ Some x
longer_by n x true o u h e = e
longer_by n x false None u h e = cc
longer_by n x false (Some y) u h e = ap (option_map (λ q. n ∷ q)) (h y refl) ∙ e

-- The least path over p is the least path over all that p is over.
pub find-longer : (f : Path → Bool) (p q x : Path) → is_over p q ≡ true
    → find f (prefixes p) ≡ Some x
    → find f (prefixes q) ≡ Some x
find-longer f [] q x over e = cc
find-longer f (n ∷ p) [] x over e = absurd (false≢true over)
find-longer f (n ∷ p) (m ∷ q) x over e =
    let heads = and_parts _ (is_over p q) over in
    let same : n ≡ m = (name_eq-decides n m).0 heads.0 in
    let more = longer_by n x (f (n ∷ [])) (find (λ q. f (n ∷ q)) (prefixes p))
    (find (λ q. f (n ∷ q)) (prefixes q))
    (λ y h. find-longer (λ q. f (n ∷ q)) p q y heads.1 h) (sym (find_first f n p) ∙ e) in
    subst (λ k. find f (prefixes (k ∷ q)) ≡ Some x) same (find_first f n q ∙ more)

-- It is over the path, the test holds there, and it is the least one over itself.
pub record IsLeast (f : Path → Bool) (q x : Path) : Type 0 where
  pub over : is_over x q ≡ true
  pub passes : f x ≡ true
  pub itself : find f (prefixes x) ≡ Some x

least_by : (f : Path → Bool) (n : Name) (q x : Path) (b : Bool) (o : Option Path) → f (n ∷ []) ≡ b
    → ((y : Path) → o ≡ Some y → IsLeast (λ q. f (n ∷ q)) q y)
    → cond b (Some (n ∷ [])) (option_map (λ q. n ∷ q) o) ≡ Some x → IsLeast f (n ∷ q) x
least_by f n q x true o e h is =
    subst (λ y. IsLeast f (n ∷ q) y) (same_Some (n ∷ []) x is)
    (record {
      over = is_over-append (n ∷ []) q;
      passes = e;
      itself = ap (λ b. cond b (Some (n ∷ [])) None) e;
    })
least_by f n q x false None e h is = cc
least_by f n q x false (Some y) e h is =
    let w = h y refl in
    subst (λ z. IsLeast f (n ∷ q) z) (same_Some (n ∷ y) x is)
    (record {
      over =
          is_over-continued (n ∷ y) (n ∷ q) (drop (length y) q)
          (ap (λ t. n ∷ t) (is_over-rest y q w.over));
      passes = w.passes;
      itself = find_first f n y
          ∙ (ap (λ b. cond b (Some (n ∷ []))
          (option_map (λ q. n ∷ q) (find (λ q. f (n ∷ q)) (prefixes y)))) e
          ∙ ap (option_map (λ q. n ∷ q)) w.itself);
    })

pub least : (f : Path → Bool) (q x : Path) → find f (prefixes q) ≡ Some x → IsLeast f q x
least f [] x e = cc
least f (n ∷ q) x e =
    least_by f n q x (f (n ∷ [])) (find (λ q. f (n ∷ q)) (prefixes q)) refl
    (λ y h. least (λ q. f (n ∷ q)) q y h) (sym (find_first f n q) ∙ e)

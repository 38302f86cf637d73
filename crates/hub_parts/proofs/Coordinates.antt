-- Clashes at nested roots, counted from the upper one.
use Rattle.std.proofs.Common.{◌≡◌, subst, [], ◌∷◌, ◌++◌, length, drop, refl, sym, ap, ◌∙◌, append_assoc}
use Rattle.std.specs.Prelude.{IsTrue}
use Rattle.std.proofs.lemmas.Bool.{and_parts, and_from}
use Rattle.hub_path.specs.Path.{Path, is_over}
use Rattle.hub_path.specs.laws.General.{is_over-append, is_over-rest}
use Rattle.hub_profile.specs.Parts.{Parts}
use Rattle.hub_reach.specs.Reach.{reach, write}
use Rattle.hub_parts.specs.Nested.{ClashAt, LowerClash, UpperClash}
use Rattle.hub_parts.proofs.Clashes.{below-root}

pub drop-own : (x q : Path) → drop (length x) (x ++ q) ≡ q
drop-own [] q = refl
drop-own (n ∷ x) q = drop-own x q

nested-over : (r x p q : Path) → is_over (r ++ p) ((r ++ x) ++ q) ≡ is_over p (x ++ q)
nested-over r x p q = ap (λ t. is_over (r ++ p) t) (append_assoc r x q) ∙ below-root r p (x ++ q)

pub upper-from : (P Q : Parts) (r x : Path) → ClashAt P Q r (r ++ x) → UpperClash P r Q x
upper-from P Q r x c = (
  c.0,
  x ++ c.1,
  sym (nested-over r x c.0 c.1) ∙ c.2,
  c.3,
  and_from (is_over x (x ++ c.1)) (reach Q (drop (length x) (x ++ c.1))) (is_over-append x c.1) (ap (reach Q) (drop-own x c.1) ∙ c.4),
)

pub upper-to : (P Q : Parts) (r x : Path) → UpperClash P r Q x → ClashAt P Q r (r ++ x)
upper-to P Q r x c =
    let parts = and_parts (is_over x c.1) (reach Q (drop (length x) c.1)) c.4 in (
      c.0,
      drop (length x) c.1,
      nested-over r x c.0 (drop (length x) c.1) ∙ subst (λ t. IsTrue (is_over c.0 t)) (is_over-rest x c.1 parts.0) c.2,
      c.3,
      parts.1,
    )

lower-over : (s x p q : Path) → is_over ((s ++ x) ++ p) (s ++ q) ≡ is_over (x ++ p) q
lower-over s x p q = ap (λ t. is_over t (s ++ q)) (append_assoc s x p) ∙ below-root s (x ++ p) q

pub lower-from : (P Q : Parts) (s x : Path) → ClashAt P Q (s ++ x) s → LowerClash P (s ++ x) x Q
lower-from P Q s x c = (
  x ++ c.0,
  c.1,
  sym (lower-over s x c.0 c.1) ∙ c.2,
  and_from (is_over x (x ++ c.0)) (write P (s ++ x) (drop (length x) (x ++ c.0))) (is_over-append x c.0) (ap (write P (s ++ x)) (drop-own x c.0) ∙ c.3),
  c.4,
)

pub lower-to : (P Q : Parts) (s x : Path) → LowerClash P (s ++ x) x Q → ClashAt P Q (s ++ x) s
lower-to P Q s x c =
    let parts = and_parts (is_over x c.0) (write P (s ++ x) (drop (length x) c.0)) c.3 in (
      drop (length x) c.0,
      c.1,
      lower-over s x (drop (length x) c.0) c.1 ∙ subst (λ t. IsTrue (is_over t c.1)) (is_over-rest x c.0 parts.0) c.2,
      parts.1,
      c.4,
    )

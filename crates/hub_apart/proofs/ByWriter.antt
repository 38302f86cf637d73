-- Lines that are sorted by their writers.
use Rattle.std.proofs.Common.{◌≡◌, ◌∙◌, ◌==◌, ◌&&◌, not, ℕ, Bool, List, ap, sym, arith}
use Rattle.std.specs.Prelude.{filter}
use Rattle.std.specs.List.Sorted.{IsStableByKey}
use Rattle.std.specs.Ordering.{is_lt, nat_cmp}
use Rattle.std.proofs.lemmas.Bool.Decides.{nat_tests}
use Rattle.hub_cert.specs.declared.fault.CheckFault.{CheckFault}
use Rattle.hub_apart.specs.ApartLines.{nested_line}
use Rattle.hub_apart.specs.Ordered.{KeepTheirOrder, writer_of}

-- Two numbers of which neither is less are equal.
tied : (m n : ℕ) → (not (is_lt (nat_cmp m n)) && not (is_lt (nat_cmp n m))) ≡ (n == m)
tied m n = grind (arith, nat_tests)

same-filter : {X : Type 0} (f g : X → Bool) (xs : List X) → ((x : X) → f x ≡ g x) → filter f xs ≡ filter g xs
same-filter f g xs same = ap (λ h. filter h xs) (λ i x. same x i)

-- Each number is that of a line.
pub kept : (old new : List CheckFault) → IsStableByKey writer_of nat_cmp old new → KeepTheirOrder old new
kept old new stable n =
    same-filter (λ e. writer_of e == n) tie new (λ e. sym (tied n (writer_of e)))
    ∙ (stable (nested_line n n) ∙ same-filter tie (λ e. writer_of e == n) old (λ e. tied n (writer_of e)))
  where
    tie : CheckFault → Bool
    tie e = not (is_lt (nat_cmp n (writer_of e))) && not (is_lt (nat_cmp (writer_of e) n))

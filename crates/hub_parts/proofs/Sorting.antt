-- Values that are sorted are in the order of their paths.
use Rattle.std.proofs.Common.{◌≡◌, subst, List, get_or, refl, arith}
use Rattle.std.specs.Prelude.{Bool, false}
use Rattle.std.specs.List.Sorted.{IsSortedBy}
use Rattle.std.specs.Ordering.{is_lt, nat_cmp, ordering_then}
use Rattle.std.specs.declared.cmp.Ordering.{Ordering}
use Rattle.std.specs.declared.cmp.Ordering.TheVariants.{Less, Equal, Greater}
use Rattle.std.proofs.lemmas.List.Sorted.{ranks_by, sorted_far}
use Rattle.std.proofs.lemmas.Option.{get_or_from_slice_get, slice_get_within}
use Rattle.hub_path.specs.Path.{path_cmp}
use Rattle.hub_path.specs.laws.General.{path_cmp-total}
use Rattle.hub_parts.specs.Near.{AreInOrder}
use Rattle.hub_parts.specs.declared.kept_value.KeptValue.{KeptValue}

first-late : (o p : Ordering) → is_lt (ordering_then o p) ≡ false → is_lt o ≡ false
first-late Less p h = h
first-late Equal p h = refl
first-late Greater p h = refl

-- Values as the sort compares them.
abbrev pub is_before : KeptValue → KeptValue → Bool
is_before k l = is_lt (ordering_then (path_cmp k.path l.path) (nat_cmp k.profile l.profile))

pub in-order : (ks : List KeptValue) → IsSortedBy is_before ks → AreInOrder ks
in-order ks up a b k l less at_a at_b =
    let far = sorted_far (λ (x y : KeptValue). is_lt (path_cmp x.path y.path)) (ranks_by path_cmp-total (λ (x : KeptValue). x.path)) ks
    (λ c d low high. first-late _ _ (up c d low high)) a b k (omega (arith, less)) (slice_get_within ks b l at_b) in
    subst (λ (x : KeptValue). is_lt (path_cmp l.path x.path) ≡ false) (get_or_from_slice_get ks a k k at_a)
    (subst (λ (x : KeptValue). is_lt (path_cmp x.path (get_or ks a k).path) ≡ false) (get_or_from_slice_get ks b l k at_b) far)

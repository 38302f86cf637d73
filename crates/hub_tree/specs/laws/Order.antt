-- The order of names and of paths tells all of them apart.
use Rattle.std.proofs.Common.{◌≡◌, true, ◌&&◌, refl, ap}
use Rattle.std.specs.Cmp.{IsTotalOrder, tied_itself}
use Rattle.std.proofs.lemmas.Cmp.{nat_list_cmp_total, lists_total}
use Rattle.std.specs.FinMap.{IsAntisymmetric, nat_cmp-IsAntisymmetric, slice_cmp-IsAntisymmetric}
use Rattle.std.specs.Ordering.{eq_by_cmp, is_eq, ordering_then}
use Rattle.std.specs.declared.cmp.Ordering.{Ordering}
use Rattle.std.specs.declared.cmp.Ordering.TheVariants.{Less, Equal, Greater}
use Rattle.hub_text.specs.laws.Test.{is_eq-equal}
use Rattle.hub_path.specs.Path.{Name, Path, path_cmp, name_cmp}

pub name_total : IsTotalOrder name_cmp
name_total = nat_list_cmp_total

pub path_total : IsTotalOrder path_cmp
path_total = lists_total nat_list_cmp_total

pub name_antisymmetric : IsAntisymmetric name_cmp
name_antisymmetric = slice_cmp-IsAntisymmetric nat_cmp-IsAntisymmetric

pub path_antisymmetric : IsAntisymmetric path_cmp
path_antisymmetric = slice_cmp-IsAntisymmetric name_antisymmetric

pub same_name : (m n : Name) → eq_by_cmp name_cmp m n ≡ true → m ≡ n
same_name m n e = name_antisymmetric m n (is_eq-equal _ e)

pub same_path : (p q : Path) → eq_by_cmp path_cmp p q ≡ true → p ≡ q
same_path p q e = path_antisymmetric p q (is_eq-equal _ e)

pub name_itself : (n : Name) → eq_by_cmp name_cmp n n ≡ true
name_itself n = ap is_eq (tied_itself name_total n)

pub path_itself : (p : Path) → eq_by_cmp path_cmp p p ≡ true
path_itself p = ap is_eq (tied_itself path_total p)

pub is_eq-then : (r s : Ordering) → is_eq (ordering_then r s) ≡ (is_eq r && is_eq s)
is_eq-then Less s = refl
is_eq-then Equal s = refl
is_eq-then Greater s = refl

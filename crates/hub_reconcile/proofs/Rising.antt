-- Looks are in order if each stands before the next.
use Rattle.std.proofs.Common.{Ordering, ◌≡◌, true, ◌&&◌, List, [], ◌∷◌, refl, ap}
use Rattle.std.specs.FinMap.Entries.{below_all}
use Rattle.std.specs.Ordering.{is_lt}
use Rattle.std.specs.declared.cmp.Ordering.TheVariants.{Less, Equal, Greater}
use Rattle.std.proofs.lemmas.Bool.{and_parts, and_from}
use Rattle.std.specs.Cmp.{both_ways}
use Rattle.hub_path.specs.laws.General.{path_cmp-total}
use Rattle.hub_path.specs.Path.{Path, path_cmp}
use Rattle.hub_reconcile.specs.Picture.{is_before_looks, are_rising}
use Rattle.hub_reconcile.specs.Sight.{Sight}

pub lt_less : (r : Ordering) → is_lt r ≡ true → r ≡ Less
lt_less Less e = refl
lt_less Equal e = cc
lt_less Greater e = cc

all_before : (p q : Path) (ss : List (Path × Sight)) → path_cmp p q ≡ Less → below_all path_cmp q ss ≡ true → below_all path_cmp p ss ≡ true
all_before p q [] l e = refl
all_before p q (s ∷ ss) l e =
    let two = and_parts (is_lt (path_cmp q s.0)) (below_all path_cmp q ss) e in
    and_from (is_lt (path_cmp p s.0)) (below_all path_cmp p ss) (ap is_lt (path_cmp-total.trans p q s.0 l (lt_less (path_cmp q s.0) two.0))) (all_before p q ss l two.1)

-- One more Look in front.
pub rising_front : (s : Path × Sight) (ss : List (Path × Sight)) → are_rising (s ∷ ss) ≡ (is_before_looks s.0 ss && are_rising ss)
rising_front s [] = refl
rising_front s (t ∷ ss) =
    both_ways (are_rising (s ∷ t ∷ ss)) (is_lt (path_cmp s.0 t.0) && are_rising (t ∷ ss))
    (λ e.
    let two = and_parts (is_lt (path_cmp s.0 t.0) && below_all path_cmp s.0 ss) (are_rising (t ∷ ss)) e in
    and_from (is_lt (path_cmp s.0 t.0)) (are_rising (t ∷ ss)) (and_parts (is_lt (path_cmp s.0 t.0)) (below_all path_cmp s.0 ss) two.0).0 two.1)
    (λ e.
    let two = and_parts (is_lt (path_cmp s.0 t.0)) (are_rising (t ∷ ss)) e in
    let rest = and_parts (below_all path_cmp t.0 ss) (are_rising ss) two.1 in
    and_from (is_lt (path_cmp s.0 t.0) && below_all path_cmp s.0 ss) (are_rising (t ∷ ss))
    (and_from (is_lt (path_cmp s.0 t.0)) (below_all path_cmp s.0 ss) two.0 (all_before s.0 t.0 ss (lt_less (path_cmp s.0 t.0) two.0) rest.0)) two.1)

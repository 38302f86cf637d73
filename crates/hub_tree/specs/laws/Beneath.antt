-- What lies below a path, and that something there makes the path a directory.
use Rattle.std.proofs.Common.{◌≡◌, Bool, true, false, not, [], ◌∷◌, ◌++◌, length, drop, refl, ap, sym, ◌∙◌, arith, append_assoc, append-nil, length-append}
use Rattle.std.specs.Cmp.{tied_itself}
use Rattle.std.specs.Ordering.{ordering_then}
use Rattle.std.specs.declared.cmp.Ordering.TheVariants.{Less}
use Rattle.std.proofs.lemmas.Bool.{false≢true, and_parts}
use Rattle.hub_path.specs.laws.General.{is_over-rest, is_over-append, parent-push}
use Rattle.hub_path.specs.Path.{Name, Path, path_cmp, path_eq, is_over}
use Rattle.hub_tree.specs.Below.{is_below}
use Rattle.hub_tree.specs.Tree.{Replica, IsTree, contents_at, is_absent, is_directory}
use Rattle.hub_tree.specs.declared.contents.Contents.{Contents}
use Rattle.hub_tree.specs.declared.contents.Contents.TheVariants as contents
use Rattle.hub_tree.specs.laws.Order.{name_total, same_path, path_itself}
use Rattle.hub_tree.specs.laws.Children.{path_eq-cmp}

-- a path below another one is that one with more names
not_itself : (p : Path) (n : Name) (r : Path) (b : Bool) → path_eq p (p ++ n ∷ r) ≡ b → not b ≡ true
not_itself p n r true e =
    absurd (omega (
      arith,
      ap length (same_path p (p ++ n ∷ r)
          (sym (path_eq-cmp p (p ++ n ∷ r)) ∙ e)),
      length-append p (n ∷ r),
    ))
not_itself p n r false e = refl

pub below_from : (p : Path) (n : Name) (r : Path) → is_below p (p ++ n ∷ r) ≡ true
below_from p n r =
    rw (is_over-append p (n ∷ r), not_itself p n r (path_eq p (p ++ n ∷ r)) refl) refl

some_rest : (p q r : Path) → q ≡ p ++ r → not (path_eq p q) ≡ true
    → (n : Name) × (s : Path) × (q ≡ p ++ n ∷ s)
some_rest p q [] e h =
    absurd (false≢true (sym (ap not (ap (path_eq p) (e ∙ append-nil p) ∙ path_eq-cmp p p
    ∙ path_itself p)) ∙ h))
some_rest p q (n ∷ s) e h = (n, s, e)

pub below_over : (p q : Path) → is_below p q ≡ true → is_over p q ≡ true
below_over p q h = (and_parts (is_over p q) (not (path_eq p q)) h).0

pub below_rest : (p q : Path) → is_below p q ≡ true → (n : Name) × (s : Path) × (q ≡ p ++ n ∷ s)
below_rest p q h =
    let two = and_parts (is_over p q) (not (path_eq p q)) h in
    some_rest p q (drop (length p) q) (is_over-rest p q two.0) two.1

pub below_order : (p : Path) (n : Name) (r : Path) → path_cmp p (p ++ n ∷ r) ≡ Less
below_order [] n r = refl
below_order (k ∷ p) n r =
    ap (λ o. ordering_then o (path_cmp p (p ++ n ∷ r))) (tied_itself name_total k)
    ∙ below_order p n r

pub is_a_directory : (d : Contents) → is_directory d ≡ true → d ≡ contents.Directory
is_a_directory (contents.File bytes) e = absurd (false≢true e)
is_a_directory contents.Directory e = refl
is_a_directory contents.Absent e = absurd (false≢true e)

-- what lies above
one_above : (m : Replica) (p : Path) (n : Name) → IsTree m
    → is_absent (contents_at m (p ++ n ∷ [])) ≡ false → contents_at m p ≡ contents.Directory
one_above m p n t h =
    is_a_directory (contents_at m p) (ap (λ q. is_directory (contents_at m q))
    (sym (parent-push p n)) ∙ t.parents (p ++ n ∷ []) h)

all_above : (r : Path) (m : Replica) (p : Path) (n : Name) → IsTree m
    → is_absent (contents_at m (p ++ n ∷ r)) ≡ false → contents_at m p ≡ contents.Directory
all_above [] m p n t h = one_above m p n t h
all_above (k ∷ r) m p n t h =
    let whole = append_assoc p (n ∷ []) (k ∷ r) in
    one_above m p n t (ap is_absent (all_above r m (p ++ n ∷ []) k t
    (ap (λ q. is_absent (contents_at m q)) whole ∙ h)))

pub above_directory : (m : Replica) (p q : Path) → IsTree m → is_below p q ≡ true
    → is_absent (contents_at m q) ≡ false → contents_at m p ≡ contents.Directory
above_directory m p q t below h =
    let w = below_rest p q below in
    all_above w.1 m p w.0 t (ap (λ q. is_absent (contents_at m q)) (sym w.2) ∙ h)

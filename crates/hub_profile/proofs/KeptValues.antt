-- The values that a profile keeps, one by one.
use Rattle.std.proofs.Common.{◌≡◌, Bool, true, false, cond, List, [], ◌∷◌, ◌++◌, ℕ, ◌+◌, ◌<◌, length, take, get_or, sym, ap, ◌∙◌}
use Rattle.std.proofs.lemmas.List.{append-nil, append_assoc, take_more}
use Rattle.hub_path.specs.Path.{Path}
use Rattle.hub_profile.specs.Reading.{adds, kept_after}

first_or_not : (b : Bool) (s : Path) (xs ys last : List Path) → xs ≡ ys ++ last → cond b (s ∷ xs) xs ≡ cond b (s ∷ ys) ys ++ last
first_or_not true s xs ys last e = ap (λ zs. s ∷ zs) e
first_or_not false s xs ys last e = e

kept-push : (all earlier ss : List Path) (s : Path) → kept_after all earlier (ss ++ s ∷ []) ≡ kept_after all earlier ss ++ cond (adds all (earlier ++ ss) s) (s ∷ []) []
kept-push all earlier [] s = ap (λ e. cond (adds all e s) (s ∷ []) []) (sym (append-nil earlier))
kept-push all earlier (t ∷ ss) s =
    first_or_not (adds all earlier t) t (kept_after all (earlier ++ t ∷ []) (ss ++ s ∷ [])) (kept_after all (earlier ++ t ∷ []) ss) (cond (adds all (earlier ++ t ∷ ss) s) (s ∷ []) [])
    (kept-push all (earlier ++ t ∷ []) ss s ∙ ap (λ e. kept_after all (earlier ++ t ∷ []) ss ++ cond (adds all e s) (s ∷ []) []) (append_assoc earlier (t ∷ []) ss))

-- One more of the values.
pub kept-more : (all : List Path) (i : ℕ) (x : Path) → i < length all → x ≡ get_or all i x
    → kept_after all [] (take (i + 1) all) ≡ kept_after all [] (take i all) ++ cond (adds all (take i all) x) (x ∷ []) []
kept-more all i x h e = ap (kept_after all []) (take_more all i x h ∙ ap (λ y. take i all ++ y ∷ []) (sym e)) ∙ kept-push all [] (take i all) x

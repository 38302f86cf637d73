-- Marks of an archive that are taken over at the paths that a profile reaches.
use Rattle.std.proofs.Common.{◌≡◌, Bool, true, false, cond, ◌&&◌, ◌||◌, List, [], ◌∷◌, ◌++◌, map, refl, ap, sym, ◌∙◌}
use Rattle.std.specs.FinMap as fin
use Rattle.std.specs.Ordering.{eq_by_cmp}
use Rattle.std.proofs.lemmas.List.{map-append}
use Rattle.std.proofs.lemmas.List.Folds.{list_any-append}
use Rattle.hub_path.specs.Path.{Path, path_eq, path_cmp}
use Rattle.hub_profile.specs.Parts.{Parts}
use Rattle.hub_reach.specs.Reach.{reach}
use Rattle.hub_tree.specs.Tree.{Archive, old_mark_at, with_mark}
use Rattle.hub_tree.specs.declared.contents.Mark.{Mark}
use Rattle.hub_tree.specs.declared.contents.Mark.TheVariants as mark
use Rattle.hub_tree.specs.laws.Between.{among}
use Rattle.hub_tree.specs.laws.Children.{path_eq-cmp}
use Rattle.hub_tree.specs.laws.MarkMaps.{old_mark-after}
use Rattle.hub_tree.specs.laws.Order.{same_path}
use Rattle.hub_schedule.specs.forms.Left.{has_mark}

abbrev pub paths_of : List (Path × Mark) → List Path
paths_of es = map (λ (e : Path × Mark). e.0) es

-- The marks of the next archive at those of these paths that the profile reaches.
abbrev pub IsTaken : Parts → Archive → List (Path × Mark) → Archive → Archive → Type 0
IsTaken P next es old new = (p : Path) → old_mark_at new p ≡ cond (among p (paths_of es) && reach P p) (old_mark_at next p) (old_mark_at old p)

among-push : (p : Path) (es : List (Path × Mark)) (x : Path × Mark) → among p (paths_of (es ++ x ∷ [])) ≡ (among p (paths_of es) || (eq_by_cmp path_cmp p x.0 || false))
among-push p es x = ap (among p) (map-append (λ (e : Path × Mark). e.0) es (x ∷ [])) ∙ list_any-append (eq_by_cmp path_cmp p) (paths_of es) (x.0 ∷ [])

taken_here : {X : Type 0} (a r : Bool) (x y z : X) → r ≡ true → x ≡ y → x ≡ cond ((a || (true || false)) && r) y z
taken_here true r x y z e h = h ∙ sym (ap (λ b. cond b y z) e)
taken_here false r x y z e h = h ∙ sym (ap (λ b. cond b y z) e)

unreached : {X : Type 0} (a b r : Bool) (x y z : X) → r ≡ false → x ≡ cond (a && r) y z → x ≡ cond ((a || b) && r) y z
unreached true b r x y z e h = h
unreached false true r x y z e h = h ∙ sym (ap (λ b. cond b y z) e)
unreached false false r x y z e h = h

elsewhere : {X : Type 0} (a r : Bool) (x y z : X) → x ≡ cond (a && r) y z → x ≡ cond ((a || (false || false)) && r) y z
elsewhere true r x y z h = h
elsewhere false r x y z h = h

module _ (P : Parts) (next old now : Archive) (es : List (Path × Mark)) (x : Path × Mark) (taken : IsTaken P next es old now) where
  -- A path that the profile reaches.
  at_path : (p : Path) (b : Bool) → path_eq p x.0 ≡ b → reach P x.0 ≡ true
      → cond b (old_mark_at next x.0) (old_mark_at now p) ≡ cond ((among p (paths_of es) || (b || false)) && reach P p) (old_mark_at next p) (old_mark_at old p)
  at_path p true e h =
      let same : p ≡ x.0 = same_path p x.0 (sym (path_eq-cmp p x.0) ∙ e) in
      taken_here (among p (paths_of es)) (reach P p) (old_mark_at next x.0) (old_mark_at next p) (old_mark_at old p) (ap (reach P) same ∙ h) (ap (old_mark_at next) (sym same))
  at_path p false e h = elsewhere (among p (paths_of es)) (reach P p) (old_mark_at now p) (old_mark_at next p) (old_mark_at old p) (taken p)

  as_pushed : (p : Path) → cond ((among p (paths_of es) || (path_eq p x.0 || false)) && reach P p) (old_mark_at next p) (old_mark_at old p) ≡ cond (among p (paths_of (es ++ x ∷ [])) && reach P p) (old_mark_at next p) (old_mark_at old p)
  as_pushed p =
      ap (λ b. cond ((among p (paths_of es) || (b || false)) && reach P p) (old_mark_at next p) (old_mark_at old p)) (path_eq-cmp p x.0)
      ∙ ap (λ b. cond (b && reach P p) (old_mark_at next p) (old_mark_at old p)) (sym (among-push p es x))

  pub taken_more : reach P x.0 ≡ true → IsTaken P next (es ++ x ∷ []) old (with_mark now x.0 (old_mark_at next x.0))
  taken_more h p = old_mark-after now x.0 p (old_mark_at next x.0) ∙ (at_path p (path_eq p x.0) refl h ∙ as_pushed p)

  same_reach : (p : Path) (b : Bool) → eq_by_cmp path_cmp p x.0 ≡ b → reach P x.0 ≡ false → old_mark_at now p ≡ cond ((among p (paths_of es) || (b || false)) && reach P p) (old_mark_at next p) (old_mark_at old p)
  same_reach p true e h = unreached (among p (paths_of es)) (true || false) (reach P p) (old_mark_at now p) (old_mark_at next p) (old_mark_at old p) (ap (reach P) (same_path p x.0 e) ∙ h) (taken p)
  same_reach p false e h = elsewhere (among p (paths_of es)) (reach P p) (old_mark_at now p) (old_mark_at next p) (old_mark_at old p) (taken p)

  pub taken_same : reach P x.0 ≡ false → IsTaken P next (es ++ x ∷ []) old now
  taken_same h p =
      same_reach p (eq_by_cmp path_cmp p x.0) refl h
      ∙ ap (λ b. cond (b && reach P p) (old_mark_at next p) (old_mark_at old p)) (sym (among-push p es x))

-- After all entries of an archive.
pub taken_all : (P : Parts) (next paths old new : Archive) (es : List (Path × Mark)) → es ≡ fin.entries paths → IsTaken P next es old new
    → (p : Path) → old_mark_at new p ≡ cond (has_mark paths p && reach P p) (old_mark_at next p) (old_mark_at old p)
taken_all P next paths old new es all taken p =
    taken p
    ∙ ap (λ b. cond (b && reach P p) (old_mark_at next p) (old_mark_at old p)) (ap (λ (es : List (Path × Mark)). among p (paths_of es)) all ∙ sym (fin.contains_key-keys paths p))

-- One step of the cutting into groups, as the loop over rows makes it.
use Rattle.std.proofs.Common.{◌≡◌, ◌-◌, ◌<◌, ◌≤◌, ℕ, Bool, true, false, if◌then◌else◌, List, [], ◌∷◌, ◌++◌, take, drop, length, ap, sym, ◌∙◌, subst, arith, append-nil, append_assoc, length-take}
use Rattle.std.specs.Prelude.{slice_index_or}
use Rattle.std.specs.List.{flat_map, prefix_len, take_while}
use Rattle.std.proofs.lemmas.List.{length-drop}
use Rattle.std.proofs.Math.Seq.{take-length}
use Rattle.hub_path.specs.Path.{Path, is_over}
use Rattle.hub_reconcile.specs.forms.Groups.{IsCut, IsGroup, IsPartition, AreGroups, group_paths, rows_below}
use Rattle.hub_reconcile.specs.Rows.{AreRowsOf, is_different, paths_of}
use Rattle.hub_reconcile.specs.Shown.{shown}
use Rattle.hub_reconcile.specs.View.{View}
use Rattle.hub_reconcile.specs.declared.group.Group.{Group}
use Rattle.hub_reconcile.specs.declared.picture.Picture.{Picture}
use Rattle.hub_reconcile.specs.declared.row.Row.{Row}
use Rattle.hub_reconcile.proofs.Cuts.{cut_start}
use Rattle.hub_reconcile.proofs.Loops.{head_rest}
use Rattle.hub_reconcile.proofs.Pictured.{next_cut}

whole_rest : (n : ℕ) (rs : List Row) → take (length rs - n) (drop n rs) ≡ drop n rs
whole_rest n rs = ap (λ k. take k (drop n rs)) (sym (length-drop n rs)) ∙ take-length (drop n rs)

are_more : (V : View) (bs : List Group) (b : Group) → AreGroups V bs → IsGroup V b → AreGroups V (bs ++ b ∷ [])
are_more V [] b a is = (is, tt)
are_more V (x ∷ bs) b a is = (a.0, are_more V bs b a.1 is)

more_paths : (bs : List Group) (b : Group) → flat_map group_paths (bs ++ b ∷ []) ≡ flat_map group_paths bs ++ group_paths b
more_paths [] b = append-nil (group_paths b)
more_paths (x ∷ bs) b = ap (λ ps. group_paths x ++ ps) (more_paths bs b) ∙ sym (append_assoc (group_paths x) (flat_map group_paths bs) (group_paths b))

pub rows_fit : (r : Row) (rs : List Row) → length (rows_below r rs) ≤ length rs
rows_fit r rs = by_case (is_different r) where
  by_case : (b : Bool) → length (if b then take_while (λ (x : Row). is_over r.path.now x.path.now) rs else []) ≤ length rs
  by_case true = omega (arith, length-take (prefix_len (λ (x : Row). is_over r.path.now x.path.now) rs) rs)
  by_case false = omega arith

module _ (picture : Picture) where
  abbrev V : View
  V = shown picture

  -- What the loop keeps.
  abbrev pub IsCutSoFar : List Group → List Row → Type 0
  IsCutSoFar bs rest = AreGroups V bs × IsCut V (flat_map group_paths bs) rest

  pub at_start : (bs : List Group) (rs : List Row) → bs ≡ [] → AreRowsOf V rs → IsCutSoFar bs rs
  at_start bs rs e table = subst (λ (x : List Group). IsCutSoFar x rs) (sym e) (tt, cut_start V rs table)

  pub first_cut : (bs : List Group) (rest : List Row) (r : Row) → IsCutSoFar bs rest → 0 < length rest → r ≡ slice_index_or rest 0 r
      → IsCut V (flat_map group_paths bs) (r ∷ take (length rest - 1) (drop 1 rest))
  first_cut bs rest r so l e = subst (λ (x : List Row). IsCut V (flat_map group_paths bs) x) (head_rest rest r l e) so.1

  pub one_group : (bs : List Group) (r : Row) (rs : List Row) → AreGroups V bs → IsCut V (flat_map group_paths bs) (r ∷ rs)
      → (b : Group) → IsGroup V b → b.first.now ≡ r → b.below.now ≡ rows_below r rs → (more : List Group) → more ≡ bs ++ b ∷ []
      → IsCutSoFar more (take (length rs - length b.below.now) (drop (length b.below.now) rs))
  one_group bs r rs are cut b is first below more e =
      let front : flat_map group_paths bs ++ r.path.now ∷ paths_of (rows_below r rs) ≡ flat_map group_paths (bs ++ b ∷ []) =
      (λ i. flat_map group_paths bs ++ (sym first i).path.now ∷ paths_of (sym below i)) ∙ sym (more_paths bs b) in
      let back : drop (length (rows_below r rs)) rs ≡ take (length rs - length b.below.now) (drop (length b.below.now) rs) =
      ap (λ k. drop k rs) (sym (ap length below)) ∙ sym (whole_rest (length b.below.now) rs) in
      subst (λ (x : List Group). IsCutSoFar x (take (length rs - length b.below.now) (drop (length b.below.now) rs))) (sym e) (
        are_more V bs b are is,
        subst (λ (x : List Path). IsCut V x (take (length rs - length b.below.now) (drop (length b.below.now) rs))) front
            (subst (λ (x : List Row). IsCut V (flat_map group_paths bs ++ r.path.now ∷ paths_of (rows_below r rs)) x) back
            (next_cut picture (flat_map group_paths bs) r rs cut)),
      )

  pub all_cut : (bs : List Group) (rest : List Row) → IsCutSoFar bs rest → length rest < 1 → IsPartition V bs
  all_cut bs [] so l = record { paths = sym (append-nil (flat_map group_paths bs)) ∙ so.1.paths; groups = so.0 }
  all_cut bs (r ∷ rs) so l = absurd (omega arith)

-- Loops that take the items of a list one after another.
use Rattle.std.proofs.Common.{◌≡◌, ◌-◌, ◌<◌, List, [], ◌∷◌, ◌++◌, take, drop, length, refl, ap, sym, ◌∙◌, arith, append_assoc}
use Rattle.std.specs.Prelude.{slice_index_or}
use Rattle.std.proofs.Math.Seq.{take-length}
use Rattle.std.proofs.lemmas.Grind.{flat_map-append}
use Rattle.hub_path.specs.Path.{Path}
use Rattle.hub_tree.specs.Marked.{marked_entries}
use Rattle.hub_tree.specs.declared.contents.Mark.{Mark}
use Rattle.hub_reconcile.specs.forms.Groups.{kept_marks}

pub head_rest : {X : Type 0} (xs : List X) (x : X) → 0 < length xs → x ≡ slice_index_or xs 0 x → xs ≡ x ∷ take (length xs - 1) (drop 1 xs)
head_rest [] x l e = absurd (omega arith)
head_rest (y ∷ ys) x l e =
    let many : length (y ∷ ys) - 1 ≡ length ys = omega arith in
    let all : take (length (y ∷ ys) - 1) ys ≡ ys = ap (λ n. take n ys) many ∙ take-length ys in
    λ i. sym e i ∷ sym all i

pub none_left : {X : Type 0} (xs : List X) → length xs < 1 → xs ≡ []
none_left [] l = refl
none_left (x ∷ xs) l = absurd (omega arith)

-- What an archive keeps of the next marks.
pub marks_next : (all ds rest old new whole : List (Path × Mark)) → all ≡ ds ++ rest → new ≡ old ++ kept_marks ds → old ++ kept_marks all ≡ whole → new ++ kept_marks rest ≡ whole
marks_next all ds rest old new whole e m h =
    ap (λ es. es ++ kept_marks rest) m ∙ append_assoc old (kept_marks ds) (kept_marks rest)
    ∙ ap (λ es. old ++ es) (sym (flat_map-append (λ (x : Path × Mark). marked_entries x.0 x.1) ds rest) ∙ ap kept_marks (sym e)) ∙ h

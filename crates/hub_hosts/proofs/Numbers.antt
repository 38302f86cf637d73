-- The lines of a text keep their numbers.
use Rattle.std.proofs.Common.{◌≡◌, ◌∙◌, ◌<◌, ⊎_elim, inl, inr, arith, length, length-append, ℕ, Bool, true, false, cond, List, [], ◌∷◌, ◌++◌, Option, Some, None, Ok, map, drop, codes, refl, sym, ap, subst}
use Rattle.std.specs.Prelude.{⊤}
use Rattle.std.specs.Option.{option_map}
use Rattle.std.proofs.lemmas.List.{length-map}
use Rattle.hub_text.specs.declared.line.Line.{Line}
use Rattle.hub_text.specs.Lines.{lines_of, without_last_cr}
use Rattle.hub_text.specs.laws.List.{some-item}
use Rattle.hub_hosts.specs.Profiles.{from_arrow, from_root, line_for, line_from, root_in, sets_arrow, sets_root, text_for, value_of, whole_line_for, with_root, with_root_if}
use Rattle.hub_hosts.specs.Drives.{below_of, is_top, text_of}
use Rattle.hub_hosts.specs.Remotes.{base_for, folder_path, is_local, is_local_drive, local, local_of, path_below, path_of, path_of_local, remote_for, remote_in, remote_of, remote_on}
use Rattle.hub_hosts.specs.Table.{Row, blanks, rows_of, slash}
use Rattle.hub_hosts.specs.Words.{before, begins_with, behind, behind_last_arrow, from_first, skip}
use Rattle.hub_hosts.specs.declared.drive.Below.{Below}
use Rattle.hub_hosts.specs.declared.remote.Remote.{Remote}
use Rattle.hub_hosts.proofs.DriveText.{below_of-no_lf}
use Rattle.hub_hosts.proofs.NoLf.{IfNoLf, append-no_lf, behind_last_arrow-no_lf, drop-no_lf, from_first-no_lf, has_lf, if-no_lf, map-no_lf, skip-no_lf, skip_end-no_lf, take-no_lf, without_last_cr-no_lf}
use Rattle.hub_hosts.proofs.TableLines.{HavePaths, IfBase, IsBase, base_for-base, rows_of-paths}
use Rattle.hub_text.specs.laws.WholeLines.{AreLines, AreLines-lines_of, lines_of-text_of_lines}

-- A path that can stand in a line.
abbrev IsPart : List ℕ → Type 0
IsPart path = (has_lf path ≡ false) × (0 < length path)

abbrev IfPart : Option (List ℕ) → Type 0
IfPart None = ⊤
IfPart (Some path) = IsPart path

folder_path-part : (base : List ℕ) → IsBase base → IsPart (folder_path base)
folder_path-part [] h = (refl, omega arith)
folder_path-part (b ∷ bs) h =
    let e : folder_path (b ∷ bs) ≡ b ∷ bs = ap (λ t. cond t slash (b ∷ bs)) (some-item b bs) in
    subst IsPart (sym e) (h.0, omega arith)

path_below-part : (base : List ℕ) (below : Below (List ℕ)) → IsBase base → has_lf (text_of below) ≡ false
    → IsPart (path_below base below)
path_below-part base below h k = by (is_top below)
  where
    by : (b : Bool) → IsPart (cond b (folder_path base) (base ++ slash ++ text_of below))
    by true = folder_path-part base h
    by false = (
      append-no_lf (base ++ slash) (text_of below) (append-no_lf base slash h.0 refl) k,
      omega (arith, length-append (base ++ slash) (text_of below), length-append base slash),
    )

abbrev IfBelow : Option (Remote (List ℕ)) → Type 0
IfBelow None = ⊤
IfBelow (Some r) = has_lf (text_of r.below) ≡ false

remote_in-below : (text : List ℕ) → has_lf text ≡ false → has_lf (text_of (remote_in text).below) ≡ false
remote_in-below text h =
    below_of-no_lf (drop 1 (from_first slash text)) (drop-no_lf 1 (from_first slash text) (from_first-no_lf slash text h))

remote_of-below : (root : List ℕ) → has_lf root ≡ false → IfBelow (remote_of root)
remote_of-below root h =
    either (begins_with (codes "ssh://") root) (begins_with (codes "socket://") root)
  where
    either : (b c : Bool) → IfBelow (cond b (Some (remote_in (drop 6 root))) (cond c (Some (remote_in (drop 9 root))) None))
    either true c = remote_in-below (drop 6 root) (drop-no_lf 6 root h)
    either false true = remote_in-below (drop 9 root) (drop-no_lf 9 root h)
    either false false = tt

remote_for-below : (machine : Option (List ℕ)) (root : List ℕ) → has_lf root ≡ false → IfBelow (remote_for machine root)
remote_for-below None root h = remote_of-below root h
remote_for-below (Some machine) root h = either (is_local root)
  where
    either : (b : Bool) → IfBelow (cond b (Some (remote_on machine root)) (remote_of root))
    either true = below_of-no_lf root h
    either false = remote_of-below root h

path_of-part : (rows : List Row) (machine : Option (List ℕ)) (root : List ℕ) → HavePaths rows → has_lf root ≡ false
    → IfPart (path_of rows machine root)
path_of-part rows machine root h k = by (remote_for machine root) (remote_for-below machine root k)
  where
    at : (r : Remote (List ℕ)) (o : Option (List ℕ)) → IfBase o → has_lf (text_of r.below) ≡ false
        → IfPart (option_map path_of_local (option_map (λ base. local base r.below) o))
    at r None f g = tt
    at r (Some base) f g = path_below-part base r.below f g

    here : (b : Bool) → IfPart (option_map path_of_local (cond b (Some (local [] (below_of root))) None))
    here true = path_below-part [] (below_of root) (refl, refl) (below_of-no_lf root k)
    here false = tt

    by : (o : Option (Remote (List ℕ))) → IfBelow o → IfPart (option_map path_of_local (local_of rows root o))
    by None f = here (is_local_drive root)
    by (Some r) f = at r (base_for rows r) (base_for-base rows r h) f

-- A line in the place of that line.
abbrev IsPlaced : List ℕ → List ℕ → Type 0
IsPlaced line new = (has_lf new ≡ false) × (0 < length line → 0 < length new)

with_root-placed : (line end root : List ℕ) → has_lf line ≡ false → has_lf end ≡ false → IsPart root → IsPlaced line (with_root line end root)
with_root-placed line end root h k p =
    let front = before line end in
    let after = behind end (root_in end) in (
      append-no_lf (front ++ root) after (append-no_lf front root (take-no_lf _ line h) p.0) (drop-no_lf _ end k),
      λ some. omega (arith, p.1, length-append (front ++ root) after, length-append front root),
    )

root_in-no_lf : (end : List ℕ) → has_lf end ≡ false → has_lf (root_in end) ≡ false
root_in-no_lf end h = skip_end-no_lf blanks (without_last_cr end) (without_last_cr-no_lf end h)

from_root-no_lf : (line : List ℕ) → has_lf line ≡ false → IfNoLf (from_root line)
from_root-no_lf line h =
    let value = drop-no_lf 1 (from_first (codes "=") line) (from_first-no_lf (codes "=") line h) in
    if-no_lf (sets_root line) (Some (skip blanks (value_of line))) (cond (sets_arrow line) (from_arrow (value_of line)) None)
    (skip-no_lf blanks (value_of line) value)
    (if-no_lf (sets_arrow line) (from_arrow (value_of line)) None
    (map-no_lf (skip blanks) (behind_last_arrow (value_of line)) (skip-no_lf blanks) (behind_last_arrow-no_lf (value_of line) value)) tt)

line_for-placed : (rows : List Row) (machine : Option (List ℕ)) (line : List ℕ) → HavePaths rows → has_lf line ≡ false
    → IsPlaced line (line_for rows machine line)
line_for-placed rows machine line h k = by (from_root line) (from_root-no_lf line k)
  where
    at : (end : List ℕ) (o : Option (List ℕ)) → has_lf end ≡ false → IfPart o → IsPlaced line (with_root_if line end o)
    at end None f p = (k, λ some. some)
    at end (Some root) f p = with_root-placed line end root k f p

    by : (o : Option (List ℕ)) → IfNoLf o → IsPlaced line (line_from rows machine line o)
    by None f = (k, λ some. some)
    by (Some end) f = at end (path_of rows machine (root_in end)) f (path_of-part rows machine (root_in end) h (root_in-no_lf end f))

AreLines-for : (rows : List Row) (machine : Option (List ℕ)) (ls : List (Line (List ℕ))) → HavePaths rows → AreLines ls
    → AreLines (map (whole_line_for rows machine) ls)
AreLines-for rows machine [] h a = tt
AreLines-for rows machine (l ∷ ls) h a =
    let placed = line_for-placed rows machine l.text h a.0 in (
      placed.0,
      ⊎_elim (λ e. inl e) (λ last. inr (last.0, ap (map (whole_line_for rows machine)) last.1, placed.1 last.2)) a.1,
      AreLines-for rows machine ls h a.2,
    )

pub lines_of-text_for : (table text : List ℕ) (machine : Option (List ℕ)) (rows : List Row) → rows_of table ≡ Ok rows
    → lines_of (text_for rows machine text) ≡ map (whole_line_for rows machine) (lines_of text)
lines_of-text_for table text machine rows e =
    lines_of-text_of_lines (map (whole_line_for rows machine) (lines_of text))
    (AreLines-for rows machine (lines_of text) (rows_of-paths table rows e) (AreLines-lines_of text))

pub length-lines_of-text_for : (table text : List ℕ) (machine : Option (List ℕ)) (rows : List Row) → rows_of table ≡ Ok rows
    → length (lines_of (text_for rows machine text)) ≡ length (lines_of text)
length-lines_of-text_for table text machine rows e =
    ap length (lines_of-text_for table text machine rows e) ∙ length-map (lines_of text) (whole_line_for rows machine)

-- Lines and texts that stay as they are.
use Rattle.std.proofs.Common.{◌≡◌, ◌∙◌, ℕ, Bool, false, cond, List, [], ◌∷◌, Option, Some, None, map, refl, ap}
use Rattle.std.specs.Prelude.{is_some}
use Rattle.std.specs.List.{find, list_any}
use Rattle.std.specs.Option.{option_map, option_or}
use Rattle.std.proofs.lemmas.Bool.{or_parts}
use Rattle.hub_text.specs.declared.line.Line.{Line}
use Rattle.hub_text.specs.Lines.{lines_of, text_of_lines}
use Rattle.hub_text.specs.laws.Line.{text_of_lines-lines_of}
use Rattle.hub_hosts.specs.Profiles.{from_arrow, from_root, is_drive_end, is_remote_end, line_for, line_from, names_drive, names_remote, root_in, sets_arrow, sets_root, text_for, value_of, whole_line_for, with_root_if}
use Rattle.hub_hosts.specs.Remotes.{base_for, local, local_of, path_for, path_of, path_of_local, remote_for}
use Rattle.hub_hosts.specs.Table.{Row, blanks, has_row, is_for}
use Rattle.hub_hosts.specs.Drives.{below_of}
use Rattle.hub_hosts.specs.Words.{host_in, skip}
use Rattle.hub_hosts.specs.declared.remote.Remote.{Remote}

-- Where no item passes, none is found.
find-none : {X : Type 0} (test : X → Bool) (xs : List X) → list_any test xs ≡ false → find test xs ≡ None
find-none test [] h = refl
find-none test (x ∷ xs) h =
    let parts = or_parts (test x) (list_any test xs) h in
    rw parts.0 (find-none test xs parts.1)

pub other_name : (rows : List Row) (machine : Option (List ℕ)) (line : List ℕ) → sets_root line ≡ false → sets_arrow line ≡ false
    → line_for rows machine line ≡ line
other_name rows machine line h k =
    ap (line_from rows machine line)
    (ap (λ b. cond b (Some (skip blanks (value_of line))) (cond (sets_arrow line) (from_arrow (value_of line)) None)) h
    ∙ ap (λ b. cond b (from_arrow (value_of line)) None) k)

no-row : (rows : List Row) (name : List ℕ) (in_home : Bool) → has_row rows name in_home ≡ false
    → path_for rows name in_home ≡ None
no-row rows name in_home h = ap (option_map (λ row. row.path)) (find-none (is_for name in_home) rows h)

pub unknown_host : (rows : List Row) (machine : Option (List ℕ)) (line end : List ℕ) (r : Remote (List ℕ))
    → from_root line ≡ Some end → remote_for machine (root_in end) ≡ Some r
    → has_row rows r.name r.is_in_home ≡ false
    → has_row rows (host_in r.name) r.is_in_home ≡ false → line_for rows machine line ≡ line
unknown_host rows machine line end r e f h k =
    let none : base_for rows r ≡ None =
    (λ i. option_or (no-row rows r.name r.is_in_home h i) (no-row rows (host_in r.name) r.is_in_home k i)) in
    let stays : path_of rows machine (root_in end) ≡ None =
    ap (λ o. option_map path_of_local (local_of rows (root_in end) o)) f
    ∙ ap (λ o. option_map path_of_local (option_map (λ base. local base r.below) o)) none in
    ap (line_from rows machine line) e ∙ ap (with_root_if line end) stays

no-remote : (rows : List Row) (machine : Option (List ℕ)) (line : List ℕ) (o : Option (List ℕ)) → is_remote_end machine o ≡ false
    → is_drive_end o ≡ false → line_from rows machine line o ≡ line
no-remote rows machine line None h k = refl
no-remote rows machine line (Some end) h k =
    let root = root_in end in
    ap (λ r. with_root_if line end (option_map path_of_local (local_of rows root r))) (none (remote_for machine root) h)
    ∙ ap (λ b. with_root_if line end (option_map path_of_local (cond b (Some (local [] (below_of root))) None))) k
  where
    none : (r : Option (Remote (List ℕ))) → is_some r ≡ false → r ≡ None
    none None g = refl
    none (Some s) g = cc

lines-stay : (rows : List Row) (machine : Option (List ℕ)) (ls : List (Line (List ℕ)))
    → list_any (λ l. names_remote machine l.text) ls ≡ false → list_any (λ l. names_drive l.text) ls ≡ false
    → map (whole_line_for rows machine) ls ≡ ls
lines-stay rows machine [] h k = refl
lines-stay rows machine (l ∷ ls) h k =
    let parts = or_parts (names_remote machine l.text) (list_any (λ m. names_remote machine m.text) ls) h in
    let drives = or_parts (names_drive l.text) (list_any (λ m. names_drive m.text) ls) k in
    λ i. record {
      text = no-remote rows machine l.text (from_root l.text) parts.0 drives.0 i;
      is_ended = l.is_ended;
    } ∷ lines-stay rows machine ls parts.1 drives.1 i

pub no_remote_roots : (rows : List Row) (machine : Option (List ℕ)) (text : List ℕ)
    → list_any (λ l. names_remote machine l.text) (lines_of text) ≡ false
    → list_any (λ l. names_drive l.text) (lines_of text) ≡ false → text_for rows machine text ≡ text
no_remote_roots rows machine text h k =
    ap text_of_lines (lines-stay rows machine (lines_of text) h k) ∙ text_of_lines-lines_of text

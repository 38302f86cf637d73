-- What hubsync reads of a profile's text, its lines spell.
use Rattle.std.proofs.Common.{◌≡◌, ◌∙◌, ℕ, Bool, true, false, cond, List, [], ◌∷◌, ◌++◌, map, Option, Some, None, Result, Ok, Err, refl, sym, ap, subst, append-nil}
use Rattle.std.specs.Prelude.{⊤, ◌+◌, IfOk, bytes_eq, if◌then◌else◌}
use Rattle.std.specs.List.{enumerate_from, filter, fold}
use Rattle.std.specs.Result.{result_ok}
use Rattle.std.specs.Str.{is_utf8, chars}
use Rattle.std.proofs.lemmas.List.{append_assoc, map-append}
use Rattle.std.proofs.lemmas.Option.{none-some}
use Rattle.std.proofs.lemmas.Result.{IfOk-at_ok}
use Rattle.std.proofs.lemmas.Slice.Eq.{bytes_eq-Decides}
use Rattle.hub_text.specs.declared.line.Line.{Line}
use Rattle.hub_text.specs.Lines.{lines_of}
use Rattle.hub_path.specs.Path.{Name, Path}
use Rattle.hub_path.specs.Reading.{root_reading}
use Rattle.hub_path.specs.declared.fault.PathFault.{PathFault}
use Rattle.hub_glob.specs.Specification.{Specification}
use Rattle.hub_glob.specs.Reading.{spec_reading}
use Rattle.hub_glob.specs.declared.fault.GlobFault.{GlobFault}
use Rattle.hub_profile.specs.Arrow.{has_arrow, spec_and_root}
use Rattle.hub_profile.specs.Foreign.{foreign_fault}
use Rattle.hub_profile.specs.LineByLine.{and_line, at_line, lines_reading, look_up, not_utf8, with_line, with_pair}
use Rattle.hub_profile.specs.Lines.{is_one_of, is_setting, setting, trimmed_line}
use Rattle.hub_profile.specs.PartialLines.{partial_at, partials_of}
use Rattle.hub_profile.specs.Parts.{Parts}
use Rattle.hub_profile.specs.Reading.{has_all_partials, has_all_paths, has_all_patterns, if_said, keys, kept_reading, or_later, profile, profile_in, profile_reading, roots_fault, unless_fault, with_ignore, with_ignorenot, with_key, with_partial, with_path, with_preference, with_protected, with_root}
use Rattle.hub_profile.specs.Said.{Said, nothing_said}
use Rattle.hub_profile.specs.declared.bars.Bars.{Bars}
use Rattle.hub_profile.specs.declared.fault.Fault.{Fault}
use Rattle.hub_profile.specs.declared.fault.Fault.TheVariants as fault
use Rattle.hub_profile.specs.declared.fault.ProfileFault.{ProfileFault}
use Rattle.hub_unison.specs.Lines.{LineText, has_name, ignore_names, ignorenot_names, line_setting, line_spec, partial_names, sets, setting_spec, value_spec}
use Rattle.hub_unison.specs.Written.{IsWrittenAs, written_of}

abbrev Specs : Type 0
Specs = List (Option Specification)

abbrev said_specs : Said → Specs
said_specs said = map (λ l. Some l.spec) said.partials

-- What is said more has these specifications more.
abbrev Adds : Said → Specs → Specs → Specs → Said → Type 0
Adds said ignore ignorenot partial more =
    (map Some more.ignore ≡ map Some said.ignore ++ ignore)
    × (map Some more.ignorenot ≡ map Some said.ignorenot ++ ignorenot)
    × (said_specs more ≡ said_specs said ++ partial)

abbrev Yields : Said → Result Said Fault → Specs → Specs → Specs → Type 0
Yields said r ignore ignorenot partial = IfOk r (λ more. Adds said ignore ignorenot partial more)

no-more : (xs : Specs) → xs ≡ xs ++ []
no-more xs = sym (append-nil xs)

adds-nothing : (said : Said) → Adds said [] [] [] said
adds-nothing said =
    (no-more (map Some said.ignore), no-more (map Some said.ignorenot), no-more (said_specs said))

-- What a value adds, by its preference.
root-adds : (said : Said) (r : Result Path PathFault) → Yields said (with_root said r) [] [] []
root-adds said (Ok root) = adds-nothing said
root-adds said (Err f) = tt

path-adds : (said : Said) (b : Bool) (r : Result Path PathFault)
    → Yields said (if b then Err fault.TooMany else with_path said r) [] [] []
path-adds said true r = tt
path-adds said false (Ok path) = adds-nothing said
path-adds said false (Err f) = tt

ignore-adds : (said : Said) (b : Bool) (r : Result Specification GlobFault)
    → Yields said (if b then Err fault.TooMany else with_ignore said r) (result_ok r ∷ []) [] []
ignore-adds said true r = tt
ignore-adds said false (Ok spec) = (
  map-append Some said.ignore (spec ∷ []),
  no-more (map Some said.ignorenot),
  no-more (said_specs said),
)
ignore-adds said false (Err f) = tt

ignorenot-adds : (said : Said) (b : Bool) (r : Result Specification GlobFault)
    → Yields said (if b then Err fault.TooMany else with_ignorenot said r) [] (result_ok r ∷ []) []
ignorenot-adds said true r = tt
ignorenot-adds said false (Ok spec) = (
  no-more (map Some said.ignore),
  map-append Some said.ignorenot (spec ∷ []),
  no-more (said_specs said),
)
ignorenot-adds said false (Err f) = tt

protected-adds : (p : _) (said : Said) (n : ℕ) (r : Result Path PathFault)
    → Yields said (with_protected p said n r) [] [] []
protected-adds p said n (Ok root) = adds-nothing said
protected-adds p said n (Err f) = tt

forced-adds : (said : Said) (p : _) (a b : Bool) (n : ℕ) (r : Result Path PathFault)
    → Yields said (if a then Err fault.Repeated
    else (if b then Err fault.LeftOutValue else with_protected p said n r)) [] [] []
forced-adds said p true b n r = tt
forced-adds said p false true n r = tt
forced-adds said p false false n r = protected-adds p said n r

partial-adds : (bars : Bars) (said : Said) (n : ℕ) (a b : Bool)
    (s : Result Specification GlobFault) (r : Result Path PathFault)
    → Yields said (if a then Err fault.TooMany
    else (if b then with_partial bars said n s r else Err fault.NoArrow)) [] []
    ((if b then result_ok s else None) ∷ [])
partial-adds bars said n true b s r = tt
partial-adds bars said n false false s r = tt
partial-adds bars said n false true (Err f) r = tt
partial-adds bars said n false true (Ok spec) (Err f) = tt
partial-adds bars said n false true (Ok spec) (Ok root) = (
  no-more (map Some said.ignore),
  no-more (map Some said.ignorenot),
  map-append (λ l. Some l.spec) said.partials (_ ∷ []),
)

-- What a setting adds, by its name.
abbrev if_named : List (List ℕ) → List ℕ → List ℕ → Specs
if_named names name v = if is_one_of names name then value_spec name v ∷ [] else []

same-bytes : (a b : List ℕ) → bytes_eq a b ≡ true → a ≡ b
same-bytes a b e = (bytes_eq-Decides a b).0 e

module _ {K : Type 0} (P : List ℕ → Option K → Type 0) where
  abbrev EachRow : List (List ℕ × K) → Type 0
  EachRow [] = ⊤
  EachRow (row ∷ rows) = P row.0 (Some row.1) × EachRow rows

  looked-up : (name : List ℕ) (rows : List (List ℕ × K)) → EachRow rows → P name None
      → P name (look_up name rows)
  looked-up name [] each none = none
  looked-up name (row ∷ rows) each none =
      go (bytes_eq name row.0) refl each.0 (looked-up name rows each.1 none)
    where
      go : (b : Bool) → bytes_eq name row.0 ≡ b → P row.0 (Some row.1) → P name (look_up name rows)
          → P name (if b then Some row.1 else look_up name rows)
      go true e here later = subst (λ w. P w (Some row.1)) (sym (same-bytes name row.0 e)) here
      go false e here later = later

name-adds : (said : Said) (n : ℕ) (v name : List ℕ)
    → Yields said (with_preference said n name v) (if_named ignore_names name v)
    (if_named ignorenot_names name v) (if_named partial_names name v)
name-adds said n v name =
    looked-up
    (λ w o. Yields said (with_key o said n w v) (if_named ignore_names w v)
    (if_named ignorenot_names w v) (if_named partial_names w v))
    name keys
    (root-adds said (root_reading v), (path-adds said (has_all_paths said) (kept_reading v), (ignore-adds said (has_all_patterns said) (spec_reading v), (ignorenot-adds said (has_all_patterns said) (spec_reading v), (forced-adds said _ _ _ n (root_reading v), (forced-adds said _ _ _ n (root_reading v), (protected-adds _ said n (root_reading v), (protected-adds _ said n (root_reading v), (protected-adds _ said n (root_reading v), (partial-adds _ said n (has_all_partials said) (has_arrow v) (spec_reading (spec_and_root v).0) (root_reading (spec_and_root v).1), (partial-adds _ said n (has_all_partials said) (has_arrow v) (spec_reading (spec_and_root v).0) (root_reading (spec_and_root v).1), (partial-adds _ said n (has_all_partials said) (has_arrow v) (spec_reading (spec_and_root v).0) (root_reading (spec_and_root v).1), (adds-nothing said, (adds-nothing said, (adds-nothing said, (adds-nothing said, (adds-nothing said, (adds-nothing said, (adds-nothing said, (adds-nothing said, (adds-nothing said, (adds-nothing said, (adds-nothing said, (adds-nothing said, (adds-nothing said, (adds-nothing said, (adds-nothing said, tt)))))))))))))))))))))))))))
    tt

abbrev if_sets : List (List ℕ) → Option (List ℕ × List ℕ) → Specs
if_sets names o = if has_name names o then setting_spec o ∷ [] else []

abbrev AddsOf : Said → Result Said Fault → Option (List ℕ × List ℕ) → Type 0
AddsOf said r o =
    Yields said r (if_sets ignore_names o) (if_sets ignorenot_names o) (if_sets partial_names o)

line-adds : (b : Bool) (r : Result (List ℕ × List ℕ) Fault) (said : Said) (n : ℕ)
    → AddsOf said (if b then with_pair with_preference said n r else Ok said)
    (if b then result_ok r else None)
line-adds false r said n = adds-nothing said
line-adds true (Err f) said n = tt
line-adds true (Ok pair) said n = name-adds said n pair.1 pair.0

-- What several lines add.
abbrev specs_setting : List (List ℕ) → List LineText → Specs
specs_setting names ls = map line_spec (filter (sets names) ls)

one-more : (names : List (List ℕ)) (l : LineText) (ls : List LineText)
    → if_sets names (line_setting l) ++ specs_setting names ls ≡ specs_setting names (l ∷ ls)
one-more names l ls = go (sets names l)
  where
    go : (b : Bool) → (if b then line_spec l ∷ [] else []) ++ specs_setting names ls
        ≡ map line_spec (cond b (l ∷ filter (sets names) ls) (filter (sets names) ls))
    go true = refl
    go false = refl

then-more : (x y z u v w : Specs) → y ≡ x ++ u → z ≡ y ++ v → u ++ v ≡ w → z ≡ x ++ w
then-more x y z u v w e f g = f ∙ (ap (λ s. s ++ v) e ∙ (append_assoc x u v ∙ ap (λ s. x ++ s) g))

abbrev Numbered : Type 0
Numbered = ℕ × Line (List ℕ)

abbrev texts : List Numbered → List LineText
texts ls = map (λ (l : Numbered). l.1.text) ls

abbrev AddsAll : Said → Said → List LineText → Type 0
AddsAll said more ls =
    Adds said (specs_setting ignore_names ls) (specs_setting ignorenot_names ls)
    (specs_setting partial_names ls) more

fault-stays : (f : ProfileFault) (ls : List Numbered)
    → fold (and_line with_preference) (Err f) ls ≡ Err f
fault-stays f [] = refl
fault-stays f (l ∷ ls) = fault-stays f ls

not-ok : (f : ProfileFault) (more : Said) (r : Result Said ProfileFault) → r ≡ Err f → r ≡ Ok more → ⊥
not-ok f more r e h = cc

same-said : (said more : Said) (r : Result Said ProfileFault) → r ≡ Ok said → r ≡ Ok more → said ≡ more
same-said said more r e h = cc

lines-add : (ls : List Numbered) (said more : Said)
    → fold (and_line with_preference) (Ok said) ls ≡ Ok more → AddsAll said more (texts ls)
lines-add [] said more e =
    subst (λ s. Adds said [] [] [] s) (same-said said more (Ok said) refl e) (adds-nothing said)
lines-add (l ∷ ls) said more e = go (with_line with_preference said l.0 l.1.text) refl (lines-add ls) e
  where
    t : LineText
    t = l.1.text

    go : (r : Result Said Fault) → with_line with_preference said l.0 t ≡ r
        → ((mid more : Said) → fold (and_line with_preference) (Ok mid) ls ≡ Ok more
        → AddsAll mid more (texts ls))
        → fold (and_line with_preference) (at_line l.0 r) ls ≡ Ok more
        → AddsAll said more (t ∷ texts ls)
    go (Err f) is later e =
        let at : ProfileFault = record { line = l.0; fault = f } in
        absurd (not-ok at more (fold (and_line with_preference) (Err at) ls) (fault-stays at ls) e)
    go (Ok mid) is later e =
        let one = IfOk-at_ok
        (λ m. Adds said (if_sets ignore_names (line_setting t)) (if_sets ignorenot_names (line_setting t))
        (if_sets partial_names (line_setting t)) m) is
        (line-adds (is_setting (trimmed_line t)) (setting (trimmed_line t)) said l.0) in
        let rest = later mid more e in (
          then-more (map Some said.ignore) (map Some mid.ignore) (map Some more.ignore)
              (if_sets ignore_names (line_setting t)) (specs_setting ignore_names (texts ls))
              (specs_setting ignore_names (t ∷ texts ls)) one.0 rest.0 (one-more ignore_names t (texts ls)),
          then-more (map Some said.ignorenot) (map Some mid.ignorenot) (map Some more.ignorenot)
              (if_sets ignorenot_names (line_setting t)) (specs_setting ignorenot_names (texts ls))
              (specs_setting ignorenot_names (t ∷ texts ls)) one.1 rest.1 (one-more ignorenot_names t (texts ls)),
          then-more (said_specs said) (said_specs mid) (said_specs more)
              (if_sets partial_names (line_setting t)) (specs_setting partial_names (texts ls))
              (specs_setting partial_names (t ∷ texts ls)) one.2 rest.2 (one-more partial_names t (texts ls)),
        )

numbered-texts : (n : ℕ) (ls : List (Line (List ℕ))) → texts (enumerate_from n ls) ≡ map (λ l. l.text) ls
numbered-texts n [] = refl
numbered-texts n (l ∷ ls) = ap (λ ts. l.text ∷ ts) (numbered-texts (n + 1) ls)

-- The bars of lines have their specifications.
mapped : {A B C : Type 0} (f : A → B) (g : B → C) (xs : List A)
    → map g (map f xs) ≡ map (λ x. g (f x)) xs
mapped f g [] = refl
mapped f g (x ∷ xs) = ap (λ ys. g (f x) ∷ ys) (mapped f g xs)

bars-spelled : (said : Said) (roots : List Path) → roots_fault roots ≡ None
    → map (λ b. Some b.spec) (partials_of roots said.partials) ≡ said_specs said
bars-spelled said [] none = absurd (none-some fault.RootCount (sym none))
bars-spelled said (left ∷ roots) none =
    mapped (partial_at left) (λ b. Some b.spec) said.partials

-- What is read of bytes.
module _ (name : Name) (bytes : List ℕ) (P : Parts) where
  abbrev cs : List ℕ
  cs = chars bytes

  written-as : (said : Said) → lines_reading with_preference nothing_said cs ≡ Ok said
      → roots_fault said.roots ≡ None → profile name said ≡ P → IsWrittenAs (written_of P bytes) P
  written-as said read none is =
      let all = subst (λ ls. AddsAll nothing_said said ls) (numbered-texts 1 (lines_of cs))
      (lines-add (enumerate_from 1 (lines_of cs)) nothing_said said read) in
      record {
        parts = refl;
        ignore = sym all.0 ∙ ap (λ Q. map Some Q.ignore) is;
        ignorenot = sym all.1 ∙ ap (λ Q. map Some Q.ignorenot) is;
        partial = sym all.2 ∙ (sym (bars-spelled said said.roots none)
            ∙ ap (λ Q. map (λ b. Some b.spec) Q.partial) is);
      }

  by-roots : (said : Said) (o : Option Fault) (later : Option ProfileFault)
      → lines_reading with_preference nothing_said cs ≡ Ok said → roots_fault said.roots ≡ o
      → unless_fault (or_later o later) (profile name said) ≡ Ok P → IsWrittenAs (written_of P bytes) P
  by-roots said None None read none e =
      let same : profile name said ≡ P = cc in written-as said read none same
  by-roots said None (Some f) read none e = cc
  by-roots said (Some f) later read none e = cc

  by-lines : (r : Result Said ProfileFault) → lines_reading with_preference nothing_said cs ≡ r
      → if_said name r ≡ Ok P → IsWrittenAs (written_of P bytes) P
  by-lines (Ok said) read e =
      by-roots said (roots_fault said.roots) (foreign_fault said.roots said.protections said.partials)
      read refl e
  by-lines (Err f) read e = cc

  by-text : (b : Bool) → (if b then profile_reading name cs else Err not_utf8) ≡ Ok P
      → IsWrittenAs (written_of P bytes) P
  by-text true e = by-lines (lines_reading with_preference nothing_said cs) refl e
  by-text false e = cc

pub profile-written : (name : Name) (bytes : List ℕ) (P : Parts) → profile_in name bytes ≡ Ok P
    → IsWrittenAs (written_of P bytes) P
profile-written name bytes P e = by-text name bytes P (is_utf8 bytes) e

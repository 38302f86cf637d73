-- What is read of a text is made of names.
use Rattle.std.proofs.Common.{◌≡◌, ◌==◌, ℕ, ◌+◌, Bool, true, false, cond, ◌&&◌, not, List, [], ◌∷◌, ◌++◌, Option, Some, None, Ok, Err, Result, IsTrue, length, drop, reverse, refl, subst, ◌∙◌}
use Rattle.std.specs.List.{list_all, slice_split, onto_first, enumerate_from, after_first, position_or_len, fold}
use Rattle.std.specs.Str.{all_scalars}
use Rattle.std.proofs.lemmas.Bool.{and_parts, and_from}
use Rattle.std.proofs.lemmas.List.Folds.{list_all-append}
use lib.Utf8.{scalar}
use mathlib.Core.List.{reverse_aux}
use Rattle.hub_path.specs.Path.{Path, is_name, is_place, path_of}
use Rattle.hub_path.specs.Reading.{name_fault, names_fault, path_fault, root_fault, path_reading, root_reading, root_names, without_last_slash, is_remote, begins_with_slash}
use Rattle.hub_text.specs.declared.line.Line.{Line}
use Rattle.hub_text.specs.Lines.{lines_of, without_last}
use Rattle.hub_text.specs.laws.Line.{are_scalars, scalars-lines_of}
use Rattle.hub_path.specs.declared.fault.PathFault.{PathFault}
use Rattle.hub_path.specs.declared.fault.PathFault.TheVariants.{Empty, LeadingSlash, RemoteRoot, NotAbsolute, TooDeep}
use Rattle.hub_path.specs.declared.rel_path.TheConstants.{PATH_NAMES}
use Rattle.hub_path.specs.laws.NameFacts.{is_name-no_fault}
use Rattle.hub_path.specs.laws.ReadNames.{or_fault-Ok, first_fault-None, tested-None}
use Rattle.hub_text.specs.Blanks.{skip_blanks}
use Rattle.hub_glob.specs.Specification.{Specification}
use Rattle.hub_glob.specs.Reading.{spec_reading}
use Rattle.hub_glob.specs.laws.Scalars.{either-scalars, skip-scalars, drop-scalars}
use Rattle.hub_glob.specs.declared.fault.GlobFault.{GlobFault}
use Rattle.hub_profile.specs.declared.fault.Fault.{Fault}
use Rattle.hub_profile.specs.declared.fault.Fault.TheVariants.{IncludeLeftOut, NoEquals, NoArrow}
use Rattle.hub_profile.specs.declared.fault.ProfileFault.{ProfileFault}
use Rattle.hub_profile.specs.declared.key.Key.{Key}
use Rattle.hub_profile.specs.declared.key.Key.TheVariants as key
use Rattle.hub_profile.specs.declared.protection.Protection.{Protection}
use Rattle.hub_profile.specs.declared.bars.Bars.{Bars}
use Rattle.hub_profile.specs.Protection.{repeats, is_left_out}
use Rattle.hub_profile.specs.Arrow.{has_arrow, spec_and_root}
use Rattle.hub_profile.specs.Lines.{setting, is_setting, is_include, has_equals, trimmed_line, trimmed}
use Rattle.hub_profile.specs.LineByLine.{with_pair, with_line, at_line, and_line, lines_reading, look_up}
use Rattle.hub_profile.specs.Said.{Said, nothing_said}
use Rattle.hub_profile.specs.Reading.{kept_reading, keys, with_root, with_path, with_ignore, with_ignorenot, with_protected, with_partial, with_spec_and_root, has_all_paths, has_all_patterns, has_all_partials, with_value, with_key, with_preference}

-- Cuts of characters are characters.
turn_onto : (cs ds : List ℕ) → all_scalars cs ≡ true → all_scalars ds ≡ true → all_scalars (reverse_aux cs ds) ≡ true
turn_onto [] ds h k = k
turn_onto (c ∷ cs) ds h k = let parts = and_parts (scalar c) (all_scalars cs) h in turn_onto cs (c ∷ ds) parts.1 (and_from (scalar c) (all_scalars ds) parts.0 k)

turn : (cs : List ℕ) → all_scalars cs ≡ true → all_scalars (reverse cs) ≡ true
turn cs h = turn_onto cs [] h refl

cut_around : (cs : List ℕ) → all_scalars cs ≡ true → all_scalars (trimmed cs) ≡ true
cut_around cs h = turn (skip_blanks (reverse (skip_blanks cs))) (skip-scalars (reverse (skip_blanks cs)) (turn (skip_blanks cs) (skip-scalars cs h)))

cut_last : (c : ℕ) (cs : List ℕ) → all_scalars cs ≡ true → all_scalars (without_last c cs) ≡ true
cut_last c [] h = refl
cut_last c (d ∷ []) h = either-scalars (d == c) [] (d ∷ []) refl h
cut_last c (d ∷ e ∷ cs) h = let parts = and_parts (scalar d) (all_scalars (e ∷ cs)) h in and_from (scalar d) _ parts.0 (cut_last c (e ∷ cs) parts.1)

cut_parts : (c : ℕ) (b : Bool) (ps : List (List ℕ)) → scalar c ≡ true → list_all all_scalars ps ≡ true → list_all all_scalars (cond b ([] ∷ ps) (onto_first c ps)) ≡ true
cut_parts c true ps s h = h
cut_parts c false [] s h = and_from (scalar c && true) true (and_from (scalar c) true s refl) refl
cut_parts c false (p ∷ ps) s h = let parts = and_parts (all_scalars p) (list_all all_scalars ps) h in and_from (all_scalars (c ∷ p)) (list_all all_scalars ps) (and_from (scalar c) (all_scalars p) s parts.0) parts.1

cut_all : (p : ℕ → Bool) (cs : List ℕ) → all_scalars cs ≡ true → list_all all_scalars (slice_split p cs) ≡ true
cut_all p [] h = refl
cut_all p (c ∷ cs) h = let parts = and_parts (scalar c) (all_scalars cs) h in cut_parts c (p c) (slice_split p cs) parts.0 (cut_all p cs parts.1)

-- Names without a fault.
names_fine : (depth : ℕ) (ns : Path) → list_all all_scalars ns ≡ true → names_fault depth ns ≡ None → is_place ns ≡ true
names_fine depth [] s h = refl
names_fine depth (n ∷ ns) s h =
    let parts = and_parts (all_scalars n) (list_all all_scalars ns) s in
    let fine = first_fault-None (name_fault n) (names_fault (depth + 1) ns) (tested-None (depth == PATH_NAMES) TooDeep _ h).1 in
    and_from (is_name n) (is_place ns) (is_name-no_fault n parts.0 fine.0) (names_fine (depth + 1) ns parts.1 fine.1)

last_of_three : (a b : Bool) (e f : PathFault) (o : Option PathFault) → cond a (Some e) (cond b (Some f) o) ≡ None → o ≡ None
last_of_three true b e f o h = cc
last_of_three false true e f o h = cc
last_of_three false false e f o h = h

path_is_place : (cs : List ℕ) (p : Path) → all_scalars cs ≡ true → path_reading cs ≡ Ok p → is_place p ≡ true
path_is_place cs p s h =
    let read = or_fault-Ok (path_fault cs) (path_of cs) p h in
    subst (λ q. is_place q ≡ true) read.1 (names_fine 0 (path_of cs) (cut_all (λ c. c == 47) cs s) (last_of_three (length cs == 0) (begins_with_slash cs) Empty LeadingSlash _ read.0))

either_place : (b : Bool) (ps : Path) → list_all all_scalars ps ≡ true → list_all all_scalars (cond b [] ps) ≡ true
either_place true ps h = refl
either_place false ps h = h

root_is_place : (cs : List ℕ) (p : Path) → all_scalars cs ≡ true → root_reading cs ≡ Ok p → is_place p ≡ true
root_is_place cs p s h =
    let read = or_fault-Ok (root_fault cs) (root_names cs) p h in
    let rest = without_last_slash (drop 1 cs) in
    let characters : all_scalars rest ≡ true = cut_last 47 (drop 1 cs) (drop-scalars 1 cs s) in
    subst (λ q. is_place q ≡ true) read.1 (names_fine 0 (root_names cs) (either_place (length rest == 0) (path_of rest) (cut_all (λ c. c == 47) rest characters)) (tested-None _ NotAbsolute _ (last_of_three (length cs == 0) (is_remote cs) Empty RemoteRoot _ read.0)).1)

kept_is_place : (cs : List ℕ) (p : Path) → all_scalars cs ≡ true → kept_reading cs ≡ Ok p → is_place p ≡ true
kept_is_place cs p s h = by_case (length cs == 0) (begins_with_slash cs) h
  where
    by_case : (a b : Bool) → cond a (Ok []) (cond b (Err LeadingSlash) (path_reading (without_last_slash cs))) ≡ Ok p → is_place p ≡ true
    by_case true b e = subst (λ q. is_place q ≡ true) (ok_is e) refl
      where
        ok_is : {x y : Path} → (let r : Result Path PathFault = Ok x in r ≡ Ok y) → x ≡ y
        ok_is e = cc
    by_case false true e = cc
    by_case false false e = path_is_place (without_last_slash cs) p (cut_last 47 cs s) e

-- The roots and the `path` values of what is said are places.
abbrev pub ArePlaces : Said → Type 0
ArePlaces said = IsTrue (list_all is_place said.roots) × IsTrue (list_all is_place said.paths)

abbrev pub IfSaid : {E : Type 0} → Result Said E → Type 0
IfSaid (Ok said) = ArePlaces said
IfSaid (Err f) = Unit {0}

one_more : (ps : List Path) (p : Path) → list_all is_place ps ≡ true → is_place p ≡ true → list_all is_place (ps ++ p ∷ []) ≡ true
one_more ps p h k = list_all-append is_place ps (p ∷ []) ∙ and_from (list_all is_place ps) (is_place p && true) h (and_from (is_place p) true k refl)

root_said : (said : Said) (cs : List ℕ) (r : Result Path PathFault) → ArePlaces said → all_scalars cs ≡ true → root_reading cs ≡ r → IfSaid (with_root said r)
root_said said cs (Ok p) h s e = (one_more said.roots p h.0 (root_is_place cs p s e), h.1)
root_said said cs (Err f) h s e = tt

path_said : (said : Said) (cs : List ℕ) (r : Result Path PathFault) → ArePlaces said → all_scalars cs ≡ true → kept_reading cs ≡ r → IfSaid (with_path said r)
path_said said cs (Ok p) h s e = (h.0, one_more said.paths p h.1 (kept_is_place cs p s e))
path_said said cs (Err f) h s e = tt

ignore_said : (said : Said) (r : Result Specification GlobFault) → ArePlaces said → IfSaid (with_ignore said r)
ignore_said said (Ok spec) h = h
ignore_said said (Err f) h = tt

ignorenot_said : (said : Said) (r : Result Specification GlobFault) → ArePlaces said → IfSaid (with_ignorenot said r)
ignorenot_said said (Ok spec) h = h
ignorenot_said said (Err f) h = tt

protected_said : (said : Said) (p : Protection) (n : ℕ) (r : Result Path PathFault) → ArePlaces said → IfSaid (with_protected p said n r)
protected_said said p n (Ok root) h = h
protected_said said p n (Err f) h = tt

partial_said : (said : Said) (bars : Bars) (n : ℕ) (s : Result Specification GlobFault) (r : Result Path PathFault) → ArePlaces said → IfSaid (with_partial bars said n s r)
partial_said said bars n (Ok spec) (Ok root) h = h
partial_said said bars n (Ok spec) (Err f) h = tt
partial_said said bars n (Err f) r h = tt

if_arrow : (b : Bool) (r : Result Said Fault) → IfSaid r → IfSaid (cond b r (Err NoArrow))
if_arrow true r h = h
if_arrow false r h = tt

unless_fault : (b : Bool) (f : Fault) (r : Result Said Fault) → IfSaid r → IfSaid (cond b (Err f) r)
unless_fault true f r h = tt
unless_fault false f r h = h

value_said : (k : Key) (said : Said) (n : ℕ) (v : List ℕ) → ArePlaces said → all_scalars v ≡ true → IfSaid (with_value k said n v)
value_said key.Root said n v h s = root_said said v (root_reading v) h s refl
value_said key.Path said n v h s = unless_fault (has_all_paths said) _ _ (path_said said v (kept_reading v) h s refl)
value_said key.Ignore said n v h s = unless_fault (has_all_patterns said) _ _ (ignore_said said (spec_reading v) h)
value_said key.IgnoreNot said n v h s = unless_fault (has_all_patterns said) _ _ (ignorenot_said said (spec_reading v) h)
value_said (key.Protect p) said n v h s =
    unless_fault (repeats p said.protections) _ _ (unless_fault (is_left_out p v) _ _ (protected_said said p n (root_reading v) h))
value_said (key.Partial bars) said n v h s =
    unless_fault (has_all_partials said) _ _ (if_arrow (has_arrow v) (with_spec_and_root bars said n (spec_and_root v)) (partial_said said bars n _ _ h))
value_said key.NoEffect said n v h s = h

key_said : (o : Option Key) (said : Said) (n : ℕ) (name v : List ℕ) → ArePlaces said → all_scalars v ≡ true → IfSaid (with_key o said n name v)
key_said (Some k) said n name v h s = value_said k said n v h s
key_said None said n name v h s = tt

pair_said : (said : Said) (n : ℕ) (a b : Bool) (name v : List ℕ) → ArePlaces said → all_scalars v ≡ true → IfSaid (with_pair with_preference said n (cond a (Err IncludeLeftOut) (cond (not b) (Err NoEquals) (Ok (name, v)))))
pair_said said n true b name v h s = tt
pair_said said n false false name v h s = tt
pair_said said n false true name v h s = key_said (look_up name keys) said n name v h s

setting_said : (said : Said) (n : ℕ) (l : List ℕ) → ArePlaces said → all_scalars l ≡ true → IfSaid (with_pair with_preference said n (setting l))
setting_said said n l h s =
    pair_said said n (is_include l) (has_equals l) _ (trimmed (after_first (λ c. c == 61) l)) h (cut_around (after_first (λ c. c == 61) l) (drop-scalars (position_or_len (λ c. c == 61) l + 1) l s))

line_said : (said : Said) (n : ℕ) (l : List ℕ) → ArePlaces said → all_scalars l ≡ true → IfSaid (with_line with_preference said n l)
line_said said n l h s = by_case (is_setting (trimmed_line l)) (setting_said said n (trimmed_line l) h (cut_around (without_last 13 l) (cut_last 13 l s)))
  where
    by_case : (b : Bool) → IfSaid (with_pair with_preference said n (setting (trimmed_line l))) → IfSaid (cond b (with_pair with_preference said n (setting (trimmed_line l))) (Ok said))
    by_case true k = k
    by_case false k = h

at_line_said : (n : ℕ) (r : Result Said Fault) → IfSaid r → IfSaid (at_line n r)
at_line_said n (Ok said) h = h
at_line_said n (Err f) h = tt

and_line_said : (r : Result Said ProfileFault) (n : ℕ) (l : Line (List ℕ)) → IfSaid r → all_scalars l.text ≡ true → IfSaid (and_line with_preference r (n, l))
and_line_said (Ok said) n l h s = at_line_said n (with_line with_preference said n l.text) (line_said said n l.text h s)
and_line_said (Err f) n l h s = tt

lines_said : (n : ℕ) (ls : List (Line (List ℕ))) (r : Result Said ProfileFault) → are_scalars ls ≡ true → IfSaid r → IfSaid (fold (and_line with_preference) r (enumerate_from n ls))
lines_said n [] r s h = h
lines_said n (l ∷ ls) r s h =
    let parts = and_parts (all_scalars l.text) (are_scalars ls) s in
    lines_said (n + 1) ls (and_line with_preference r (n, l)) parts.1 (and_line_said r n l h parts.0)

pub said_are_places : (cs : List ℕ) (said : Said) → all_scalars cs ≡ true → lines_reading with_preference nothing_said cs ≡ Ok said → ArePlaces said
said_are_places cs said s h = subst IfSaid h (lines_said 1 (lines_of cs) (Ok nothing_said) (scalars-lines_of cs s) (refl, refl))

-- From what clap says of a parse to what the words ask for.
use Rattle.std.proofs.Common.{◌≡◌, ◌∙◌, ◌⊎◌, ◌<◌, ◌^◌, inl, inr, ℕ, refl, sym, ap, ap₂, subst, arith, Bool, true, false, cond, true≢false, List, [], ◌∷◌, Option, Some, None, Result, Ok, Err, IfErr, IsErrAnd, codes, is_some, option_map, unwrap_or}
use Rattle.std.specs.Prelude.{Box}
use Rattle.std.specs.Box.{box_value}
use Rattle.std.specs.Str.{bytes_eq}
use Rattle.std.specs.Str.Parse.{IsNumeral, ParsesUnsigned, digits_value, without_leading_plus}
use Rattle.clap.proofs.OnLiterals.{clap_on_literals}
use Rattle.clap.proofs.ValueTestLemmas.{Accepts-accepts, accepts-Accepts}
use Rattle.clap.proofs.WalkLemmas.{first_value-rows, raw_values-rows}
use Rattle.clap.specs.Kinds.{HasKind, Kinds}
use Rattle.clap.specs.Matches.{ReadsOne}
use Rattle.clap.specs.Simple.{subcommand_rows}
use Rattle.clap.specs.ValueTests.{accepts}
use Rattle.clap.specs.Words.{App, HasMatchesOf, Row, Text, all_of, fault_of, first_of, first_value, found_of, is_simple, is_simple_and_free, kind_of, matched_of, raw_values, rows_of, subcommand_name_of, subcommand_of, subcommand_rows_of}
use Rattle.clap.specs.declared.builder.value_parser.ValueParser.TheVariants.{Unsigned}
use Rattle.clap.specs.declared.error.Error.{Error}
use Rattle.clap.specs.declared.error.kind.ErrorKind.TheVariants.{OutOfMemory}
use Rattle.clap.specs.declared.parser.matches.Found.{Found}
use Rattle.clap.specs.declared.parser.matches.ArgMatches.{ArgMatches}
use Rattle.clap.specs.declared.parser.matches.ArgMatches.TheViews.{out-ArgMatches, out-SubCommand}
use Rattle.clap.specs.declared.parser.matches.SubCommand.{SubCommand}
use Rattle.hub_cli.specs.Words.{Request, about_files, asked_of, byte_of, files_of, hubsync_app, is_strict_in, is_strict_of, is_unison_in, is_unison_of, names_found, names_in, operands_of, reading_in, request_in, asked_unless, workers_in, Names}

simple : is_simple hubsync_app ≡ true
unfolding clap_on_literals hubsync_app
simple = refl

simple_and_free : is_simple_and_free hubsync_app ≡ true
unfolding clap_on_literals hubsync_app
simple_and_free = refl

-- the matches have the command that was used, and its rows
used_is : (a : App) (words : List Text) (m : ArgMatches) → a ≡ hubsync_app → HasMatchesOf a words m
    → subcommand_rows_of m ≡ subcommand_of hubsync_app words
used_is a words m is matches = (matches (ap is_simple is ∙ simple)).1 ∙ ap (λ (b : App). subcommand_of b words) is

pub is_some-option_map : {A B : Type 0} (f : A → B) (o : Option A) → is_some (option_map f o) ≡ is_some o
is_some-option_map f None = refl
is_some-option_map f (Some x) = refl

-- where a parse gives matches, they say what is asked for,
pub asked_is : (a : App) (words : List Text) (m : ArgMatches) → a ≡ hubsync_app
    → (is_simple_and_free a ≡ true → fault_of a words ≡ []) → HasMatchesOf a words m
    → asked_of words ≡ request_in (subcommand_rows_of m)
unfolding asked_of
asked_is a words m is faultless matches =
    let none : fault_of hubsync_app words ≡ [] = subst (λ (b : App). fault_of b words ≡ []) is (faultless (ap is_simple_and_free is ∙ simple_and_free)) in
    ap₂ asked_unless none (sym (ap request_in (used_is a words m is matches)))

-- and which files the words name
pub files_are : (a : App) (words : List Text) (m : ArgMatches) → a ≡ hubsync_app → HasMatchesOf a words m
    → files_of words ≡ names_in (subcommand_rows_of m)
unfolding files_of
files_are a words m is matches = sym (ap names_in (used_is a words m is matches))

-- and whether they have `--strict`
pub strict_is : (a : App) (words : List Text) (m : ArgMatches) → a ≡ hubsync_app → HasMatchesOf a words m
    → is_strict_of words ≡ is_strict_in (subcommand_rows_of m)
unfolding is_strict_of
strict_is a words m is matches = sym (ap is_strict_in (used_is a words m is matches))

-- and whether they have `--unison`
pub unison_is : (a : App) (words : List Text) (m : ArgMatches) → a ≡ hubsync_app → HasMatchesOf a words m
    → is_unison_of words ≡ is_unison_in (subcommand_rows_of m)
unfolding is_unison_of
unison_is a words m is matches = sym (ap is_unison_in (used_is a words m is matches))

-- where it gives none, memory ran out, or nothing is asked for
pub refused : (a : App) (words : List Text) (e : Error) → a ≡ hubsync_app
    → (is_simple_and_free a ≡ true → HasKind (fault_of a words) e) → (kind_of e ≡ OutOfMemory) ⊎ (asked_of words ≡ None)
unfolding asked_of
refused a words e is faults =
    go (fault_of hubsync_app words) (request_in (subcommand_of hubsync_app words))
    (subst (λ (b : App). HasKind (fault_of b words) e) is (faults (ap is_simple_and_free is ∙ simple_and_free)))
  where
    go : (kinds : Kinds) (request : Option Request) → HasKind kinds e → (kind_of e ≡ OutOfMemory) ⊎ (asked_unless kinds request ≡ None)
    go [] request (inl h) = inl h
    go [] request (inr h) = absurd h
    go (k ∷ ks) request h = inr refl

pub passed_up : {T E : Type 0} (r : Result T E) (e : E) (P : E → Type 0) → IsErrAnd r (λ y. y ≡ e) → P e → IfErr r P
passed_up (Ok x) e P is p = tt
passed_up (Err y) e P is p = subst P (sym is) p

module _ {Z : Type 0} where
  abbrev name_in : Box SubCommand Z → Text
  name_in b = (out-SubCommand (box_value b)).name.now

  parts : (used : Option (Box SubCommand Z)) (name : Text) (rows : List Row) → Some name ≡ option_map name_in used
      → Some rows ≡ option_map (λ p. p.1) (subcommand_rows used) → subcommand_rows used ≡ Some (name, rows)
  parts None name rows e h = absurd (true≢false (ap (λ (o : Option Text). is_some o) e))
  parts (Some b) name rows e h =
      let p : (out-SubCommand (box_value b)).name.now ≡ name = ap (λ (o : Option Text). unwrap_or o name) (sym e) in
      let q : rows_of (found_of (out-SubCommand (box_value b)).matches) ≡ rows = ap (λ (o : Option (List Row)). unwrap_or o rows) (sym h) in
      λ i. Some (p i, q i)

-- what a command asks for, where this says whether it is `reach`
abbrev by_name : Text → List Row → Bool → Option Request
by_name name rows b = cond b (operands_of (reading_in rows) (first_of (codes "profile") rows) (first_of (codes "path") rows)) (about_files name rows)

-- the operands of `reach`, by the getters of the subcommand's matches
pub reach_in : (m : ArgMatches) (name : Text) (o : ArgMatches) → Some name ≡ subcommand_name_of m
    → Some (rows_of (found_of o)) ≡ option_map (λ p. p.1) (subcommand_rows_of m) → bytes_eq name (codes "reach") ≡ true
    → request_in (subcommand_rows_of m) ≡ operands_of (reading_in (rows_of (found_of o))) (first_value (found_of o) (codes "profile")) (first_value (found_of o) (codes "path"))
reach_in m name o e h is =
    ap request_in (parts (out-ArgMatches m).subcommand name (rows_of (found_of o)) e h)
    ∙ ap (λ (b : Bool). by_name name (rows_of (found_of o)) b) is
    ∙ ap₂ (operands_of (reading_in (rows_of (found_of o)))) (sym (first_value-rows (found_of o) (codes "profile"))) (sym (first_value-rows (found_of o) (codes "path")))

-- what a command about the set asks for
pub about_in : (m : ArgMatches) (name : Text) (o : ArgMatches) → Some name ≡ subcommand_name_of m
    → Some (rows_of (found_of o)) ≡ option_map (λ p. p.1) (subcommand_rows_of m) → bytes_eq name (codes "reach") ≡ false
    → request_in (subcommand_rows_of m) ≡ about_files name (rows_of (found_of o))
about_in m name o e h is =
    ap request_in (parts (out-ArgMatches m).subcommand name (rows_of (found_of o)) e h)
    ∙ ap (λ (b : Bool). by_name name (rows_of (found_of o)) b) is

-- the files that a command names, by the getters of the subcommand's matches
abbrev with_names : List Text → Option Text → Option Text → Option Text → Option Text → Names
with_names ps r s c h = record { profiles = ps; rules = r; state = s; certificates = c; hosts = h }

pub names_are : {ps : List Text} {r s c h : Option Text} (f : Found)
    → ps ≡ unwrap_or (option_map raw_values (matched_of f (codes "files"))) [] → r ≡ first_value f (codes "rules")
    → s ≡ first_value f (codes "state") → c ≡ first_value f (codes "certificates") → h ≡ first_value f (codes "hosts")
    → with_names ps r s c h ≡ names_found (rows_of f)
names_are f hp hr hs hc hh =
    let files = hp ∙ ap (λ o. unwrap_or o []) (raw_values-rows f (codes "files")) in
    let rules = hr ∙ first_value-rows f (codes "rules") in
    let state = hs ∙ first_value-rows f (codes "state") in
    let certificates = hc ∙ first_value-rows f (codes "certificates") in
    let hosts = hh ∙ first_value-rows f (codes "hosts") in
    λ i. with_names (files i) (rules i) (state i) (certificates i) (hosts i)

-- the text is read as a byte
abbrev IsByte : Text → Type 0
IsByte text = IsNumeral 10 (without_leading_plus text) × (digits_value 10 (without_leading_plus text) < 2 ^ 8)

-- such a text says its number,
byte-ok : (text : Text) (n : ℕ) → IsByte text × (n ≡ digits_value 10 (without_leading_plus text)) → byte_of text ≡ Some n
byte-ok text n h =
    let accepted : accepts false (Unsigned 0 255) text ≡ true = Accepts-accepts false (Unsigned 0 255) text (h.0.0, omega (arith, h.0.1), omega arith, omega (arith, h.0.1)) in
    ap (λ (b : Bool). cond b (Some (digits_value 10 (without_leading_plus text))) None) accepted ∙ ap Some (sym h.1)

-- and another one says none
byte-err : (text : Text) → ¬ (IsByte text) → byte_of text ≡ None
byte-err text h = go (accepts false (Unsigned 0 255) text) refl
  where
    go : (b : Bool) → accepts false (Unsigned 0 255) text ≡ b → byte_of text ≡ None
    go false is = ap (λ (b : Bool). cond b (Some (digits_value 10 (without_leading_plus text))) None) is
    go true is =
        let p = accepts-Accepts false (Unsigned 0 255) text is in
        absurd (h (p.0, omega (arith, p.3)))

-- the number of workers, by the getter of the subcommand's matches
pub workers_are : {E : Type 0} (P : Text → Result ℕ E → Type 0) → ((text : Text) (q : Result ℕ E) → P text q → ParsesUnsigned 8 10 text q)
    → (o : Option Text) (r : Option ℕ) → (o ≡ None → r ≡ None) → ((text : Text) → o ≡ Some text → ReadsOne P text r)
    → r ≡ workers_in o
workers_are P parses None r none value = none refl
workers_are P parses (Some text) (Some n) none value = sym (byte-ok text n (parses text (Ok n) (value text refl)))
workers_are P parses (Some text) None none value =
    let e = value text refl in
    sym (byte-err text (parses text (Err e.0) e.1))

-- What the words on the command line ask for.
use Rattle.std.specs.Prelude.{◌≡◌, ℕ, pos, ◌==◌, nat_eq, Bool, false, true, not, ◌&&◌, ◌||◌, if◌then◌else◌}
use Rattle.std.specs.Prelude.{List, [], ◌∷◌, codes, length, map, Option, None, Some, option_map}
use Rattle.std.specs.Prelude.{is_some, unwrap_or}
use Rattle.std.specs.List.{ends_with, list_all}
use Rattle.std.specs.Str.{bytes_eq}
use Rattle.std.specs.Str.Parse.{digits_value, without_leading_plus}
use Rattle.clap.specs.Kinds.{Kinds}
use Rattle.clap.specs.Simple.{on_top}
use Rattle.clap.specs.ValueTests.{is_unsigned_in}
use Rattle.clap.specs.declared.builder.command.Command.{Command}
use Rattle.clap.specs.declared.builder.command.Command.TheViews.{out-Command as fields_of}
use Rattle.clap.specs.Words.{App, Row, Rule, Text, all_of, app_of, fault_of, first_of, new_app, new_rule}
use Rattle.clap.specs.Words.{one_of, subcommand_of, with_rule, with_subcommand}
use Rattle.clap.specs.declared.builder.action.ArgAction.TheVariants.{Append, SetTrue}
use Rattle.clap.specs.declared.builder.value_parser.ValueParser.TheVariants.{Signed}
use Rattle.hub_cli.specs.declared.files.Files.{Files}
use Rattle.hub_cli.specs.declared.words.Query.{Query}
use Rattle.hub_cli.specs.declared.words.Query.TheVariants.{About, Reach, Import, Plan, RoundsAlone, Mend}
use Rattle.hub_cli.specs.declared.words.Question.{Question}
use Rattle.hub_cli.specs.declared.words.Question.TheVariants.{CheckWithState, Run, RunByRounds, RunInOrder}
use Rattle.hub_cli.specs.declared.words.Question.TheVariants.{Check, Certify, Verify}
use Rattle.hub_cli.specs.declared.words.Question.TheVariants.{Clashes, Graph, Rounds}
use Rattle.hub_cli.specs.declared.words.Reading.{Reading}
use Rattle.hub_cli.specs.declared.words.Reading.TheVariants.{Plain, Unison}
use Rattle.hub_cli.specs.declared.words.TheConstants.{DEFAULT_WORKERS_TEXT}

-- A command of this application, none of whose options is that of its subcommands, too.
abbrev pub IsCommand : App → Command → Type 0
IsCommand app c = (app_of c ≡ app) × ((fields_of c).has_globals ≡ false)

-- a required operand
abbrev pub operand : Text → Rule
operand id = record (new_rule id) { value_names = 1; required = true }

-- the option `--workers N`: a number from 0 to 255, and `DEFAULT_WORKERS` if it isn't given
abbrev pub workers_option : Rule
workers_option = record (new_rule (codes "workers")) {
  long = Some (codes "workers");
  value_names = 1;
  parser = Some (Signed (pos 0) (pos 255));
  defaults = DEFAULT_WORKERS_TEXT.now ∷ [];
}

-- the operands `FILE..`
abbrev pub files_operand : Rule
files_operand = record (new_rule (codes "files")) { value_names = 1; action = Some Append }

-- an option `--NAME FILE`
abbrev pub file_option : Text → Rule
file_option name = record (new_rule name) { long = Some name; value_names = 1 }

-- a flag `--NAME`
abbrev pub flag : Text → Rule
flag name = record (new_rule name) { long = Some name; action = Some SetTrue }

-- the flag `--strict`
abbrev pub strict_flag : Rule
strict_flag = flag (codes "strict")

-- a command with one more command
abbrev pub with_app : App → App → App
with_app app other = with_subcommand app other.top

-- a command that may have `--unison`
abbrev pub with_unison : App → App
with_unison app = with_rule app (flag (codes "unison"))

-- `reach PROFILE PATH`, which may have it
abbrev pub reach_app : App
reach_app =
    with_unison (with_rule (with_rule (new_app (codes "reach")) (operand (codes "profile")))
    (operand (codes "path")))

-- a command with files of profiles and of rules
abbrev pub with_profiles : App → App
with_profiles app = with_rule (with_rule app files_operand) (file_option (codes "rules"))

-- a command with these and with files of a state and of certificates
abbrev pub with_files : App → App
with_files app =
    with_rule (with_rule (with_profiles app) (file_option (codes "state")))
    (file_option (codes "certificates"))

-- a command about the set, which may take its profiles, rules, state and certificates from files,
-- and may have `--strict`
abbrev pub set_app : Text → App
set_app name = with_rule (with_files (new_app name)) strict_flag

-- a command with a file of a table of hosts and `--verbose`
abbrev pub with_hosts : App → App
with_hosts app = with_rule (with_rule app (file_option (codes "hosts"))) (flag (codes "verbose"))

-- a command about the set that may also have `--unison` and these
abbrev pub reading_app : Text → App
reading_app name = with_hosts (with_unison (set_app name))

-- `clashes`, which may also have `--dot`
abbrev pub clashes_app : App
clashes_app = with_rule (reading_app (codes "clashes")) (flag (codes "dot"))

-- `rounds`, which may also have `--alone`
abbrev pub rounds_app : App
rounds_app = with_rule (reading_app (codes "rounds")) (flag (codes "alone"))

-- `mend`, which may also have `--bundle`
abbrev pub mend_app : App
mend_app = with_rule (reading_app (codes "mend")) (flag (codes "bundle"))

-- a command that is always for Unison: it may take its profiles and rules from files, and may have
-- these and `--strict`
abbrev pub unison_app : Text → App
unison_app name = with_hosts (with_rule (with_profiles (new_app name)) strict_flag)

-- `run`, which may also have `--workers N`, `--rounds` and `--in-order`
abbrev pub run_app : App
run_app =
    with_rule (with_rule (with_rule (set_app (codes "run")) workers_option) (flag (codes "rounds")))
    (flag (codes "in-order"))

-- `hubsync`, which has a version
abbrev pub top_app : App
top_app = on_top (λ s. record s { has_version = true }) (new_app (codes "hubsync"))

-- `hubsync` with the commands of the checker
abbrev pub checker_app : App
checker_app =
    with_subcommand (with_subcommand (with_subcommand top_app (reading_app (codes "check")).top)
    (set_app (codes "certify")).top)
    (set_app (codes "verify")).top

-- and with those that say more than a yes or a no
abbrev pub about_app : App
about_app =
    with_subcommand (with_subcommand (with_subcommand (with_subcommand (with_subcommand checker_app
    clashes_app.top)
    mend_app.top)
    rounds_app.top)
    (unison_app (codes "plan")).top)
    (unison_app (codes "import")).top

-- the command as clap reads it
unfoldable pub hubsync_app : App
hubsync_app = with_subcommand (with_subcommand about_app reach_app.top) run_app.top

-- what is asked for: something about the set of the profiles and rules, whether a profile, so
-- read, reaches a path, a bundle of the profiles' readings for Unison, a plan of Unison's runs,
-- rounds of those of the profiles that can be read for it, beside which the others run alone, or
-- lines that make the set of the profiles, so read, and rules safe, as they are or in the bundle
pub data Request : Type 0 where
  about : Question → Request
  reach : Reading → Text → Text → Request
  imported : Request
  planned : Request
  rounds_alone : Request
  mended : Reading → Bool → Request

abbrev pub request_of : Query → Request
request_of (About question) = about question
request_of (Reach reading profile path) = reach reading profile.now path.now
request_of Import = imported
request_of Plan = planned
request_of RoundsAlone = rounds_alone
request_of (Mend reading as_bundle) = mended reading as_bundle

-- how a question about the set wants the profiles to be read: runs and certificates are always of
-- hubsync's own reading
abbrev pub reading_of : Question → Reading
reading_of CheckWithState = Plain
reading_of (Run n) = Plain
reading_of (RunByRounds n) = Plain
reading_of (RunInOrder n) = Plain
reading_of (Check reading) = reading
reading_of Certify = Plain
reading_of Verify = Plain
reading_of (Clashes reading) = reading
reading_of (Graph reading) = reading
reading_of (Rounds reading) = reading

-- how a request wants them to be read
abbrev pub reading_for : Request → Reading
reading_for (about question) = reading_of question
reading_for (reach reading profile path) = reading
reading_for imported = Unison
reading_for planned = Unison
reading_for rounds_alone = Unison
reading_for (mended reading as_bundle) = reading

-- the operands PROFILE and PATH, if both are there
abbrev pub operands_of : Reading → Option Text → Option Text → Option Request
operands_of reading None path = None
operands_of reading (Some profile) None = None
operands_of reading (Some profile) (Some path) = Some (reach reading profile path)

-- the number that a text says, if it is one from 0 to 255: decimal digits, perhaps behind a plus
abbrev pub byte_of : Text → Option ℕ
byte_of text =
    if is_unsigned_in 0 255 text then Some (digits_value 10 (without_leading_plus text)) else None

-- the value of a flag, where this is its text
abbrev pub is_true : Option Text → Bool
is_true None = false
is_true (Some text) = bytes_eq text (codes "true")

-- the flag is on the command line, where these are the rows of operands and options
abbrev pub is_set : Text → List Row → Bool
is_set name rows = is_true (first_of name rows)

-- how a command wants the profiles to be read, where these are its rows: by `--unison` for Unison
abbrev pub reading_in : List Row → Reading
reading_in rows = if is_set (codes "unison") rows then Unison else Plain

-- the number of workers, where this is the text of `--workers`
abbrev pub workers_in : Option Text → Option ℕ
workers_in None = None
workers_in (Some text) = byte_of text

-- a run by so many workers, by rounds, in order or neither; nothing if both are asked for, or if no
-- number is given
abbrev pub run_with : Bool → Bool → Option ℕ → Option Request
run_with by_rounds in_order None = None
run_with true true (Some n) = None
run_with true false (Some n) = Some (about (RunByRounds n))
run_with false true (Some n) = Some (about (RunInOrder n))
run_with false false (Some n) = Some (about (Run n))

-- a run by so many workers as the option says
abbrev pub run_by : List Row → Option Request
run_by rows =
    run_with (is_set (codes "rounds") rows) (is_set (codes "in-order") rows)
    (workers_in (one_of (codes "workers") rows))

-- all that clashes, drawn as a graph or not
abbrev pub clashes_request : Bool → Reading → Request
clashes_request as_graph reading =
    if as_graph then about (Graph reading) else about (Clashes reading)

-- rounds of all profiles, or only for Unison those of the profiles that can be read
abbrev pub rounds_request : Bool → Reading → Option Request
rounds_request false reading = Some (about (Rounds reading))
rounds_request true Plain = None
rounds_request true Unison = Some rounds_alone

-- lines that make the set safe, as they are or in the bundle
abbrev pub mend_request : List Row → Request
mend_request rows = mended (reading_in rows) (is_set (codes "bundle") rows)

-- the file of a profile
abbrev pub is_profile_file : Text → Bool
is_profile_file file = ends_with nat_eq file (codes ".prf")

-- each operand is the file of a profile, if there are any
abbrev pub are_profile_files : Option (List Text) → Bool
are_profile_files None = true
are_profile_files (Some files) = list_all is_profile_file files

-- what a command that takes files asks for, by its name and the rows of its operands and options
abbrev pub about_named : Text → List Row → Option Request
about_named name rows =
    if bytes_eq name (codes "check") then Some (about (Check (reading_in rows)))
    else (if bytes_eq name (codes "certify") then Some (about Certify)
    else (if bytes_eq name (codes "verify") then Some (about Verify)
    else (if bytes_eq name (codes "clashes")
    then Some (clashes_request (is_set (codes "dot") rows) (reading_in rows))
    else (if bytes_eq name (codes "mend") then Some (mend_request rows)
    else (if bytes_eq name (codes "rounds")
    then rounds_request (is_set (codes "alone") rows) (reading_in rows)
    else (if bytes_eq name (codes "import") then Some imported
    else (if bytes_eq name (codes "plan") then Some planned
    else (if bytes_eq name (codes "run") then run_by rows else None))))))))

-- an option with a value is on the command line
abbrev pub is_given : Text → List Row → Bool
is_given name rows = is_some (first_of name rows)

-- there is an operand
abbrev pub has_operands : Option (List Text) → Bool
has_operands None = false
has_operands (Some files) = not (length files == 0)

-- an option names a file
abbrev pub has_file_option : List Row → Bool
has_file_option rows =
    is_given (codes "rules") rows
    || (is_given (codes "state") rows
    || (is_given (codes "certificates") rows || is_given (codes "hosts") rows))

-- files are named, and none of them is that of a profile
abbrev pub lacks_profiles : List Row → Bool
lacks_profiles rows = not (has_operands (all_of (codes "files") rows)) && has_file_option rows

-- the command that was used, of this name, reads the profiles for Unison: it has `--unison`, or it
-- is `import` or `plan`
abbrev pub is_for_unison : Text → List Row → Bool
is_for_unison name rows =
    is_set (codes "unison") rows
    || (bytes_eq name (codes "import") || bytes_eq name (codes "plan"))

-- each operand may be one: for Unison also a folder, else only the file of a profile, and then
-- there is no table of hosts
abbrev pub are_operands : Text → List Row → Bool
are_operands name rows =
    is_for_unison name rows
    || (are_profile_files (all_of (codes "files") rows) && not (is_given (codes "hosts") rows))

-- the same, and nothing if an operand can't be one, or if files are named and none of them is that
-- of a profile
abbrev pub about_files : Text → List Row → Option Request
about_files name rows =
    if are_operands name rows
    then (if lacks_profiles rows then None else about_named name rows)
    else None

-- what the command that was used asks for, by its name and the rows of its operands and options
abbrev pub request_in : Option (Text × List Row) → Option Request
request_in None = Some (about CheckWithState)
request_in (Some p) =
    if bytes_eq p.0 (codes "reach")
    then operands_of (reading_in p.1)
    (first_of (codes "profile") p.1) (first_of (codes "path") p.1)
    else about_files p.0 p.1

-- the command that was used has `--strict`
abbrev pub is_strict_in : Option (Text × List Row) → Bool
is_strict_in None = false
is_strict_in (Some p) = is_set (codes "strict") p.1

-- the command that was used reads the profiles for Unison
abbrev pub is_unison_in : Option (Text × List Row) → Bool
is_unison_in None = false
is_unison_in (Some p) = is_for_unison p.0 p.1

-- nothing is asked for if there is a fault
abbrev pub asked_unless : Kinds → Option Request → Option Request
asked_unless [] request = request
asked_unless (kind ∷ kinds) request = None

-- what the words ask for, of which the first is the program's name; nothing if clap finds a fault
-- in them or a request for help or the version
unfoldable pub asked_of : List Text → Option Request
asked_of words =
    asked_unless (fault_of hubsync_app words) (request_in (subcommand_of hubsync_app words))

-- whether the words, of which the first is the program's name, have `--strict`
unfoldable pub is_strict_of : List Text → Bool
is_strict_of words = is_strict_in (subcommand_of hubsync_app words)

-- whether by the words, of which the first is the program's name, the profiles are read for Unison
unfoldable pub is_unison_of : List Text → Bool
is_unison_of words = is_unison_in (subcommand_of hubsync_app words)

-- whether `--strict` is there is the same by the words and by these rows
abbrev pub AgreeOnStrict : List Text → Option (Text × List Row) → Type 0
AgreeOnStrict words rows = is_strict_of words ≡ is_strict_in rows

-- and whether the profiles are read for Unison
abbrev pub AgreeOnUnison : List Text → Option (Text × List Row) → Type 0
AgreeOnUnison words rows = is_unison_of words ≡ is_unison_in rows

-- the files that words name: the operands, which for Unison may be folders, and those of options
pub record Names : Type 0 where
  pub profiles : List Text
  pub rules : Option Text
  pub state : Option Text
  pub certificates : Option Text
  pub hosts : Option Text

abbrev pub names_of : Files → Names
names_of files = record {
  profiles = map (λ file. file.now) files.profiles.items;
  rules = option_map (λ file. file.now) files.rules;
  state = option_map (λ file. file.now) files.state;
  certificates = option_map (λ file. file.now) files.certificates;
  hosts = option_map (λ file. file.now) files.hosts;
}

-- no file
abbrev pub no_names : Names
no_names = record { profiles = []; rules = None; state = None; certificates = None; hosts = None }

-- the files that a command names, by the rows of its operands and options
abbrev pub names_found : List Row → Names
names_found rows = record {
  profiles = unwrap_or (all_of (codes "files") rows) [];
  rules = first_of (codes "rules") rows;
  state = first_of (codes "state") rows;
  certificates = first_of (codes "certificates") rows;
  hosts = first_of (codes "hosts") rows;
}

-- the files that the command that was used names
abbrev pub names_in : Option (Text × List Row) → Names
names_in None = no_names
names_in (Some p) = names_found p.1

-- no file is among them of which the input is to be made
abbrev pub are_none : Names → Bool
are_none names =
    length names.profiles == 0 && (not (is_some names.rules)
    && (not (is_some names.state) && not (is_some names.certificates)))

-- the files that the words name, of which the first is the program's name
unfoldable pub files_of : List Text → Names
files_of words = names_in (subcommand_of hubsync_app words)

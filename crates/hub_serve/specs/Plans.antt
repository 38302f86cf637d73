-- What a plan of Unison's runs says of an input, and what rounds say beside which profiles run alone.
use Rattle.std.specs.Prelude.{◌≡◌, ◌⊎◌, ◌<◌, ◌≤◌, ◌==◌, ◌+◌, ◌&&◌, ℕ, Bool, true, false, if◌then◌else◌, List, [], ◌∷◌, ◌++◌, length, slice_get, Option, Some, None, Contains, Result, Ok, Err, string_bytes}
use Rattle.std.specs.List.{list_any}
use Rattle.hub_path.specs.Path.{Name, name_eq}
use Rattle.hub_profile.specs.Parts.{Parts}
use Rattle.hub_profile.specs.Reading.{profile_in}
use Rattle.hub_profile.specs.Rules.{rules_in}
use Rattle.hub_profile.specs.declared.fault.Fault.{Fault}
use Rattle.hub_profile.specs.declared.fault.Fault.TheVariants.{OutOfMemory}
use Rattle.hub_profile.specs.declared.fault.ProfileFault.{ProfileFault}
use Rattle.hub_profile.specs.declared.rule.Rule.{Rule}
use Rattle.hub_cert.specs.declared.fault.CheckFault.{CheckFault}
use Rattle.hub_cert.specs.declared.fault.CheckFault.TheVariants.{SameName}
use Rattle.hub_apart.specs.declared.searched.Apart.{Apart}
use Rattle.hub_apart.specs.ApartLines.{set_of, with_pairs}
use Rattle.hub_apart.specs.UnisonLines as unison
use Rattle.hub_apart.specs.WithoutLines.{NeverClash}
use Rattle.hub_parts.specs.InUnison.{parts_read}
use Rattle.hub_parts.specs.Whole.{AreRootsApart}
use Rattle.hub_reach.specs.Safe.{share_archive}
use Rattle.hub_rounds.specs.Lines.{HasNoOwnLine, HasPair}
use Rattle.hub_rounds.specs.Numbered.{AreRoundsOfLines}
use Rattle.hub_rounds.specs.declared.numbered.NumberedRounds.{NumberedRounds}
use Rattle.hub_bundle.specs.Bundle.{SectionValue, bundle_reading}
use Rattle.hub_bundle.specs.declared.bundle.Heading.{Heading}
use Rattle.hub_bundle.specs.declared.bundle.Heading.TheVariants as heading
use Rattle.hub_bundle.specs.declared.sections.SectionFault.{SectionFault}
use Rattle.hub_bundle.specs.declared.sections.SectionFault.TheVariants.{OfRules}
use Rattle.hub_text.specs.Fails.{and_then}
use Rattle.hub_cli.specs.Words.{Request, planned, rounds_alone}
use Rattle.hub_preferences.specs.Counted.{counted_bundle}
use Rattle.hub_report.specs.Alone.{alone_lines, are_known}
use Rattle.hub_report.specs.Plan.{is_refused, is_whole, order_of, plan_text, run_alone, unread_numbers}
use Rattle.hub_report.specs.Refusal.{refusal_line}
use Rattle.hub_report.specs.Rounds.{numbers_text}
use Rattle.hub_report.specs.declared.plan.Plan.{Plan}
use Rattle.hub_report.specs.declared.plan.Roster.{Roster}
use Rattle.hub_report.specs.declared.plan_answer.PlanAnswer.{PlanAnswer}
use Rattle.hub_report.specs.declared.plan_answer.PlanAnswer.TheVariants.{Made, Cut, Refused, BadRules}
use Rattle.hub_parts.specs.Anywhere.{KeepsRulesAnywhereInUnison}
use Rattle.hub_unison.specs.Shared.{ShareNoArchive, shared_pairs}
use Rattle.hub_unison.specs.UnisonReach.{IsSafeInUnison}
use Rattle.hub_unison.specs.Written.{AreWrittenAs, Written}
use Rattle.hub_serve.specs.InUnison.{AreFoundInUnison, are_decided}
use Rattle.hub_serve.specs.declared.plan_question.PlanQuestion.{PlanQuestion}
use Rattle.hub_serve.specs.declared.plan_question.PlanQuestion.TheVariants as question
use Rattle.hub_serve.specs.declared.taken.Taken.{Taken}

-- The words that ask so, and whether words do: by these a faulty profile keeps no other from being
-- read.
abbrev pub plan_request : PlanQuestion → Request
plan_request question.Plan = planned
plan_request question.Rounds = rounds_alone

abbrev pub reads_around_faults : Request → Bool
reads_around_faults planned = true
reads_around_faults rounds_alone = true
reads_around_faults _ = false

-- Before the first section.
abbrev pub no_profiles : Taken
no_profiles = record {
  roster = record { names = []; numbers = []; unread = [] };
  profiles = [];
  rules = [];
}

-- The names with one more; the number of the last profile is how many there are.
abbrev pub names_with : Taken → Name → List Name
names_with t name = t.roster.names ++ name ∷ []

-- One more profile, which is read, or which has a fault. A faulty one doesn't keep the others from
-- being read.
abbrev pub with_read : Taken → Name → Parts → Taken
with_read t name P = record t {
  roster = record t.roster {
    names = names_with t name;
    numbers = t.roster.numbers ++ length (names_with t name) ∷ [];
  };
  profiles = t.profiles ++ P ∷ [];
}

abbrev pub with_unread : Taken → Name → ProfileFault → Taken
with_unread t name f = record t {
  roster = record t.roster {
    names = names_with t name;
    unread = t.roster.unread ++ (record { number = length (names_with t name); fault = f }) ∷ [];
  };
}

abbrev pub with_profile : Taken → Name → Result Parts ProfileFault → Taken
with_profile t name (Ok P) = with_read t name P
with_profile t name (Err f) = with_unread t name f

-- The rules, or the fault of the input.
abbrev pub with_rules : Taken → Result (List Rule) ProfileFault → Result Taken SectionFault
with_rules t (Ok Rs) = Ok (record t { rules = Rs })
with_rules t (Err f) = Err (OfRules f)

-- A reader had no memory.
abbrev pub is_memory : Fault → Bool
is_memory OutOfMemory = true
is_memory _ = false

abbrev pub had_no_memory : ProfileFault → Bool
had_no_memory f = is_memory f.fault

-- What a plan takes of one more section. A state and certificates are no part of it.
abbrev pub take_under : Taken → Heading → List ℕ → Result Taken SectionFault
take_under t (heading.Profile name) bytes = Ok (with_profile t name (profile_in name bytes))
take_under t heading.Rules bytes = with_rules t (rules_in bytes)
take_under t heading.State bytes = Ok t
take_under t heading.Certificates bytes = Ok t

abbrev pub take_section : Taken → SectionValue → Result Taken SectionFault
take_section t s = take_under t s.heading s.bytes

-- What it takes of these in their order, or the fault of the rules.
abbrev pub taking : Taken → List SectionValue → Result Taken SectionFault
taking t [] = Ok t
taking t (s ∷ ss) = and_then (take_section t s) (λ u. taking u ss)

-- The lines that count are a bundle, of which a plan takes this; or its rules have this fault.
pub record Takes (counted : List ℕ) (t : Taken) : Type 0 where
  pub sections : List SectionValue
  pub bundle : bundle_reading counted ≡ Ok sections
  pub taken : taking no_profiles sections ≡ Ok t

pub record HasBadRules (counted : List ℕ) (f : SectionFault) : Type 0 where
  pub sections : List SectionValue
  pub bundle : bundle_reading counted ≡ Ok sections
  pub taken : taking no_profiles sections ≡ Err f

-- No runs of the two clash in Unison, wherever the roots lie, and they don't have the same two roots.
-- If no different roots are nested, both are safe in Unison.
pub record RunBeside (V W : Written) : Type 0 where
  pub never : NeverClash V W
  pub archives : share_archive V.parts W.parts ≡ false
  pub safe : AreRootsApart (parts_read (V ∷ W ∷ [])) [] → IsSafeInUnison (V ∷ W ∷ [])

-- Each two of these of which no line says something may run beside each other, if they don't have the
-- same two roots, whatever lines say them.
abbrev pub MayRunBeside : List Parts → List CheckFault → Type 0
MayRunBeside Ps lines =
    (Ws : List Written) (i j : ℕ) (V W : Written) → AreWrittenAs Ws Ps → i < j
    → slice_get Ws i ≡ Some V → slice_get Ws j ≡ Some W → ShareNoArchive (parts_read (V ∷ W ∷ []))
    → (HasPair lines i j → ⊥) → RunBeside V W

-- By each of these of which alone no line says something Unison breaks no rule.
abbrev pub KeepRules : List Parts → List Rule → List CheckFault → Type 0
KeepRules Ps Rs lines =
    (Ws : List Written) (i : ℕ) (W : Written) → AreWrittenAs Ws Ps → slice_get Ws i ≡ Some W
    → HasNoOwnLine lines i → KeepsRulesAnywhereInUnison (W ∷ []) Rs

-- These are the lines of profiles and rules in Unison, with the readings beside the rules, and what
-- follows for those without lines.
pub record AreFoundOf (Ps : List Parts) (Rs : List Rule) (found : Apart) : Type 0 where
  pub profiles : found.profiles ≡ unison.beside Rs Ps
  pub rules : found.rules ≡ Rs
  pub all : unison.AreLinesInUnison Ps Rs found.lines
  pub pairs : MayRunBeside Ps found.lines
  pub alone : KeepRules Ps Rs found.lines

-- This is the plan of them, where these pairs share an archive.
pub record IsWrittenOf (r : Roster) (archives : List (ℕ × ℕ)) (found : Apart) (p : Plan) :
    Type 0 where
  pub text : string_bytes p.text
      ≡ plan_text r (set_of found.profiles found.rules) found.lines archives
  pub whole : p.is_whole ≡ is_whole r found.rules found.lines

-- The plan says of the profiles at these places among those that are read that they may not run at
-- the same time: a line names them, or they share an archive.
abbrev pub IsApart : List CheckFault → List (ℕ × ℕ) → ℕ → ℕ → Type 0
IsApart lines archives i j = HasPair lines i j ⊎ Contains archives (i, j)

-- The numbers of the profiles that a plan refuses: of those that are read, of which the first has
-- place i; and of all.
abbrev pub read_refused : List CheckFault → ℕ → List ℕ → List ℕ
read_refused es i [] = []
read_refused es i (n ∷ ns) =
    (if is_refused es i then n ∷ [] else []) ++ read_refused es (i + 1) ns

abbrev pub unread_refused : Roster → List Rule → List ℕ
unread_refused r Rs = if run_alone Rs then [] else unread_numbers r.unread

abbrev pub refused_of : Roster → List Rule → List CheckFault → List ℕ
refused_of r Rs es = read_refused es 0 r.numbers ++ unread_refused r Rs

-- How often a number is in a list.
abbrev pub times_in : ℕ → List ℕ → ℕ
times_in k [] = 0
times_in k (n ∷ ns) = (if n == k then 1 else 0) + times_in k ns

-- Each profile is either in the order, or refused, and that once.
abbrev pub PlacesEach : Roster → List Rule → List CheckFault → Type 0
PlacesEach r Rs es =
    (k : ℕ) → 0 < k → k ≤ length r.names
    → times_in k (order_of r Rs es) + times_in k (refused_of r Rs es) ≡ 1

-- A text is the plan of a bundle. It rests on the lines in Unison of the profiles that are read, of
-- each two near ones and of each with the rules, and on the archives that two of them share. It shows
-- the readings beside the rules.
pub record IsPlan (bytes text : List ℕ) (whole : Bool) : Type 0 where
  pub own : Taken
  pub takes : Takes (counted_bundle bytes) own
  pub lines : List CheckFault
  pub all : unison.AreLinesInUnison own.profiles own.rules lines
  pub pairs : MayRunBeside own.profiles lines
  pub alone : KeepRules own.profiles own.rules lines
  pub text_is : text
      ≡ plan_text own.roster (set_of (unison.beside own.rules own.profiles) own.rules) lines
      (shared_pairs own.profiles)
  pub whole_is : whole ≡ is_whole own.roster own.rules lines

-- The first of these names that a later one is, too.
abbrev pub twice : List Name → Option Name
twice [] = None
twice (n ∷ ns) = if list_any (name_eq n) ns then Some n else twice ns

-- Each profile is read, or isn't, and has a number of its own.
abbrev pub AreEachOnce : Roster → Type 0
AreEachOnce r =
    (k : ℕ) → 0 < k → k ≤ length r.names
    → times_in k r.numbers + times_in k (unread_numbers r.unread) ≡ 1

-- A text has the rounds of a bundle's profiles that are read, by their lines in Unison, and by a line
-- for each two with the same two roots. The others run alone: each has its lines below. No two of all
-- have one name.
pub record CutsAlone (bytes text : List ℕ) (decided : Bool) : Type 0 where
  pub own : Taken
  pub takes : Takes (counted_bundle bytes) own
  pub names : twice own.roster.names ≡ None
  pub lines : List CheckFault
  pub found : AreFoundInUnison own.profiles own.rules lines
  pub rounds : NumberedRounds
  pub cut : AreRoundsOfLines (length own.profiles)
      (with_pairs (shared_pairs own.profiles) lines) rounds
  pub text_is : text
      ≡ numbers_text (unison.beside own.rules own.profiles) rounds
      ++ alone_lines own.roster own.rules
  pub decided_is : decided
      ≡ (are_decided (with_pairs (shared_pairs own.profiles) lines) rounds
      && are_known own.roster own.rules)

-- Why there is no plan, or why there are no rounds: one or two of the profiles can't be searched. For
-- rounds, which name profiles, it may also be that two have one name.
abbrev pub HaveOneName : Request → Roster → CheckFault → Type 0
HaveOneName rounds_alone r e = (n : Name) × (twice r.names ≡ Some n) × (e ≡ SameName n)
HaveOneName _ r e = ⊥

abbrev pub IsUnplannable : Request → Taken → CheckFault → Type 0
IsUnplannable request t e =
    HaveOneName request t.roster e ⊎ unison.IsRefusedInUnison t.profiles t.rules e

-- That is so of a bundle, and this is the line that says why.
pub record IsUnplanned (request : Request) (bytes line : List ℕ) : Type 0 where
  pub own : Taken
  pub takes : Takes (counted_bundle bytes) own
  pub reason : CheckFault
  pub refused : IsUnplannable request own reason
  pub line_is : line
      ≡ refusal_line (set_of (unison.beside own.rules own.profiles) own.rules) reason

-- What holds of the words and of a bundle where that is the answer.
abbrev pub PlanHolds : Request → List ℕ → PlanAnswer → Type 0
PlanHolds request bytes (Made p) =
    (request ≡ planned) × IsPlan bytes (string_bytes p.text) p.is_whole
PlanHolds request bytes (Cut c) =
    (request ≡ rounds_alone) × CutsAlone bytes (string_bytes c.text) c.decided
PlanHolds request bytes (Refused line refusal) =
    (reads_around_faults request ≡ true) × IsUnplanned request bytes (string_bytes line)
PlanHolds request bytes (BadRules f) =
    (reads_around_faults request ≡ true) × HasBadRules (counted_bundle bytes) f

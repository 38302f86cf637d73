-- What is answered about profiles as Unison may run them: each two near ones are judged by themselves,
-- and each with the rules.
use Rattle.std.specs.Prelude.{◌≡◌, ◌≢◌, ◌⊎◌, ◌↔◌, if◌then◌else◌, ◌==◌, ◌&&◌, ◌∷◌, ℕ, Bool, true, false, not, List, [], length, Contains, Option, Some, None, string_bytes}
use Rattle.std.specs.List.{list_any}
use Rattle.std.specs.List.Sorted.{IsPermutation}
use Rattle.hub_profile.specs.Parts.{Parts}
use Rattle.hub_profile.specs.declared.rule.Rule.{Rule}
use Rattle.hub_cert.specs.Set.{Members}
use Rattle.hub_cert.specs.declared.fault.CheckFault.{CheckFault}
use Rattle.hub_cert.specs.declared.fault.CheckFault.TheVariants as fault
use Rattle.hub_path.specs.Path.{Name}
use Rattle.hub_apart.specs.Apart.{are_namesakes}
use Rattle.hub_apart.specs.ApartLines.{set_of, with_pairs}
use Rattle.hub_apart.specs.Ordered.{AreByWriter}
use Rattle.hub_apart.specs.UnisonLines.{AreLinesInUnison, IsRefusedInUnison, beside}
use Rattle.hub_apart.specs.UnsafeParts.{HasUnsafePart, shows_path}
use Rattle.hub_apart.specs.WithoutLines.{AreSome, HaveNoOwnLine, HaveNoPair}
use Rattle.hub_apart.specs.declared.searched.Apart.{Apart}
use Rattle.hub_parts.specs.InUnison.{parts_read}
use Rattle.hub_rounds.specs.Numbered.{AreRoundsOfLines}
use Rattle.hub_rounds.specs.declared.numbered.NumberedRounds.{NumberedRounds}
use Rattle.hub_bundle.specs.declared.sections.BundleContents.{BundleContents}
use Rattle.hub_bundle.specs.Sections.{Spells}
use Rattle.hub_cli.specs.declared.words.Question.{Question}
use Rattle.hub_cli.specs.declared.words.Question.TheVariants as ask
use Rattle.hub_cli.specs.declared.words.Reading.TheVariants.{Unison}
use Rattle.hub_cli.specs.Words.{Request, about}
use Rattle.hub_preferences.specs.Counted.{counted_bundle}
use Rattle.hub_report.specs.Archive.{archive_line}
use Rattle.hub_report.specs.Graph.{graph_text}
use Rattle.hub_report.specs.InUnison.{all_unison_lines, unison_line}
use Rattle.hub_report.specs.Refusal.{refusal_line}
use Rattle.hub_report.specs.Rounds.{numbers_text}
use Rattle.hub_report.specs.declared.clashes_answer.ClashesAnswer.{ClashesAnswer}
use Rattle.hub_report.specs.declared.clashes_answer.ClashesAnswer.TheVariants.{Lines, Graph, Cut}
use Rattle.hub_report.specs.declared.unison_answer.UnisonAnswer.{UnisonAnswer}
use Rattle.hub_report.specs.declared.unison_answer.UnisonAnswer.TheVariants.{Safe, Refused, Unsearched, SameArchive, Clashes}
use Rattle.hub_unison.specs.Shared.{ShareNoArchive, shared_pairs}
use Rattle.hub_unison.specs.Written.{AreWrittenAs, Written}
use Rattle.hub_serve.specs.Rounds.{is_too_large}
use Rattle.hub_serve.specs.Unison.{AreSafeTogether}
use Rattle.hub_serve.specs.declared.unison_question.UnisonQuestion.{UnisonQuestion}
use Rattle.hub_serve.specs.declared.unison_question.UnisonQuestion.TheVariants as unison

-- What a question asks about profiles as Unison may run them; and what the words do.
abbrev pub unison_question : Question → Option UnisonQuestion
unison_question (ask.Check Unison) = Some unison.Check
unison_question (ask.Clashes Unison) = Some unison.Clashes
unison_question (ask.Graph Unison) = Some unison.Graph
unison_question (ask.Rounds Unison) = Some unison.Rounds
unison_question _ = None

abbrev pub asked_in_unison : Request → Option UnisonQuestion
asked_in_unison (about question) = unison_question question
asked_in_unison _ = None

-- Whether `safe` may be the answer.
abbrev pub may_be_safe_in_unison : UnisonQuestion → Bool
may_be_safe_in_unison unison.Check = true
may_be_safe_in_unison unison.Clashes = true
may_be_safe_in_unison _ = false

-- Some of these profiles, of which no line is about two or about one alone, are safe together in
-- Unison, whatever lines say them, if no two of them have the same two roots.
abbrev pub AreSafeWithoutLines : List Parts → List Rule → List CheckFault → Type 0
AreSafeWithoutLines Ps Rs lines =
    (Ws Vs : List Written) (numbers : List ℕ) → AreWrittenAs Ws Ps → AreSome Ws Vs numbers
    → HaveNoPair lines numbers → HaveNoOwnLine lines numbers → ShareNoArchive (parts_read Vs)
    → AreSafeTogether Vs Rs

-- A line that shows a path shows that one or two of them aren't safe, as they are read for Unison.
abbrev pub ShowUnsafeParts : List Parts → List Rule → List CheckFault → Type 0
ShowUnsafeParts Ps Rs lines =
    (e : CheckFault) → Contains lines e → shows_path e ≡ true → HasUnsafePart Ps Rs

-- The name of the first of these profiles that a later one has, too.
abbrev pub namesake : List Parts → Option Name
namesake [] = None
namesake (P ∷ Ps) = if list_any (λ Q. are_namesakes P Q) Ps then Some P.name else namesake Ps

-- Why profiles and rules aren't searched: two have one name, or one or two make no set.
abbrev pub IsUnsearchable : List Parts → List Rule → CheckFault → Type 0
IsUnsearchable Ps Rs e =
    ((n : Name) × (namesake Ps ≡ Some n) × (e ≡ fault.SameName n)) ⊎ IsRefusedInUnison Ps Rs e

-- These are the lines of profiles and rules in Unison, by who writes, and what they say.
pub record AreFoundInUnison (Ps : List Parts) (Rs : List Rule) (lines : List CheckFault) :
    Type 0 where
  pub searched : List CheckFault
  pub all : AreLinesInUnison Ps Rs searched
  pub same : IsPermutation searched lines
  pub order : AreByWriter lines
  pub safe : AreSafeWithoutLines Ps Rs lines
  pub unsafe : ShowUnsafeParts Ps Rs lines

-- The lines that count are a bundle, whose own profiles have different names, and with the rules these
-- lines.
pub record FoundIn (bytes : List ℕ) : Type 0 where
  pub own : BundleContents
  pub spelled : Spells (counted_bundle bytes) own
  pub names : namesake own.profiles ≡ None
  pub lines : List CheckFault
  pub found : AreFoundInUnison own.profiles own.rules lines

-- What is shown of them: the readings beside the rules, which have their names and roots, and the
-- rules. And which two of them have the same two roots.
abbrev pub shown_members : BundleContents → Members
shown_members own = set_of (beside own.rules own.profiles) own.rules

abbrev pub shown_of : {bytes : List ℕ} → FoundIn bytes → Members
shown_of f = shown_members f.own

abbrev pub archives_of : {bytes : List ℕ} → FoundIn bytes → List (ℕ × ℕ)
archives_of f = shared_pairs f.own.profiles

-- They have no line, and no two have the same two roots.
pub record HaveNothing (bytes : List ℕ) : Type 0 where
  pub input : FoundIn bytes
  pub none : input.lines ≡ []
  pub apart : archives_of input ≡ []

-- A text is the first of their lines.
pub record IsFirstLine (bytes line : List ℕ) : Type 0 where
  pub input : FoundIn bytes
  pub first : CheckFault
  pub others : List CheckFault
  pub lines_are : input.lines ≡ first ∷ others
  pub line_is : line ≡ unison_line (shown_of input) first

-- They have no line, and a text says which first two have the same two roots.
pub record IsArchiveLine (bytes line : List ℕ) : Type 0 where
  pub input : FoundIn bytes
  pub none : input.lines ≡ []
  pub numbers : ℕ × ℕ
  pub others : List (ℕ × ℕ)
  pub first : archives_of input ≡ numbers ∷ others
  pub line_is : line ≡ archive_line input.own.profiles numbers

-- They aren't searched, and a text says why.
pub record IsUnsearched (bytes line : List ℕ) : Type 0 where
  pub own : BundleContents
  pub spelled : Spells (counted_bundle bytes) own
  pub reason : CheckFault
  pub refused : IsUnsearchable own.profiles own.rules reason
  pub line_is : line ≡ refusal_line (shown_members own) reason

-- A text has all of their lines, and then one for each two with the same two roots. There is one.
pub record ListsInUnison (bytes text : List ℕ) : Type 0 where
  pub input : FoundIn bytes
  pub some : input.lines ≡ [] → archives_of input ≢ []
  pub text_is : text ≡ all_unison_lines (shown_of input) input.lines (archives_of input)

-- A text draws them. They are called safe exactly if there is no line and no archive is shared.
pub record DrawsInUnison (bytes text : List ℕ) (safe : Bool) : Type 0 where
  pub input : FoundIn bytes
  pub text_is : text ≡ graph_text (shown_of input).profiles input.lines (archives_of input)
  pub safe_is : safe ≡ true ↔ (input.lines ≡ []) × (archives_of input ≡ [])

-- Each is in a round, and no goal was too large.
abbrev pub are_decided : List CheckFault → NumberedRounds → Bool
are_decided es r = length r.left == 0 && not (list_any is_too_large es)

-- A text is that of rounds of them, by these lines and by a line for each two with the same two roots,
-- as if they clashed.
pub record RoundsInUnison (bytes text : List ℕ) (decided : Bool) : Type 0 where
  pub input : FoundIn bytes
  pub rounds : NumberedRounds
  pub cut : AreRoundsOfLines (length input.own.profiles)
      (with_pairs (archives_of input) input.lines) rounds
  pub text_is : text ≡ numbers_text (shown_of input).profiles rounds
  pub decided_is : decided ≡ are_decided (with_pairs (archives_of input) input.lines) rounds

-- What holds of the question and the input where all that clashes is answered so;
abbrev pub ClashesHold : Option UnisonQuestion → List ℕ → ClashesAnswer → Type 0
ClashesHold q bytes (Lines text first) =
    (q ≡ Some unison.Clashes) × ListsInUnison bytes (string_bytes text)
ClashesHold q bytes (Graph g) =
    (q ≡ Some unison.Graph) × DrawsInUnison bytes (string_bytes g.text) g.safe
ClashesHold q bytes (Cut c) =
    (q ≡ Some unison.Rounds) × RoundsInUnison bytes (string_bytes c.text) c.decided

-- `safe` may be answered; something is asked;
abbrev pub MayBeSafe : Option UnisonQuestion → Type 0
MayBeSafe q = (u : UnisonQuestion) × (q ≡ Some u) × (may_be_safe_in_unison u ≡ true)

abbrev pub IsAsked : Option UnisonQuestion → Type 0
IsAsked q = (u : UnisonQuestion) × (q ≡ Some u)

-- and where that is the answer.
abbrev pub UnisonHolds : Option UnisonQuestion → List ℕ → UnisonAnswer → Type 0
UnisonHolds q bytes Safe = MayBeSafe q × HaveNothing bytes
UnisonHolds q bytes (Refused line refusal) =
    (q ≡ Some unison.Check) × IsFirstLine bytes (string_bytes line)
UnisonHolds q bytes (Unsearched line refusal) = IsAsked q × IsUnsearched bytes (string_bytes line)
UnisonHolds q bytes (SameArchive line refusal) =
    (q ≡ Some unison.Check) × IsArchiveLine bytes (string_bytes line)
UnisonHolds q bytes (Clashes a) = ClashesHold q bytes a

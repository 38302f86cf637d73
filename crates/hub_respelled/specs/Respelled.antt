-- Bundles in place of those of profiles whose names fold.
use Rattle.std.specs.Prelude.{◌≡◌, ⊤, ℕ, Bool, true, false, List, length, slice_get, Some, Ok}
use Rattle.hub_archives.specs.Folded.{FoldedKeptOut, IsFoldedHeld}
use Rattle.hub_path.specs.Path.{Path}
use Rattle.hub_bundle.specs.Bundle.{SectionValue, bundle_reading}
use Rattle.hub_bundle.specs.Sections.{Spells}
use Rattle.hub_bundle.specs.declared.sections.BundleContents.{BundleContents}
use Rattle.hub_cert.specs.Set.{roots_in}
use Rattle.hub_folded.specs.Lines.{folded_rules, folded_set, know_rules, some_fold}
use Rattle.hub_folded.specs.Roots.{AreToldApart, IsSpelledTwice}
use Rattle.hub_folded.specs.Rules.{first_unknown}
use Rattle.hub_folded.specs.Table.{unicode}
use Rattle.hub_folded.specs.declared.fault.FoldFault.{FoldFault}
use Rattle.hub_folded.specs.declared.fault.FoldFault.TheVariants as fold
use Rattle.hub_folded.specs.declared.member.Member.{Member}
use Rattle.hub_import.specs.Imported.{contents_of}
use Rattle.hub_import.specs.declared.write.BundleUnwritten.{BundleUnwritten}
use Rattle.hub_import.specs.declared.write.BundleUnwritten.TheVariants as unwritten
use Rattle.hub_preferences.specs.Counted.{counted_bundle}
use Rattle.hub_respelled.specs.Caseless.{caseless_bundle, says_folding}
use Rattle.hub_respelled.specs.Members.{folds_in, members_of}
use Rattle.hub_respelled.specs.declared.fault.RespellFault.{RespellFault}
use Rattle.hub_respelled.specs.declared.fault.RespellFault.TheVariants.{UnknownRule, SpelledTwice, Unwritten, OutOfMemory}
use Rattle.hub_respelled.specs.declared.folded.Spelling.{Spelling}
use Rattle.hub_respelled.specs.declared.folded.Spelling.TheVariants.{Same, Folded, Held, Unread}

-- What the lines of a bundle say that count, but for those by which names fold; and of each profile
-- whether its names fold.
pub record SaidBy (bundle : List ℕ) : Type 0 where
  pub sections : List SectionValue
  pub cut : bundle_reading bundle ≡ Ok sections
  pub own : BundleContents
  pub spelled : Spells (counted_bundle (caseless_bundle bundle)) own
  pub count : length (folds_in sections) ≡ length own.profiles

-- Of each section of a profile, whether its lines say that names fold: of so many.
abbrev pub AreFoldsOf : List ℕ → ℕ → List Bool → Type 0
AreFoldsOf bundle count folds =
    (sections : List SectionValue) × (bundle_reading bundle ≡ Ok sections)
    × (folds ≡ folds_in sections) × (length folds ≡ count)

abbrev pub said_members : {bundle : List ℕ} → SaidBy bundle → List Member
said_members said = members_of (folds_in said.sections) said.own.profiles

-- Their folded profiles and rules.
abbrev pub folded_contents : {bundle : List ℕ} → SaidBy bundle → BundleContents
folded_contents said =
    contents_of (folded_set unicode (said_members said))
    (folded_rules unicode (said_members said) said.own.rules)

-- The roots of the profiles, and then those of the rules.
abbrev pub said_roots : BundleContents → List Path
said_roots own = roots_in (record { profiles = own.profiles; rules = own.rules })

-- Two of these are one folder where names fold, or one lies in the other, but not as they are
-- spelled.
abbrev pub AreSpelledTwice : BundleContents → Path → Path → Type 0
AreSpelledTwice own r s =
    (i j : ℕ) × IsSpelledTwice unicode (said_roots own) i j
    × (slice_get (said_roots own) i ≡ Some r) × (slice_get (said_roots own) j ≡ Some s)

-- A text is a bundle of their folded profiles and rules, and all its lines count. No two roots are
-- spelled so.
pub record IsFoldedBundle (bundle text : List ℕ) : Type 0 where
  pub said : SaidBy bundle
  pub some : some_fold (said_members said) ≡ true
  pub known : know_rules unicode said.own.rules ≡ true
  pub told : AreToldApart unicode (said_roots said.own)
  pub all : counted_bundle text ≡ text
  pub folded : Spells text (folded_contents said)

-- A bundle isn't read, though the lines aren't looked at by which names fold.
abbrev pub IsUnread : List ℕ → Type 0
IsUnread bundle =
    (own : BundleContents) → Spells (counted_bundle (caseless_bundle bundle)) own → ⊥

-- What stands in the place of a bundle. By none of its profiles by which names fold Unison reaches
-- its archives in these folders, or one may do so.
abbrev pub IsRespelled : List Path → List ℕ → Spelling → Type 0
IsRespelled folders bundle Same = says_folding bundle ≡ false
IsRespelled folders bundle (Folded text) =
    (is : IsFoldedBundle bundle text.items) × FoldedKeptOut folders (said_members is.said)
IsRespelled folders bundle (Held held) =
    (said : SaidBy bundle) × IsFoldedHeld folders (said_members said) held
IsRespelled folders bundle Unread = IsUnread bundle

-- Why nothing does.
abbrev pub IsUnrespelled : List ℕ → RespellFault → Type 0
IsUnrespelled bundle (UnknownRule i) =
    (said : SaidBy bundle) × (first_unknown unicode said.own.rules ≡ Some i)
IsUnrespelled bundle (SpelledTwice r s) =
    (own : BundleContents) × Spells (counted_bundle (caseless_bundle bundle)) own
    × AreSpelledTwice own r s
IsUnrespelled bundle Unwritten = ⊤
IsUnrespelled bundle OutOfMemory = ⊤

-- It is one of roots, or memory is out.
abbrev pub IsOfRoots : BundleContents → RespellFault → Type 0
IsOfRoots own (SpelledTwice r s) = AreSpelledTwice own r s
IsOfRoots own OutOfMemory = ⊤
IsOfRoots own _ = ⊥

-- It is none of a rule, and none of roots.
abbrev pub IsOfNoRule : RespellFault → Type 0
IsOfNoRule (UnknownRule i) = ⊥
IsOfNoRule (SpelledTwice r s) = ⊥
IsOfNoRule Unwritten = ⊤
IsOfNoRule OutOfMemory = ⊤

-- The faults of what folds rules, and of what writes a bundle, are such.
abbrev pub like_fold : FoldFault → RespellFault
like_fold (fold.UnknownRule i) = UnknownRule i
like_fold fold.UnwrittenRules = Unwritten
like_fold fold.OutOfMemory = OutOfMemory

abbrev pub like_unwritten : BundleUnwritten → RespellFault
like_unwritten unwritten.NotReadBack = Unwritten
like_unwritten unwritten.OutOfMemory = OutOfMemory

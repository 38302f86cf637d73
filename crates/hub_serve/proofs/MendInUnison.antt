-- What is answered where lines for Unison are asked for.
use Rattle.std.proofs.Common.{◌≡◌, ◌∙◌, ◌⊎◌, inl, inr, ℕ, Bool, true, false, List, [], None, Result, Ok, Err, String, Global, refl, sym, subst}
use Rattle.std.specs.Prelude.{⊤, OnOk, string_bytes}
use Rattle.hub_apart.specs.UnisonLines.{beside, cautious}
use Rattle.hub_bundle.specs.Bundle.{bundle_reading}
use Rattle.hub_bundle.specs.declared.sections.BundleContents.{BundleContents}
use Rattle.hub_bundle.specs.Sections.{Spells, contents_reading, no_contents}
use Rattle.hub_cli.specs.declared.words.Question.TheVariants as ask
use Rattle.hub_cli.specs.declared.words.Reading.TheVariants.{Unison}
use Rattle.hub_cli.specs.Words.{about, mended}
use Rattle.hub_mend.specs.Additions.{line_count, mended_text, safe_line}
use Rattle.hub_mend.specs.TakesAway.{AllTakeAway}
use Rattle.hub_mend.specs.declared.piece.Piece.{Piece}
use Rattle.hub_preferences.specs.Counted.{counted_bundle}
use Rattle.hub_profile.specs.declared.rule.Rule.{Rule}
use Rattle.hub_report.specs.declared.report.Report.{Report}
use Rattle.hub_report.specs.declared.report.Report.TheVariants as answer
use Rattle.hub_report.specs.Report.{unread_by}
use Rattle.hub_report.specs.declared.told.Refusal.{Refusal}
use Rattle.hub_report.specs.declared.unison_answer.UnisonAnswer.{UnisonAnswer}
use Rattle.hub_report.specs.declared.unison_answer.UnisonAnswer.TheVariants.{Safe, Refused, Unsearched, SameArchive}
use Rattle.hub_serve.specs.Mended.{TakesAwayInUnison}
use Rattle.hub_serve.specs.Told.{Holds, IsUnspelled}
use Rattle.hub_serve.specs.declared.unison_question.UnisonQuestion.TheVariants as unison
use Rattle.hub_serve.specs.forms.InUnison.{HoldsOfBytes}
use Rattle.hub_serve.specs.forms.Mending.{AreLess, HoldsIfChecked, HoldsOfMend, HoldsOfParts, HoldsWith, IsUnmended, LessOfOne, LessOfTwo}
use Rattle.hub_serve.proofs.Told.{unspelled-as}

-- Bytes spell one thing.
same-spelled : (bytes : List ℕ) (a b : BundleContents) → Spells bytes a → Spells bytes b → a ≡ b
same-spelled bytes a b s t =
    let first : bundle_reading bytes ≡ Ok s.sections = s.bundle in
    let second : bundle_reading bytes ≡ Ok t.sections = t.bundle in
    let sections : t.sections ≡ s.sections = cc in
    let own : contents_reading no_contents s.sections ≡ Ok a = s.contents in
    let other : contents_reading no_contents s.sections ≡ Ok b = subst (λ xs. contents_reading no_contents xs ≡ Ok b) sections t.contents in
    cc

-- Readings without rules are the cautious ones.
pub of-two-from : (bytes with_lines : List ℕ) (old new : BundleContents) (Rs : List Rule) → Rs ≡ [] → Spells (counted_bundle bytes) old → Spells (counted_bundle with_lines) new
    → AllTakeAway (beside Rs old.profiles) (beside Rs new.profiles) → LessOfTwo bytes with_lines
of-two-from bytes with_lines old new Rs none spelled spelled_new less = record {
  old = old;
  spelled = spelled;
  new = new;
  spelled_with_lines = spelled_new;
  less = subst (λ Ss. AllTakeAway (beside Ss old.profiles) (beside Ss new.profiles)) none less;
}

-- So they only take away, if the readings beside no rules do.
pub of-two-checked : (bytes with_lines : List ℕ) (old new : BundleContents) (Rs : List Rule) (r : Result ⊤ Report) → Rs ≡ [] → Spells (counted_bundle bytes) old
    → Spells (counted_bundle with_lines) new → OnOk r (AllTakeAway (beside Rs old.profiles) (beside Rs new.profiles)) → OnOk r (LessOfTwo bytes with_lines)
of-two-checked bytes with_lines old new Rs (Ok u) none spelled spelled_new less = of-two-from bytes with_lines old new Rs none spelled spelled_new less
of-two-checked bytes with_lines old new Rs (Err e) none spelled spelled_new less = tt

-- A bundle with lines only takes away.
pub less-from : (bytes with_lines : List ℕ) (old new : BundleContents) → Spells (counted_bundle bytes) old → Spells (counted_bundle with_lines) new → new.rules ≡ old.rules
    → AllTakeAway old.profiles new.profiles → AllTakeAway (beside old.rules old.profiles) (beside old.rules new.profiles) → LessOfTwo bytes with_lines
    → TakesAwayInUnison bytes with_lines
less-from bytes with_lines old new spelled spelled_new rules own of_one h =
    let same : h.old ≡ old = same-spelled (counted_bundle bytes) h.old old h.spelled spelled in
    let same_new : h.new ≡ new = same-spelled (counted_bundle with_lines) h.new new h.spelled_with_lines spelled_new in
    let first : AllTakeAway (cautious old.profiles) (cautious h.new.profiles) =
    subst (λ (c : BundleContents). AllTakeAway (cautious c.profiles) (cautious h.new.profiles)) same h.less in
    record {
      old = old;
      spelled = spelled;
      new = new;
      spelled_with_lines = spelled_new;
      rules = rules;
      own = own;
      of_two = subst (λ (c : BundleContents). AllTakeAway (cautious old.profiles) (cautious c.profiles)) same_new first;
      of_one = subst (λ Rs. AllTakeAway (beside old.rules old.profiles) (beside Rs new.profiles)) (sym rules) of_one;
    }

-- What is checked of one profile beside the rules, and of the bundles that say them.
pub are-less : (old new : BundleContents) (r : Result ⊤ Report) → new.rules ≡ old.rules → AllTakeAway old.profiles new.profiles
    → OnOk r (AllTakeAway (beside old.rules old.profiles) (beside old.rules new.profiles)) → OnOk r (AreLess old new)
are-less old new (Ok u) rules own of_one = record { rules = rules; own = own; of_one = of_one }
are-less old new (Err e) rules own of_one = tt

pub of-one-checked : (bytes with_lines : List ℕ) (old new : BundleContents) (r : Result ⊤ Report) → Spells (counted_bundle bytes) old → Spells (counted_bundle with_lines) new
    → OnOk r (AreLess old new) → OnOk r (LessOfOne bytes with_lines)
of-one-checked bytes with_lines old new (Ok u) spelled spelled_new less =
    record { old = old; spelled = spelled; new = new; spelled_with_lines = spelled_new; less = less }
of-one-checked bytes with_lines old new (Err e) spelled spelled_new less = tt

pub both-checked : (bytes with_lines : List ℕ) (r : Result ⊤ Report) → LessOfOne bytes with_lines → OnOk r (LessOfTwo bytes with_lines) → OnOk r (TakesAwayInUnison bytes with_lines)
both-checked bytes with_lines (Ok u) one two =
    less-from bytes with_lines one.old one.new one.spelled one.spelled_with_lines one.less.rules one.less.own one.less.of_one two
both-checked bytes with_lines (Err e) one two = tt

-- That no lines mend a bundle, or that it isn't read, is true of it.
pub unmended-holds : (bytes : List ℕ) (r : Report) → IsUnmended r → HoldsOfMend bytes r
unmended-holds bytes r (inl is) = λ b. subst (Holds (mended Unison b) bytes) (sym is) tt
unmended-holds bytes r (inr is) = λ b. subst (Holds (mended Unison b) bytes) (sym is) refl

pub unmended-read : (r : Report) → IsUnmended r → unread_by r ≡ None
unmended-read r (inl is) = subst (λ r. unread_by r ≡ None) (sym is) refl
unmended-read r (inr is) = subst (λ r. unread_by r ≡ None) (sym is) refl

pub unspelled-mend : (bytes : List ℕ) (r : Report) → IsUnspelled (counted_bundle bytes) r → HoldsOfMend bytes r
unspelled-mend bytes r h = λ b. unspelled-as Unison (mended Unison b) bytes (counted_bundle bytes) (Err r) refl refl h

-- What is answered about the bundle with the lines is what `check --unison` answers.
pub checked-holds : (as_bundle : Bool) (bytes text : List ℕ) (pieces : List Piece) (said r : Report) → text ≡ mended_text pieces → TakesAwayInUnison bytes text
    → HoldsOfBytes unison.Check text said → HoldsIfChecked pieces as_bundle said r → HoldsOfParts Unison as_bundle bytes pieces r
checked-holds as_bundle bytes text pieces said r is less asked told = λ cut.
    told bytes (record { cut = cut; takes_away = subst (TakesAwayInUnison bytes) is less })
    (subst (λ t. Holds (about (ask.Check Unison)) t said) is (asked (about (ask.Check Unison)) refl))

-- Each answer of it tells what is said of the bundle with the lines.
pub safe-checked : (as_bundle : Bool) (pieces : List Piece) (r : Report) → HoldsWith pieces as_bundle true (safe_line (line_count pieces)) r
    → HoldsIfChecked pieces as_bundle (answer.InUnison Safe) r
safe-checked as_bundle pieces r told = λ bytes mends h. told Unison bytes (mends, (h.1, refl))

pub refused-checked : (as_bundle : Bool) (pieces : List Piece) (line : String Global) (refusal : Refusal) (r : Report) → HoldsWith pieces as_bundle false (string_bytes line) r
    → HoldsIfChecked pieces as_bundle (answer.InUnison (Refused line refusal)) r
refused-checked as_bundle pieces line refusal r told = λ bytes mends h. told Unison bytes (mends, inl h.1)

pub archive-checked : (as_bundle : Bool) (pieces : List Piece) (line : String Global) (refusal : Refusal) (r : Report) → HoldsWith pieces as_bundle false (string_bytes line) r
    → HoldsIfChecked pieces as_bundle (answer.InUnison (SameArchive line refusal)) r
archive-checked as_bundle pieces line refusal r told = λ bytes mends h. told Unison bytes (mends, inr (inl h.1))

pub unsearched-checked : (as_bundle : Bool) (pieces : List Piece) (line : String Global) (refusal : Refusal) (r : Report) → HoldsWith pieces as_bundle false (string_bytes line) r
    → HoldsIfChecked pieces as_bundle (answer.InUnison (Unsearched line refusal)) r
unsearched-checked as_bundle pieces line refusal r told = λ bytes mends h. told Unison bytes (mends, inr (inr h.1))

-- Each of the three answers that have a line does.
pub line-checked : (as_bundle : Bool) (pieces : List Piece) (said : UnisonAnswer) (line : String Global) (refusal : Refusal) (r : Report)
    → (said ≡ Refused line refusal) ⊎ (said ≡ Unsearched line refusal) ⊎ (said ≡ SameArchive line refusal) → HoldsWith pieces as_bundle false (string_bytes line) r
    → HoldsIfChecked pieces as_bundle (answer.InUnison said) r
line-checked as_bundle pieces said line refusal r (inl is) told =
    subst (λ a. HoldsIfChecked pieces as_bundle (answer.InUnison a) r) (sym is) (refused-checked as_bundle pieces line refusal r told)
line-checked as_bundle pieces said line refusal r (inr (inl is)) told =
    subst (λ a. HoldsIfChecked pieces as_bundle (answer.InUnison a) r) (sym is) (unsearched-checked as_bundle pieces line refusal r told)
line-checked as_bundle pieces said line refusal r (inr (inr is)) told =
    subst (λ a. HoldsIfChecked pieces as_bundle (answer.InUnison a) r) (sym is) (archive-checked as_bundle pieces line refusal r told)

-- What is answered about profiles as Unison may run them holds of the input.
use Rattle.std.proofs.Common.{inl, inr, ◌≡◌, ◌≢◌, ◌∙◌, ◌==◌, ◌&&◌, ℕ, Bool, true, false, cond, List, [], ◌∷◌, length, Option, Some, None, Err, refl, sym, ap, subst}
use Rattle.std.specs.Prelude.{option_map, slice_get, string_bytes}
use Rattle.std.specs.List.{list_all}
use Rattle.std.specs.Option.{option_copied}
use denote.Ref.{Bor}
use Rattle.std.proofs.lemmas.Bool.{and_from, and_parts}
use Rattle.std.proofs.lemmas.List.{length-map}
use Rattle.std.proofs.lemmas.Option.{none-some, same_Some, slice_get-map}
use Rattle.hub_apart.specs.ApartLines.{with_pairs}
use Rattle.hub_apart.specs.UnisonLines.{beside}
use Rattle.hub_apart.specs.declared.searched.Apart.{Apart}
use Rattle.hub_bundle.specs.declared.sections.BundleContents.{BundleContents}
use Rattle.hub_bundle.specs.Sections.{Spells}
use Rattle.hub_cert.specs.Set.{Members}
use Rattle.hub_cert.specs.declared.fault.CheckFault.{CheckFault}
use Rattle.hub_cli.specs.declared.words.Reading.TheVariants.{Unison}
use Rattle.hub_cli.specs.Words.{Request}
use Rattle.hub_preferences.specs.Counted.{counted_bundle}
use Rattle.hub_profile.specs.Parts.{Parts}
use Rattle.hub_profile.specs.declared.rule.Rule.{Rule}
use Rattle.hub_report.specs.Archive.{archive_line}
use Rattle.hub_report.specs.Graph.{graph_text}
use Rattle.hub_report.specs.InUnison.{all_unison_lines, unison_line}
use Rattle.hub_report.specs.Rounds.{numbers_text}
use Rattle.hub_report.specs.declared.report.Report.{Report}
use Rattle.hub_report.specs.declared.report.Report.TheVariants as answer
use Rattle.hub_report.specs.declared.rounds.Cut.{Cut}
use Rattle.hub_report.specs.declared.unison_answer.UnisonAnswer.TheVariants.{Safe, Refused, Unsearched, SameArchive}
use Rattle.hub_rounds.specs.Numbered.{AreRoundsOfLines}
use Rattle.hub_unison.specs.Cautious.{has_star}
use Rattle.hub_unison.specs.ReadingOf.{cautious_of, reading_of, spare_stays}
use Rattle.hub_unison.specs.Shared.{shared_pairs}
use Rattle.hub_report.specs.Report.{has_no_numbers}
use Rattle.hub_serve.proofs.InUnison.{same-line}
use Rattle.hub_serve.proofs.Planning.{unplanned-no_numbers}
use Rattle.hub_serve.proofs.SharedPairs.{first-shared}
use Rattle.hub_serve.proofs.Told.{none-in, unspelled-as}
use Rattle.hub_serve.proofs.UnisonAsked.{unison-asked}
use Rattle.hub_serve.specs.InUnison.{DrawsInUnison, FoundIn, IsUnsearchable, ListsInUnison, RoundsInUnison, are_decided, asked_in_unison, may_be_safe_in_unison, shown_members}
use Rattle.hub_serve.specs.Told.{IsUnspelled}
use Rattle.hub_serve.specs.declared.unison_question.UnisonQuestion.{UnisonQuestion}
use Rattle.hub_serve.specs.declared.unison_question.UnisonQuestion.TheVariants as unison
use Rattle.hub_serve.specs.forms.InUnison.{HoldsOfCounted, HoldsOfFound, HoldsOfOwn, HoldsOfProfiles, IsCutOf, IsFoundOf, TellsArchive, TellsLine, TellsUnsearched, found_members}

-- Where the lines that count aren't a bundle, what is answered holds of each input of which these count.
pub unspelled-in_unison : (q : UnisonQuestion) (counted : List ℕ) (r : Report) → IsUnspelled counted r → HoldsOfCounted q counted r
unspelled-in_unison q counted r h = λ bytes counts request asked.
    unspelled-as Unison request bytes counted (Err r) (sym (unison-asked request q asked)) counts h

pub spelled-in_unison : (q : UnisonQuestion) (counted : List ℕ) (own : BundleContents) (r : Report) → Spells counted own → HoldsOfOwn q own r → HoldsOfCounted q counted r
spelled-in_unison q counted own r h w = λ bytes counts. w bytes (subst (λ bs. Spells bs own) counts h)

-- The answer by what was found of profiles and rules, or why they can't be searched.
pub found-holds : (q : UnisonQuestion) (Ps : List Parts) (Rs : List Rule) (archives : List (ℕ × ℕ)) (found : Apart) (r : Report) → IsFoundOf Ps Rs found
    → HoldsOfFound q archives found r → HoldsOfProfiles q Ps Rs archives r
found-holds q Ps Rs archives found r h w = λ own same_profiles same_rules shared.
    w own
    (subst (λ Qs. IsFoundOf Qs own.rules found) (sym same_profiles) (subst (λ Ss. IsFoundOf Ps Ss found) (sym same_rules) h))
    (shared ∙ ap shared_pairs (sym same_profiles))

-- Why profiles aren't searched has no numbers.
pub unsearchable-no_numbers : (Ps : List Parts) (Rs : List Rule) (e : CheckFault) → IsUnsearchable Ps Rs e → has_no_numbers e ≡ true
unsearchable-no_numbers Ps Rs e (inl h) = ap has_no_numbers h.2
unsearchable-no_numbers Ps Rs e (inr h) = unplanned-no_numbers Ps Rs e h

unsearched-told : (q : UnisonQuestion) (own : BundleContents) (e : CheckFault) (r : Report) → IsUnsearchable own.profiles own.rules e
    → TellsUnsearched (shown_members own) e r → HoldsOfOwn q own r
unsearched-told q own e (answer.InUnison (Unsearched line refusal)) h w = λ bytes spelled request asked. (
  (q, asked),
  record { own = own; spelled = spelled; reason = e; refused = h; line_is = w },
)
unsearched-told q own e answer.OutOfMemory h w = λ bytes spelled request asked. tt
unsearched-told q own e _ h w = absurd w

pub unsearched-holds : (q : UnisonQuestion) (Ps : List Parts) (Rs : List Rule) (archives : List (ℕ × ℕ)) (e : CheckFault) (r : Report) → IsUnsearchable Ps Rs e
    → ((S : Members) → TellsUnsearched S e r) → HoldsOfProfiles q Ps Rs archives r
unsearched-holds q Ps Rs archives e r h w = λ own same_profiles same_rules shared.
    unsearched-told q own e r
    (subst (λ Qs. IsUnsearchable Qs own.rules e) (sym same_profiles) (subst (λ Ss. IsUnsearchable Ps Ss e) (sym same_rules) h))
    (w (shown_members own))

-- An answer to one question is the answer to what is asked, if that is the same.
pub asked-holds : (asked q : UnisonQuestion) (archives : List (ℕ × ℕ)) (found : Apart) (r : Report) → asked ≡ q → HoldsOfFound q archives found r → HoldsOfFound asked archives found r
asked-holds asked q archives found r is h = subst (λ u. HoldsOfFound u archives found r) (sym is) h

-- What is shown of the profiles and rules that were found is what is shown of the bundle.
same-members : (own : BundleContents) (found : Apart) → IsFoundOf own.profiles own.rules found → found_members found ≡ shown_members own
same-members own found f = λ i. record { profiles = f.profiles i; rules = f.rules i }

abbrev input-of : (own : BundleContents) (found : Apart) (bytes : List ℕ) → IsFoundOf own.profiles own.rules found → Spells (counted_bundle bytes) own → FoundIn bytes
input-of own found bytes f spelled = record { own = own; spelled = spelled; names = f.names; lines = found.lines; found = f.lines }

-- A list with a first item begins with it.
begins-with : {X : Type 0} (xs : List X) (x : X) → slice_get xs 0 ≡ Some x → (others : List X) × (xs ≡ x ∷ others)
begins-with [] x at = absurd (none-some x at)
begins-with (y ∷ xs) x at = (xs, ap (λ z. z ∷ xs) (same_Some y x at))

-- One with none is empty.
begins-nowhere : {X : Type 0} (xs : List X) → slice_get xs 0 ≡ None → xs ≡ []
begins-nowhere [] at = refl
begins-nowhere (y ∷ xs) at = absurd (none-some y (sym at))

-- The first item of a slice of a list, if there is one.
pub first-some : {X : Type 0} (xs ys : List X) (o : Option (Bor X)) (x : Bor X) → ys ≡ xs → option_copied o ≡ slice_get ys 0 → o ≡ Some x → slice_get xs 0 ≡ Some x.now
first-some xs ys o x same first is = ap (λ zs. slice_get zs 0) (sym same) ∙ (sym first ∙ ap option_copied is)

pub first-none : {X : Type 0} (xs ys : List X) (o : Option (Bor X)) → ys ≡ xs → option_copied o ≡ slice_get ys 0 → o ≡ None → xs ≡ []
first-none xs ys o same first is = begins-nowhere xs (ap (λ zs. slice_get zs 0) (sym same) ∙ (sym first ∙ ap option_copied is))

-- The first line is told.
pub line-told : (archives : List (ℕ × ℕ)) (found : Apart) (e : CheckFault) (r : Report) → slice_get found.lines 0 ≡ Some e → TellsLine found e r
    → HoldsOfFound unison.Check archives found r
line-told archives found e (answer.InUnison (Refused line refusal)) at w = λ own f shared bytes spelled request asked.
    let begins = begins-with found.lines e at in (
      asked,
      record {
        input = input-of own found bytes f spelled;
        first = e;
        others = begins.0;
        lines_are = begins.1;
        line_is = w ∙ ap (λ S. unison_line S e) (same-members own found f);
      },
    )
line-told archives found e answer.OutOfMemory at w = λ own f shared bytes spelled request asked. tt
line-told archives found e _ at w = absurd w

-- A reading beside rules has the profile's name and roots.
abbrev IsLike : Parts → Parts → Type 0
IsLike C P = (C.name ≡ P.name) × (C.roots ≡ P.roots)

one-of-two : (b : Bool) (P C D : Parts) → IsLike C P → IsLike D P → IsLike (cond b C D) P
one-of-two true P C D first second = first
one-of-two false P C D first second = second

cautious-like : (P : Parts) → IsLike (cautious_of P) P
cautious-like P =
    one-of-two (has_star P) P _ _ (refl, refl)
    (one-of-two (list_all spare_stays P.ignorenot) P _ _ (refl, refl) (refl, refl))

reading-like : (Rs : List Rule) (P : Parts) → IsLike (reading_of Rs P) P
reading-like [] P = cautious-like P
reading-like (R ∷ Rs) P = (refl, refl)

reading-at : (Rs : List Rule) (Ps : List Parts) (i : ℕ) (P : Parts) → slice_get Ps i ≡ Some P → slice_get (beside Rs Ps) i ≡ Some (reading_of Rs P)
reading-at Rs Ps i P at = slice_get-map (reading_of Rs) Ps i ∙ ap (option_map (reading_of Rs)) at

-- So the line of the first two that share an archive is that of the profiles themselves.
pub beside-line : (Rs : List Rule) (Ps : List Parts) (numbers : ℕ × ℕ) (others : List (ℕ × ℕ)) → shared_pairs Ps ≡ numbers ∷ others
    → archive_line (beside Rs Ps) numbers ≡ archive_line Ps numbers
beside-line Rs Ps numbers others first =
    let pair = first-shared Ps numbers others first in
    let one = reading-like Rs pair.P in
    let two = reading-like Rs pair.Q in
    same-line Ps (beside Rs Ps) numbers pair.P pair.Q (reading_of Rs pair.P) (reading_of Rs pair.Q) pair.at_first pair.at_second
    (reading-at Rs Ps numbers.0 pair.P pair.at_first) (reading-at Rs Ps numbers.1 pair.Q pair.at_second) one.0 two.0 one.1

-- The first archive that is shared is told.
pub archive-told : (archives : List (ℕ × ℕ)) (found : Apart) (numbers : ℕ × ℕ) (r : Report) → found.lines ≡ [] → slice_get archives 0 ≡ Some numbers
    → TellsArchive found numbers r → HoldsOfFound unison.Check archives found r
archive-told archives found numbers (answer.InUnison (SameArchive line refusal)) none at w = λ own f shared bytes spelled request asked.
    let begins = begins-with archives numbers at in
    let first : shared_pairs own.profiles ≡ numbers ∷ begins.0 = sym shared ∙ begins.1 in (
      asked,
      record {
        input = input-of own found bytes f spelled;
        none = none;
        numbers = numbers;
        others = begins.0;
        first = first;
        line_is = w ∙ (ap (λ Ps. archive_line Ps numbers) f.profiles ∙ beside-line own.rules own.profiles numbers begins.0 first);
      },
    )
archive-told archives found numbers answer.OutOfMemory none at w = λ own f shared bytes spelled request asked. tt
archive-told archives found numbers _ none at w = absurd w

-- That nothing is wrong is told.
pub nothing-told : (q : UnisonQuestion) (archives : List (ℕ × ℕ)) (found : Apart) → may_be_safe_in_unison q ≡ true → found.lines ≡ [] → archives ≡ []
    → HoldsOfFound q archives found (answer.InUnison Safe)
nothing-told q archives found may none no_archive = λ own f shared bytes spelled request asked. (
  (q, asked, may),
  record { input = input-of own found bytes f spelled; none = none; apart = sym shared ∙ no_archive },
)

-- What holds of each input of which this is found, if this is asked.
abbrev OfFound : UnisonQuestion → List (ℕ × ℕ) → Apart → (List ℕ → Type 0) → Type 0
OfFound q archives found C =
    (own : BundleContents) → IsFoundOf own.profiles own.rules found → archives ≡ shared_pairs own.profiles
    → (bytes : List ℕ) → Spells (counted_bundle bytes) own → (request : Request) → asked_in_unison request ≡ Some q
    → (asked_in_unison request ≡ Some q) × C bytes

-- All lines are told,
pub lists-told : (archives : List (ℕ × ℕ)) (found : Apart) (text : List ℕ) → (found.lines ≡ [] → archives ≢ [])
    → text ≡ all_unison_lines (found_members found) found.lines archives → OfFound unison.Clashes archives found (λ bytes. ListsInUnison bytes text)
lists-told archives found text some is = λ own f shared bytes spelled request asked. (
  asked,
  record {
    input = input-of own found bytes f spelled;
    some = λ none no_archive. some none (shared ∙ no_archive);
    text_is = is
        ∙ (ap (λ S. all_unison_lines S found.lines archives) (same-members own found f)
        ∙ ap (all_unison_lines (shown_members own) found.lines) shared);
  },
)

-- the graph of them,
pub draws-told : (archives : List (ℕ × ℕ)) (found : Apart) (text : List ℕ) (safe : Bool) → text ≡ graph_text found.profiles found.lines archives
    → safe ≡ (length found.lines == 0 && length archives == 0) → OfFound unison.Graph archives found (λ bytes. DrawsInUnison bytes text safe)
draws-told archives found text safe is safe_is = λ own f shared bytes spelled request asked. (
  asked,
  record {
    input = input-of own found bytes f spelled;
    text_is = is
        ∙ (ap (λ Ps. graph_text Ps found.lines archives) f.profiles
        ∙ ap (graph_text (beside own.rules own.profiles) found.lines) shared);
    safe_is = (
      λ t.
          let both = and_parts (length found.lines == 0) (length archives == 0) (sym safe_is ∙ t) in
          (none-in found.lines both.0, sym shared ∙ none-in archives both.1),
      λ e. safe_is ∙ and_from (length found.lines == 0) (length archives == 0)
          (ap (λ (xs : List CheckFault). length xs == 0) e.0)
          (ap (λ (xs : List (ℕ × ℕ)). length xs == 0) (shared ∙ e.1)),
    );
  },
)

-- and rounds by them.
pub cut-told : (archives : List (ℕ × ℕ)) (found : Apart) (c : Cut) → IsCutOf archives found c
    → OfFound unison.Rounds archives found (λ bytes. RoundsInUnison bytes (string_bytes c.text) c.decided)
cut-told archives found c w = λ own f shared bytes spelled request asked.
    let many : length found.profiles ≡ length own.profiles =
    ap (λ (Ps : List Parts). length Ps) f.profiles ∙ length-map own.profiles (reading_of own.rules) in
    let all : with_pairs archives found.lines ≡ with_pairs (shared_pairs own.profiles) found.lines =
    ap (λ pairs. with_pairs pairs found.lines) shared in (
      asked,
      record {
        input = input-of own found bytes f spelled;
        rounds = w.rounds;
        cut = subst (λ (n : ℕ). AreRoundsOfLines n (with_pairs (shared_pairs own.profiles) found.lines) w.rounds) many
            (subst (λ es. AreRoundsOfLines (length found.profiles) es w.rounds) all w.cut);
        text_is = w.text_is ∙ ap (λ Ps. numbers_text Ps w.rounds) f.profiles;
        decided_is = w.decided_is ∙ ap (λ es. are_decided es w.rounds) all;
      },
    )

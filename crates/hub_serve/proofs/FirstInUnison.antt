-- What is true of the input if what is written about profiles as Unison may run them starts so.
use Rattle.std.proofs.Common.{◌≡◌, ◌∙◌, inl, inr, ℕ, Bool, true, false, cond, List, [], ◌∷◌, ◌++◌, Option, Some, append-nil, codes, refl, sym, ap, subst, arith}
use Rattle.std.specs.Prelude.{Contains, slice_get, string_bytes}
use Rattle.std.proofs.lemmas.Bool.{false≢true}
use Rattle.std.proofs.lemmas.Option.{get_or_from_slice_get, slice_get_within}
use Rattle.hub_profile.specs.Parts.{Parts}
use Rattle.hub_cert.specs.Set.{Members}
use Rattle.hub_cert.specs.declared.fault.CheckFault.{CheckFault}
use Rattle.hub_apart.specs.UnsafeParts.{shows_path}
use Rattle.hub_report.specs.Archive.{archive_line, archive_lines}
use Rattle.hub_report.specs.InUnison.{unison_line, unison_lines}
use Rattle.hub_report.specs.Refusal.{refusal_line}
use Rattle.hub_report.specs.Report.{has_no_numbers}
use Rattle.hub_report.specs.UnisonAnswer as answers
use Rattle.hub_report.specs.declared.clashes_answer.ClashesAnswer.{ClashesAnswer}
use Rattle.hub_report.specs.declared.clashes_answer.ClashesAnswer.TheVariants.{Lines, Graph, Cut}
use Rattle.hub_report.specs.ClashesAnswer as clashes
use Rattle.hub_report.specs.declared.unison_answer.UnisonAnswer.{UnisonAnswer}
use Rattle.hub_report.specs.declared.unison_answer.UnisonAnswer.TheVariants.{Safe, Refused, Unsearched, SameArchive, Clashes}
use Rattle.hub_report.specs.laws.Starts.{HoldsOfUnisonStarts, refusal-start, start, unison-line-start, unison-lines-start}
use Rattle.hub_cli.specs.declared.words.Question.TheVariants as ask
use Rattle.hub_cli.specs.declared.words.Reading.{Reading}
use Rattle.hub_cli.specs.declared.words.Reading.TheVariants.{Unison}
use Rattle.hub_cli.specs.Words.{Request, about, reading_for}
use Rattle.hub_serve.specs.InUnison.{ClashesHold, DrawsInUnison, FoundIn, IsArchiveLine, IsFirstLine, ListsInUnison, RoundsInUnison, UnisonHolds, archives_of, asked_in_unison, shown_of}
use Rattle.hub_serve.specs.Shown.{ListsAs, ShowsArchive, SpellsUnsafe, SpellsUnsafeAs}
use Rattle.hub_serve.specs.declared.unison_question.UnisonQuestion.{UnisonQuestion}
use Rattle.hub_serve.specs.declared.unison_question.UnisonQuestion.TheVariants as unison
use Rattle.hub_serve.proofs.AskedInUnison.{asks-in-unison, check-no-clashes, clashes-in-unison, graph-question, rounds-question, safe-in-unison}
use Rattle.hub_serve.proofs.UnisonAsked.{unison-asked}
use Rattle.hub_serve.proofs.Means.{AreClashes, Means}
use Rattle.hub_serve.proofs.SafeTogether.{nothing-safe, rounds-safe}
use Rattle.hub_serve.proofs.SharedPairs.{first-shared}
use Rattle.hub_serve.proofs.UnisonTold.{beside-line, unsearchable-no_numbers}

-- A line without numbers begins as no other answer.
pub unplanned-means : (request : Request) (bytes line : List ℕ) (S : Members) (e : CheckFault) → has_no_numbers e ≡ true → Means request bytes line 1 (start (refusal_line S e))
unplanned-means request bytes line S e none =
    refusal-start (Means request bytes line 1) S e (record {
      other = tt;
      overlap = λ w o place held path is. absurd (false≢true (sym (ap has_no_numbers is) ∙ none));
      breach = λ p k path is. absurd (false≢true (sym (ap has_no_numbers is) ∙ none));
      too_large = λ g is. absurd (false≢true (sym (ap has_no_numbers is) ∙ none));
    })

-- A line that shows a path shows unsafe parts.
unsafe-in : (request : Request) (u : UnisonQuestion) (bytes : List ℕ) → asked_in_unison request ≡ Some u → (f : FoundIn bytes) (e : CheckFault) → Contains f.lines e → shows_path e ≡ true → SpellsUnsafe (Some request) bytes
unsafe-in request u bytes is f e among shows = record {
  request = request;
  is_asked = refl;
  unsafe = subst (λ r. SpellsUnsafeAs r bytes) (sym (unison-asked request u is)) (f.own, f.spelled, f.found.unsafe e among shows);
}

-- Two profiles that share an archive are shown.
archive-shown : (request : Request) (u : UnisonQuestion) (bytes line : List ℕ) → asked_in_unison request ≡ Some u → (f : FoundIn bytes) (numbers : ℕ × ℕ) (others : List (ℕ × ℕ)) → archives_of f ≡ numbers ∷ others
    → (rest : List ℕ) → line ≡ archive_line f.own.profiles numbers ++ rest → ShowsArchive (Some request) bytes line 1
archive-shown request u bytes line is f numbers others first rest text =
    let pair = first-shared f.own.profiles numbers others first in
    record {
      request = request;
      is_asked = refl;
      for_unison = unison-asked request u is;
      own = f.own;
      spelled = f.spelled;
      numbers = numbers;
      P = pair.P;
      Q = pair.Q;
      before = pair.before;
      at_first = pair.at_first;
      at_second = pair.at_second;
      shared = pair.shared;
      rest = rest;
      text_is = text;
      status_is = refl;
    }

-- It is true of the start of the first line,
first-means : (request : Request) (bytes line : List ℕ) → asked_in_unison request ≡ Some unison.Check → IsFirstLine bytes line → Means request bytes line 1 (start line)
first-means request bytes line is h =
    subst (λ t. Means request bytes line 1 (start t)) (sym h.line_is)
    (unison-line-start (Means request bytes line 1) (shown_of h.input) h.first (record {
      other = tt;
      overlap = λ w o place held path same. (λ shown. unsafe (ap shows_path same), never);
      breach = λ p k path same. (λ shown. unsafe (ap shows_path same), never);
      too_large = λ g same. never;
      nested = λ g same. never;
    }))
  where
    never : AreClashes request bytes line 1
    never reading asks = absurd (check-no-clashes request reading is asks)

    among : Contains h.input.lines h.first
    among = subst (λ es. Contains es h.first) (sym h.lines_are) (0, omega arith, refl)

    unsafe : shows_path h.first ≡ true → SpellsUnsafe (Some request) bytes
    unsafe shows = unsafe-in request unison.Check bytes is h.input h.first among shows

-- of that of all lines,
lines-mean : (request : Request) (bytes line : List ℕ) → asked_in_unison request ≡ Some unison.Clashes → ListsInUnison bytes line → Means request bytes line 1 (start line)
lines-mean request bytes line is h =
    subst (λ t. Means request bytes line 1 (start t)) (sym h.text_is)
    (unison-lines-start (Means request bytes line 1) (shown_of f) f.lines (archive_lines (shown_of f).profiles (archives_of f)) (λ none. behind (archives_of f) refl none)
    (λ n e at. each e (n, slice_get_within f.lines n e at, get_or_from_slice_get f.lines n e e at)))
  where
    f : FoundIn bytes
    f = h.input

    says : AreClashes request bytes line 1
    says reading asks = record {
      listed = subst (λ r. ListsAs r bytes line) (sym (clashes-in-unison request reading unison.Clashes is asks)) h;
      status_is = refl;
    }

    behind : (own : List (ℕ × ℕ)) → archives_of f ≡ own → unison_lines (shown_of f) f.lines ≡ [] → Means request bytes line 1 (start (archive_lines (shown_of f).profiles (archives_of f)))
    behind [] first none = subst (λ ns. Means request bytes line 1 (start (archive_lines (shown_of f).profiles ns))) (sym first) tt
    behind (numbers ∷ others) first none =
        let own_line = beside-line f.own.rules f.own.profiles numbers others first in
        let text : line ≡ archive_line f.own.profiles numbers ++ archive_lines (shown_of f).profiles others =
        h.text_is ∙ (ap (λ t. t ++ archive_lines (shown_of f).profiles (archives_of f)) none ∙ (ap (archive_lines (shown_of f).profiles) first ∙ ap (λ t. t ++ archive_lines (shown_of f).profiles others) own_line)) in
        subst (λ ns. Means request bytes line 1 (start (archive_lines (shown_of f).profiles ns))) (sym first)
        (archive-shown request unison.Clashes bytes line is f numbers others first (archive_lines (shown_of f).profiles others) text, says)

    each : (e : CheckFault) → Contains f.lines e → HoldsOfUnisonStarts (Means request bytes line 1) e
    each e among = record {
      other = tt;
      overlap = λ w o place held path same. (λ shown. unsafe-in request unison.Clashes bytes is f e among (ap shows_path same), says);
      breach = λ p k path same. (λ shown. unsafe-in request unison.Clashes bytes is f e among (ap shows_path same), says);
      too_large = λ g same. says;
      nested = λ g same. says;
    }

-- of that of all that clashes or of rounds,
clashes-mean : (request : Request) (bytes : List ℕ) (a : ClashesAnswer) (line : List ℕ) → line ≡ clashes.text_of a → ClashesHold (asked_in_unison request) bytes a
    → Means request bytes line (clashes.status_of a) (start line)
clashes-mean request bytes (Lines text first) line l h = lines-mean request bytes line h.0 (subst (ListsInUnison bytes) (sym l) h.1)
clashes-mean request bytes (Graph g) line l h =
    let drawn : DrawsInUnison bytes line g.safe = subst (λ t. DrawsInUnison bytes t g.safe) (sym l) h.1 in
    subst (λ t. Means request bytes line (cond g.safe 0 1) (start t)) (sym drawn.text_is) (record {
      reading = Unison;
      is_asked = ap Some (graph-question request h.0);
      well = g.safe;
      drawn = (drawn, λ w. let both = drawn.safe_is.0 w in nothing-safe bytes (record { input = drawn.input; none = both.0; apart = both.1 }));
      status_is = refl;
    })
clashes-mean request bytes (Cut c) line l h =
    let cut : RoundsInUnison bytes line c.decided = subst (λ t. RoundsInUnison bytes t c.decided) (sym l) h.1 in
    subst (λ t. Means request bytes line (cond c.decided 0 1) (start t)) (sym cut.text_is) (inl (record {
      reading = Unison;
      is_asked = ap Some (rounds-question request h.0);
      well = c.decided;
      cut = record { cut = cut; safe = rounds-safe bytes line c.decided cut };
      status_is = refl;
    }))

-- and of that of each answer about profiles as Unison may run them.
pub unison-means : (request : Request) (bytes : List ℕ) (a : UnisonAnswer) (line : List ℕ) → line ≡ answers.text_of a → UnisonHolds (asked_in_unison request) bytes a
    → Means request bytes line (answers.status_of a) (start line)
unison-means request bytes Safe line l h =
    let may = h.0 in
    let a = asks-in-unison request may.0 may.1 in
    subst (λ t. Means request bytes line 0 (start t)) (sym l) (
      [],
      l,
      inr (record {
        of_set = a.of_set;
        is_asked = ap Some a.asked;
        in_unison = a.reading;
        may_be = safe-in-unison a.of_set may.0 a.is may.2;
        safe = nothing-safe bytes h.1;
        text_is = refl;
        status_is = refl;
      }),
    )
unison-means request bytes (Refused text refusal) line l h = first-means request bytes line h.0 (subst (IsFirstLine bytes) (sym l) h.1)
unison-means request bytes (Unsearched text refusal) line l h =
    let u = h.1 in
    subst (λ t. Means request bytes line 1 (start t)) (sym (l ∙ u.line_is))
    (unplanned-means request bytes line _ u.reason (unsearchable-no_numbers _ _ u.reason u.refused))
unison-means request bytes (SameArchive text refusal) line l h =
    let a : IsArchiveLine bytes line = subst (IsArchiveLine bytes) (sym l) h.1 in
    subst (λ t. Means request bytes line 1 (start t)) (sym a.line_is) (
      archive-shown request unison.Check bytes line h.0 a.input a.numbers a.others a.first [] (a.line_is ∙ sym (append-nil (archive_line a.input.own.profiles a.numbers))),
      λ reading asks. absurd (check-no-clashes request reading h.0 asks),
    )
unison-means request bytes (Clashes a) line l h = clashes-mean request bytes a line l h

-- What a refusal and a text that is no path are answered with.
use Rattle.std.proofs.Common.{◌≡◌, ◌⊎◌, ◌==◌, ◌&&◌, ◌∙◌, ◌∷◌, inl, inr, ℕ, Bool, false, true, List, [], length, IfSome, None, Option, Some, refl, sym, ap, subst}
use Rattle.std.specs.Prelude.{Contains, IfErr, IfOk, IsTrue, Result, Ok, Err, slice_get}
use Rattle.std.proofs.lemmas.Bool.{and_from, and_parts, false≢true}
use Rattle.std.proofs.lemmas.Option.{none-some, same_Some}
use Rattle.hub_path.specs.declared.fault.PathFault.{PathFault}
use Rattle.hub_path.specs.declared.fault.PathFault.TheVariants as path
use Rattle.hub_cert.specs.Goals.{is_goal}
use Rattle.hub_cert.specs.Set.{IsSafeSet, Members}
use Rattle.hub_cert.specs.declared.goal.Goal.{Goal}
use Rattle.hub_search.specs.Faults.{AreFaults, HasLine, HasInductiveTexts}
use Rattle.hub_profile.specs.Parts.{Parts}
use Rattle.hub_profile.specs.declared.rule.Rule.{Rule}
use Rattle.hub_apart.specs.Apart.{are_put_apart}
use Rattle.hub_apart.specs.ApartLines.{AreLines, AreLinesApart, IsRefusedApart}
use Rattle.hub_search.specs.Search.{Disproves}
use Rattle.hub_state.specs.State.{State}
use Rattle.hub_report.specs.Graph.{graph_text}
use Rattle.hub_serve.specs.declared.task.Task.TheVariants as task
use Rattle.hub_cli.specs.declared.words.Question.TheVariants as ask
use Rattle.hub_cli.specs.declared.words.Question.TheVariants.{CheckWithState, Run, RunByRounds, RunInOrder, Check}
use Rattle.hub_cli.specs.declared.words.Question.TheVariants.{Certify, Verify, Rounds}
use Rattle.hub_cert.specs.Refused.{IsRefused}
use Rattle.hub_cert.specs.declared.certificate.Certificate.{Certificate}
use Rattle.hub_cert.specs.declared.fault.CheckFault.{CheckFault}
use Rattle.hub_cert.specs.declared.fault.CheckFault.TheVariants as fault
use Rattle.hub_bundle.specs.declared.sections.BundleContents.{BundleContents}
use Rattle.hub_bundle.specs.Sections.{Spells, members}
use Rattle.hub_cli.specs.declared.words.Reading.{Reading}
use Rattle.hub_cli.specs.declared.words.Reading.TheVariants.{Plain, Unison}
use Rattle.hub_cli.specs.declared.words.Question.{Question}
use Rattle.hub_cli.specs.Words.{Request, about, reading_for, reading_of}
use Rattle.hub_report.specs.declared.faulty_input.FaultyInput.TheVariants.{BadBundle, BadSection, Unread}
use Rattle.hub_report.specs.declared.report.Report.{Report}
use Rattle.hub_report.specs.declared.reach_answer.ReachAnswer.TheVariants.{BadPath}
use Rattle.hub_report.specs.declared.report.Report.TheVariants.{Faulty, Reach, NoState, Refused, SameArchive, Verdict, OutOfMemory}
use Rattle.hub_report.specs.declared.verdict.Verdict.TheVariants.{Safe}
use Rattle.hub_report.specs.declared.report.Report.TheVariants.{Imported, NotImported, Planned, InUnison, Mended, NotMended}
use Rattle.hub_serve.specs.declared.task.Task.{Task}
use Rattle.hub_report.specs.Report.{TellsArchive, TellsRefusal, has_no_numbers}
use Rattle.hub_serve.specs.Told.{FaultOf, HasBadPath, Holds, IsTold, IsToldAnyway, IsToldOfSet, IsUnspelled, puts_apart}
use Rattle.hub_serve.specs.Rounds.{DrawsClashes}
use Rattle.hub_serve.specs.InUnison.{asked_in_unison}
use Rattle.hub_serve.specs.Task.{AsksTask, LacksState, reading_in, task_of}
use Rattle.hub_serve.specs.Unison.{SpellsAs, SpellsCounted, archives_as, counted_as}
use Rattle.hub_serve.proofs.Asking.{reading-asked}
use Rattle.hub_text.specs.laws.List.{some-item}

-- It was asked to do this.
asks-for : (q : Question) (c : BundleContents) (to_do : Task) → task_of q c.state ≡ Some to_do → AsksTask (about q) c.state to_do
asks-for q c to_do is = record { of_set = q; asked = refl; task_is = is }

-- Profiles that are no set are refused, whatever is to be done, unless they are put apart.
pub refusal-told : (q : Question) (c : BundleContents) (to_do : Task) → task_of q c.state ≡ Some to_do → (e : CheckFault) (r : Report) → IsRefused (members c) e
    → puts_apart to_do (members c) ≡ false → TellsRefusal (members c) e r → IsTold (about q) c r
refusal-told q c to_do is e (Refused t f) i stays h = record { to_do = to_do; asked = asks-for q c to_do is; reason = e; refused = inl (i, stays); told = h }
refusal-told q c to_do is e OutOfMemory i stays h = tt
refusal-told q c to_do is e _ i stays h = absurd h

-- What keeps profiles and rules from being a set has no numbers;
pub refused-no_numbers : (T : Members) (e : CheckFault) → IsRefused T e → has_no_numbers e ≡ true
refused-no_numbers T fault.TooManyProfiles h = refl
refused-no_numbers T (fault.SameName name) h = refl
refused-no_numbers T (fault.NestedRoots r s) h = refl
refused-no_numbers T (fault.AlphabetFault f) h = refl
refused-no_numbers T fault.OutOfMemory h = refl
refused-no_numbers T _ h = absurd h

-- nor has what keeps profiles that are put apart from being searched.
pub apart-no_numbers : (S : Members) (e : CheckFault) → IsRefusedApart S e → has_no_numbers e ≡ true
apart-no_numbers S e (inl h) = ap has_no_numbers h
apart-no_numbers S e (inr (inl h)) = ap has_no_numbers h.0
apart-no_numbers S e (inr (inr h)) = refused-no_numbers h.0 e h.2

-- What is true of a set is true of the bundle that has it.
pub set-told : (q : Question) (c : BundleContents) (to_do : Task) → task_of q c.state ≡ Some to_do → (r : Report) → IsToldOfSet to_do (members c) c.certificates r
    → IsTold (about q) c r
set-told q c to_do is (Faulty f) h = absurd h
set-told q c to_do is (Reach a) h = absurd h
set-told q c to_do is NoState h = absurd h
set-told q c to_do is (Refused t f) h = record { to_do = to_do; asked = asks-for q c to_do is; reason = h.0; refused = inr h.1; told = h.2 }
set-told q c to_do is (Imported t) h = absurd h
set-told q c to_do is NotImported h = absurd h
set-told q c to_do is (Planned a) h = absurd h
set-told q c to_do is (InUnison a) h = absurd h
set-told q c to_do is (Mended m) h = absurd h
set-told q c to_do is NotMended h = absurd h
set-told q c to_do is OutOfMemory h = tt
set-told q c to_do is _ h = record { to_do = to_do; asked = asks-for q c to_do is; told = h }

-- Where profiles are put apart, rounds were to be told.
puts-apart : (t : Task) (S : Members) → puts_apart t S ≡ true → (t ≡ task.Rounds (reading_in t)) × (are_put_apart S ≡ true)
puts-apart (task.Rounds reading) S h = (refl, h)
puts-apart _ S h = absurd (false≢true h)

pub apart-told : (q : Question) (c : BundleContents) (to_do : Task) → task_of q c.state ≡ Some to_do → (r : Report) → puts_apart to_do (members c) ≡ true
    → (are_put_apart (members c) ≡ true → IsToldOfSet (task.Rounds (reading_of q)) (members c) c.certificates r) → IsTold (about q) c r
apart-told q c to_do is r put h =
    let p = puts-apart to_do (members c) put in
    let same : to_do ≡ task.Rounds (reading_of q) = p.0 ∙ ap (λ reading. task.Rounds reading) (reading-asked q c.state to_do is) in
    set-told q c to_do is r (subst (λ t. IsToldOfSet t (members c) c.certificates r) (sym same) (h p.1))

-- The lines of profiles and rules are those of a set that has them.
pub apart-lines : (S : Members) (Ps : List Parts) (Rs : List Rule) (es : List CheckFault) → S.profiles ≡ Ps → S.rules ≡ Rs → are_put_apart S ≡ true
    → AreLinesApart (record { profiles = Ps; rules = Rs }) es → AreLines S es
apart-lines S Ps Rs es ps rs put h = inr (put, subst (λ (M : Members). AreLinesApart M es) (λ i. record { profiles = sym ps i; rules = sym rs i }) h)

pub apart-refused : (S : Members) (Ps : List Parts) (Rs : List Rule) (e : CheckFault) → S.profiles ≡ Ps → S.rules ≡ Rs
    → IsRefusedApart (record { profiles = Ps; rules = Rs }) e → IsRefusedApart S e
apart-refused S Ps Rs e ps rs h = subst (λ (M : Members). IsRefusedApart M e) (λ i. record { profiles = sym ps i; rules = sym rs i }) h

-- A set that is refused for a fault of it was to be told so.
pub refused-told : (t : Task) (S : Members) (cs : List Certificate) (e : CheckFault) (r : Report) → FaultOf t S cs e → TellsRefusal S e r → IsToldOfSet t S cs r
refused-told t S cs e (Refused x y) f h = (e, f, h)
refused-told t S cs e OutOfMemory f h = tt
refused-told t S cs e _ f h = absurd h

-- A text is no path, or memory ran out.
pub path-told : (request : Request) (c : BundleContents) (f : PathFault) (r : Report) → (f ≡ path.OutOfMemory → r ≡ OutOfMemory)
    → (r ≡ OutOfMemory) ⊎ (r ≡ Reach (BadPath f)) → (f ≡ path.OutOfMemory) ⊎ HasBadPath request c.profiles f → IsTold request c r
path-told request c f r memory (inl e) h = subst (IsTold request c) (sym e) tt
path-told request c f r memory (inr e) (inl o) = subst (IsTold request c) (sym (memory o)) tt
path-told request c f r memory (inr e) (inr h) = subst (IsTold request c) (sym e) h

-- What holds of the bytes that were read holds of those that remained, if they are known.
pub bytes-hold : (remaining : Option (List ℕ)) (read : List ℕ) (P : List ℕ → Type 0) → IfSome remaining (λ bytes. read ≡ bytes) → P read → IfSome remaining P
bytes-hold None read P is h = tt
bytes-hold (Some bytes) read P is h = subst P is h

-- What the lines that count say is what the bytes say.
counted-spells : (reading : Reading) (bytes : List ℕ) (c : BundleContents) → SpellsCounted reading (counted_as reading bytes) c → SpellsAs reading bytes c
counted-spells Plain bytes c h = subst (Spells bytes) (sym h.2) h.1
counted-spells Unison bytes c h = h

pub spelled-as : (reading : Reading) (request : Request) (bytes counted : List ℕ) (r : Result BundleContents Report) → reading ≡ reading_for request
    → counted ≡ counted_as reading bytes → IfOk r (SpellsCounted reading counted) → IfOk r (SpellsAs (reading_for request) bytes)
spelled-as reading request bytes counted (Ok c) is counts h =
    counted-spells (reading_for request) bytes c
    (subst (λ d. SpellsCounted d (counted_as d bytes) c) is (subst (λ bs. SpellsCounted reading bs c) counts h))
spelled-as reading request bytes counted (Err e) is counts h = tt

-- What is answered where the lines that count aren't a bundle is true of the input.
unspelled-holds : (request : Request) (bytes : List ℕ) (r : Report) → IsUnspelled (counted_as (reading_for request) bytes) r → Holds request bytes r
unspelled-holds request bytes (Faulty (Unread f)) h = absurd h
unspelled-holds request bytes (Faulty (BadBundle f)) h = h
unspelled-holds request bytes (Faulty (BadSection f)) h = h
unspelled-holds request bytes OutOfMemory h = tt
unspelled-holds request bytes _ h = absurd h

pub unspelled-as : (reading : Reading) (request : Request) (bytes counted : List ℕ) (r : Result BundleContents Report) → reading ≡ reading_for request
    → counted ≡ counted_as reading bytes → IfErr r (IsUnspelled counted) → IfErr r (Holds request bytes)
unspelled-as reading request bytes counted (Ok c) is counts h = tt
unspelled-as reading request bytes counted (Err e) is counts h =
    unspelled-holds request bytes e (subst (λ d. IsUnspelled (counted_as d bytes) e) is (subst (λ bs. IsUnspelled bs e) counts h))

-- What is true where one thing was to be done is true of what was to be done.
pub done-told : (t u : Task) (S : Members) (cs : List Certificate) (r : Report) → t ≡ u → IsToldOfSet u S cs r → IsToldOfSet t S cs r
done-told t u S cs r is h = subst (λ v. IsToldOfSet v S cs r) (sym is) h

-- Without something to do, there is no state to run on.
pub lacks-state : (q : Question) (o : Option State) → task_of q o ≡ None → LacksState (about q) o
lacks-state CheckWithState None is = absurd (none-some (task.Check Plain) (sym is))
lacks-state CheckWithState (Some S) is = cc
lacks-state (Run n) None is = record { workers = n; asked = inl refl; missing = refl }
lacks-state (Run n) (Some S) is = cc
lacks-state (RunByRounds n) None is = record { workers = n; asked = inr (inl refl); missing = refl }
lacks-state (RunByRounds n) (Some S) is = cc
lacks-state (RunInOrder n) None is = record { workers = n; asked = inr (inr refl); missing = refl }
lacks-state (RunInOrder n) (Some S) is = cc
lacks-state (Check reading) o is = cc
lacks-state Certify o is = cc
lacks-state Verify o is = cc
lacks-state (ask.Clashes reading) o is = cc
lacks-state (ask.Graph reading) o is = cc
lacks-state (Rounds reading) o is = cc

-- A list whose length is 0 has no items.
pub none-in : {X : Type 0} (xs : List X) → (length xs == 0) ≡ true → xs ≡ []
none-in [] t = refl
none-in (x ∷ xs) t = absurd (false≢true (sym (some-item x xs) ∙ t))

-- A safe set is told to be safe if no archive is shared, and else which one is.
pub safe-told : (reading : Reading) (S : Members) (archives : List (ℕ × ℕ)) → archives ≡ archives_as reading S.profiles → (length archives == 0) ≡ true → IsSafeSet S → (cs : List Certificate)
    → IsToldOfSet (task.Check reading) S cs (Verdict Safe)
safe-told reading S archives own none safe cs = (refl, safe, sym own ∙ none-in archives none)

pub archive-told : (reading : Reading) (S : Members) (archives : List (ℕ × ℕ)) (numbers : ℕ × ℕ) (r : Report) → archives ≡ archives_as reading S.profiles → slice_get archives 0 ≡ Some numbers → IsSafeSet S
    → TellsArchive S.profiles numbers r → IsToldAnyway (task.Check reading) S r
archive-told reading S [] numbers r own at safe h = absurd (none-some numbers at)
archive-told reading S (first ∷ others) numbers (SameArchive line refusal) own at safe h = λ cs. (
  refl,
  record { safe = safe; numbers = numbers; others = others; first = sym own ∙ ap (λ n. n ∷ others) (same_Some first numbers at); line_is = h },
)
archive-told reading S (first ∷ others) numbers OutOfMemory own at safe h = λ cs. tt
archive-told reading S (first ∷ others) numbers _ own at safe h = absurd h

-- A graph of a set and of its lines draws what clashes in it.
pub drawn : (reading : Reading) (S : Members) (es : List CheckFault) (archives : List (ℕ × ℕ)) (text : List ℕ) (safe : Bool) → archives ≡ archives_as reading S.profiles → AreFaults S es
    → ((e : CheckFault) → Contains es e → Disproves S e)
    → ((g : Goal) → IsTrue (is_goal S g) → HasInductiveTexts S g ⊎ HasLine S es g) → (es ≡ [] → IsSafeSet S)
    → text ≡ graph_text S.profiles es archives → safe ≡ (length es == 0 && length archives == 0) → DrawsClashes reading S text safe
drawn reading S es archives text safe own all disproved rest sure text_is safe_is = record {
  lines = es;
  all = all;
  disproved = disproved;
  rest = rest;
  text_is = text_is ∙ ap (graph_text S.profiles es) own;
  safe_is = (
    λ t. let both = and_parts (length es == 0) (length archives == 0) (sym safe_is ∙ t) in (none-in es both.0, sym own ∙ none-in archives both.1),
    λ e. safe_is ∙ and_from (length es == 0) (length archives == 0) (ap (λ (xs : List CheckFault). length xs == 0) e.0) (ap (λ (xs : List (ℕ × ℕ)). length xs == 0) (own ∙ e.1)),
  );
  sure = λ t. sure (none-in es (and_parts (length es == 0) (length archives == 0) (sym safe_is ∙ t)).0);
}

-- What is true of what a bundle says is true of its bytes.
pub told-holds : (request : Request) (bytes : List ℕ) (c : BundleContents) (r : Report) → asked_in_unison request ≡ None → SpellsAs (reading_for request) bytes c → IsTold request c r → Holds request bytes r
told-holds request bytes c (Faulty f) w s h = absurd h
told-holds request bytes c (Planned a) w s h = absurd h
told-holds request bytes c (InUnison a) w s h = absurd h
told-holds request bytes c (Mended m) w s h = absurd h
told-holds request bytes c NotMended w s h = absurd h
told-holds request bytes c OutOfMemory w s h = tt
told-holds request bytes c _ w s h = record { whole = w; contents = c; spelled = s; told = h }

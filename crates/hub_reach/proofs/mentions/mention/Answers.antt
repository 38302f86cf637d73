use Rattle.std.proofs.Common.{◌≡◌, ◌∙◌, ◌++◌, ℕ, List, ap, subst}
use Rattle.std.specs.List.{flat_map}
use Rattle.std.proofs.lemmas.Result.{err_from_is_err_and}
use Rattle.hub_automaton.specs.declared.fault.AutomatonFault.{AutomatonFault}
use Rattle.hub_automaton.specs.Alphabet.{path_characters, spec_characters, with_characters, RefusesCharacters, mentions}
use Rattle.hub_glob.specs.Specification.{Specification}
use Rattle.hub_path.specs.Path.{Path}
use Rattle.hub_profile.specs.Parts.{Parts}
use Rattle.hub_profile.specs.declared.partial.Partial.{Partial}
use Rattle.hub_reach.specs.Mention.{mentioned_by, partial_characters, IsPartly}
use Rattle.hub_automaton.specs.laws.AddedInTurn.{added-after, refused-before, refused-after}
use Rattle.hub_reach.specs.laws.Mention.{says-all}
use Rattle.hub_reach.proofs.Grows.{partly-before, partly-after}
use Rattle.hub_reach.proofs.mentions.mention.Goals as goal

-- The characters of each part.
abbrev kept : Parts → List ℕ
kept P = flat_map path_characters P.paths

abbrev ignored : Parts → List ℕ
ignored P = flat_map spec_characters P.ignore

abbrev exceptions : Parts → List ℕ
exceptions P = flat_map spec_characters P.ignorenot

abbrev barred : Parts → List ℕ
barred P = flat_map partial_characters P.partial

-- The characters of a getter's values are those of the profile's.
added_of : {X : Type 0} (f : X → List ℕ) (old new : List ℕ) (xs ys : List X) → xs ≡ ys → new ≡ with_characters old (flat_map f xs) → new ≡ with_characters old (flat_map f ys)
added_of f old new xs ys e h = h ∙ ap (λ zs. with_characters old (flat_map f zs)) e

-- Why some characters aren't added, and what has been added of them.
abbrev Fails : List ℕ → List ℕ → AutomatonFault → List ℕ → Type 0
Fails ms cs e new = RefusesCharacters ms cs e × IsPartly ms cs new

fails_of : {X : Type 0} (f : X → List ℕ) (old : List ℕ) (xs ys : List X) (e : AutomatonFault) (new : List ℕ) → xs ≡ ys → Fails old (flat_map f xs) e new → Fails old (flat_map f ys) e new
fails_of f old xs ys e new is h = subst (λ zs. Fails old (flat_map f zs) e new) is h

fails_before : (ms cs ds : List ℕ) (e : AutomatonFault) (new : List ℕ) → Fails ms cs e new → Fails ms (cs ++ ds) e new
fails_before ms cs ds e new h = (refused-before ms cs ds e h.0, partly-before ms cs ds new h.1)

fails_after : (ms now cs ds : List ℕ) (e : AutomatonFault) (new : List ℕ) → now ≡ with_characters ms cs → Fails now ds e new → Fails ms (cs ++ ds) e new
fails_after ms now cs ds e new is h = (refused-after ms now cs ds e is h.0, partly-after ms now cs ds new is h.1)

-- Why the characters of a part aren't added, those of the parts before it being added, is why the profile's aren't.
fails_in_kept : (P : Parts) (old new : List ℕ) (ps : List Path) (e : AutomatonFault) → ps ≡ P.paths → Fails old (flat_map path_characters ps) e new → Fails old (mentioned_by P) e new
fails_in_kept P old new ps e is h =
    fails_before old (kept P) (ignored P ++ (exceptions P ++ barred P)) e new (fails_of path_characters old ps P.paths e new is h)

fails_in_ignored : (P : Parts) (old a new : List ℕ) (ps : List Path) (ss : List Specification) (e : AutomatonFault) → ps ≡ P.paths → ss ≡ P.ignore
    → a ≡ with_characters old (flat_map path_characters ps) → Fails a (flat_map spec_characters ss) e new → Fails old (mentioned_by P) e new
fails_in_ignored P old a new ps ss e is_p is_s first h =
    fails_after old a (kept P) (ignored P ++ (exceptions P ++ barred P)) e new (added_of path_characters old a ps P.paths is_p first)
    (fails_before a (ignored P) (exceptions P ++ barred P) e new (fails_of spec_characters a ss P.ignore e new is_s h))

fails_in_exceptions : (P : Parts) (old a b new : List ℕ) (ps : List Path) (ss ns : List Specification) (e : AutomatonFault) → ps ≡ P.paths → ss ≡ P.ignore → ns ≡ P.ignorenot
    → a ≡ with_characters old (flat_map path_characters ps) → b ≡ with_characters a (flat_map spec_characters ss) → Fails b (flat_map spec_characters ns) e new
    → Fails old (mentioned_by P) e new
fails_in_exceptions P old a b new ps ss ns e is_p is_s is_n first second h =
    fails_after old a (kept P) (ignored P ++ (exceptions P ++ barred P)) e new (added_of path_characters old a ps P.paths is_p first)
    (fails_after a b (ignored P) (exceptions P ++ barred P) e new (added_of spec_characters a b ss P.ignore is_s second)
    (fails_before b (exceptions P) (barred P) e new (fails_of spec_characters b ns P.ignorenot e new is_n h)))

fails_in_barred : (P : Parts) (old a b d new : List ℕ) (ps : List Path) (ss ns : List Specification) (bs : List Partial) (e : AutomatonFault)
    → ps ≡ P.paths → ss ≡ P.ignore → ns ≡ P.ignorenot → bs ≡ P.partial → a ≡ with_characters old (flat_map path_characters ps) → b ≡ with_characters a (flat_map spec_characters ss)
    → d ≡ with_characters b (flat_map spec_characters ns) → Fails d (flat_map partial_characters bs) e new → Fails old (mentioned_by P) e new
fails_in_barred P old a b d new ps ss ns bs e is_p is_s is_n is_b first second third h =
    fails_after old a (kept P) (ignored P ++ (exceptions P ++ barred P)) e new (added_of path_characters old a ps P.paths is_p first)
    (fails_after a b (ignored P) (exceptions P ++ barred P) e new (added_of spec_characters a b ss P.ignore is_s second)
    (fails_after b d (exceptions P) (barred P) e new (added_of spec_characters b d ns P.ignorenot is_n third) (fails_of partial_characters d bs P.partial e new is_b h)))

pub returns-in_err-mention_each : goal.returns-in_err-mention_each
returns-in_err-mention_each c =
    let whole = fails_in_kept c.args.profile.now c.args.alphabet.now c.mention_each.new.alphabet c.paths.result.now c.in_err-mention_each.field-0.0 c.paths.ensures.value
    (c.in_err-mention_each.ensures.err, c.in_err-mention_each.ensures.partly) in
    let p = err_from_is_err_and c.from_residual.result c.from_residual.ensures.1 in
    rw (p.1, p.2) (record { ok = tt; mentioned = tt; kept = tt; err = whole.0; partly = whole.1 })

pub returns-in_err-mention_each-2 : goal.returns-in_err-mention_each-2
returns-in_err-mention_each-2 c =
    let whole = fails_in_ignored c.args.profile.now c.args.alphabet.now c.mention_each.new.alphabet c.mention_each-2.new.alphabet c.paths.result.now c.ignore.result.now
    c.in_err-mention_each-2.field-0.0 c.paths.ensures.value c.ignore.ensures c.in_ok-mention_each.ensures.ok (c.in_err-mention_each-2.ensures.err, c.in_err-mention_each-2.ensures.partly) in
    let p = err_from_is_err_and c.from_residual-in_err-mention_each-2.result c.from_residual-in_err-mention_each-2.ensures.1 in
    rw (p.1, p.2) (record { ok = tt; mentioned = tt; kept = tt; err = whole.0; partly = whole.1 })

pub returns-in_err-mention_each-3 : goal.returns-in_err-mention_each-3
returns-in_err-mention_each-3 c =
    let whole = fails_in_exceptions c.args.profile.now c.args.alphabet.now c.mention_each.new.alphabet c.mention_each-2.new.alphabet c.mention_each-3.new.alphabet
    c.paths.result.now c.ignore.result.now c.ignorenot.result.now c.in_err-mention_each-3.field-0.0 c.paths.ensures.value c.ignore.ensures c.ignorenot.ensures
    c.in_ok-mention_each.ensures.ok c.in_ok-mention_each-2.ensures.ok (c.in_err-mention_each-3.ensures.err, c.in_err-mention_each-3.ensures.partly) in
    let p = err_from_is_err_and c.from_residual-in_err-mention_each-3.result c.from_residual-in_err-mention_each-3.ensures.1 in
    rw (p.1, p.2) (record { ok = tt; mentioned = tt; kept = tt; err = whole.0; partly = whole.1 })

pub returns-in_err-mention_each-4 : goal.returns-in_err-mention_each-4
returns-in_err-mention_each-4 c =
    let whole = fails_in_barred c.args.profile.now c.args.alphabet.now c.mention_each.new.alphabet c.mention_each-2.new.alphabet c.mention_each-3.new.alphabet c.mention_each-4.new.alphabet
    c.paths.result.now c.ignore.result.now c.ignorenot.result.now c.partial.result.now c.in_err-mention_each-4.field-0.0 c.paths.ensures.value c.ignore.ensures c.ignorenot.ensures c.partial.ensures
    c.in_ok-mention_each.ensures.ok c.in_ok-mention_each-2.ensures.ok c.in_ok-mention_each-3.ensures.ok (c.in_err-mention_each-4.ensures.err, c.in_err-mention_each-4.ensures.partly) in
    let p = err_from_is_err_and c.from_residual-in_err-mention_each-4.result c.from_residual-in_err-mention_each-4.ensures.1 in
    rw (p.1, p.2) (record { ok = tt; mentioned = tt; kept = tt; err = whole.0; partly = whole.1 })

pub returns-clause-ok : goal.returns-clause-ok
returns-clause-ok c =
    let P = c.args.profile.now in
    let old = c.args.alphabet.now in
    let a = c.mention_each.new.alphabet in
    let b = c.mention_each-2.new.alphabet in
    let d = c.mention_each-3.new.alphabet in
    let new = c.mention_each-4.new.alphabet in
    let first = added_of path_characters old a c.paths.result.now P.paths c.paths.ensures.value c.in_ok-mention_each.ensures.ok in
    let second = added_of spec_characters a b c.ignore.result.now P.ignore c.ignore.ensures c.in_ok-mention_each-2.ensures.ok in
    let third = added_of spec_characters b d c.ignorenot.result.now P.ignorenot c.ignorenot.ensures c.in_ok-mention_each-3.ensures.ok in
    let fourth = added_of partial_characters d new c.partial.result.now P.partial c.partial.ensures c.in_ok-mention_each-4.ensures.ok in
    added-after old a new (kept P) (ignored P ++ (exceptions P ++ barred P)) first
    (added-after a b new (ignored P) (exceptions P ++ barred P) second (added-after b d new (exceptions P) (barred P) third fourth))

pub returns-clause-kept : goal.returns-clause-kept
returns-clause-kept c = λ cs h.
    let is : c.mention_each-4.new.alphabet ≡ with_characters c.args.alphabet.now (mentioned_by c.args.profile.now) = returns-clause-ok c in
    ap (λ (ms : List ℕ). mentions ms cs) is ∙ c.what_is_added_is_mentioned.ensures.kept c.args.alphabet.now (mentioned_by c.args.profile.now) cs h

pub returns-clause-mentioned : goal.returns-clause-mentioned
returns-clause-mentioned c =
    let P = c.args.profile.now in
    let is : c.mention_each-4.new.alphabet ≡ with_characters c.args.alphabet.now (mentioned_by P) = returns-clause-ok c in
    says-all P c.mention_each-4.new.alphabet (ap (λ (ms : List ℕ). mentions ms (mentioned_by P)) is ∙ c.what_is_added_is_mentioned.ensures.added c.args.alphabet.now (mentioned_by P))

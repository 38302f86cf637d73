use Rattle.std.proofs.Common.{◌≡◌, ◌∙◌, ◌&&◌, [], ◌∷◌, sym, true, false}
use Rattle.hub_glob.specs.declared.piece.Part.TheVariants.{Brace}
use Rattle.hub_glob.specs.contracts.path_spec.PathSpecPartialEq.TheImpl as tested
use Rattle.hub_unison.specs.ReadingOf.{braced, owns, read_back}
use Rattle.hub_unison.specs.Spares.{is_plain}
use Rattle.hub_unison.proofs.KeptLines.{read-is, read-not}
use Rattle.hub_unison.proofs.owned.owns.Goals as goal

pub returns-in-Some : goal.returns-in-Some
returns-in-Some c =
    let s = c.args.spec.now in
    let read = c.in_ok-braced.ensures ∙ (λ i. read_back (record { kind = c.kind.ensures i; pattern = Brace (c.in_ok-choices.ensures i) ∷ [] })) in
    let two = read-is (braced s) c.in_ok-braced.field-0 c.in-Some.braced c.in-Some.is read in
    let plain : is_plain s.pattern ≡ true = sym c.in_ok-is_plain.ensures ∙ c.if-not-branch.false in
    c.eq.ensures ∙ (λ i. sym plain i && (sym two.0 i && tested.eq-value.it (two.1 i) c.args.spare.now))

pub returns-in-None : goal.returns-in-None
returns-in-None c =
    let s = c.args.spec.now in
    let read = c.in_ok-braced.ensures ∙ (λ i. read_back (record { kind = c.kind.ensures i; pattern = Brace (c.in_ok-choices.ensures i) ∷ [] })) in
    let none = read-not (braced s) c.in_ok-braced.field-0 c.in-None.is read in
    let plain : is_plain s.pattern ≡ true = sym c.in_ok-is_plain.ensures ∙ c.if-not-branch.false in
    let gone : owns s c.args.spare.now ≡ false = λ i. plain i && (none i && tested.eq-value.it (braced s) c.args.spare.now) in
    sym gone

-- What a bundle says, and the bundle of what it folds to.
use Rattle.std.proofs.Common.{◌≡◌, ◌∙◌, ℕ, Bool, true, List, Result, Ok, Err, length, sym, ap, subst, map, refl}
use Rattle.std.specs.Prelude.{IfOk, IfErr, IsErrAnd}
use Rattle.hub_bundle.specs.Sections.{Spells}
use Rattle.hub_bundle.specs.declared.sections.BundleContents.{BundleContents}
use Rattle.hub_folded.specs.Lines.{folded_member, folded_set, know_rules, some_fold}
use Rattle.hub_folded.specs.Roots.{AreToldApart}
use Rattle.hub_folded.specs.Rules.{IsRefused}
use Rattle.hub_folded.specs.Table.{unicode}
use Rattle.hub_folded.specs.declared.fault.FoldFault.{FoldFault}
use Rattle.hub_folded.specs.declared.fault.FoldFault.TheVariants.{UnknownRule, UnwrittenRules, OutOfMemory}
use Rattle.hub_folded.specs.declared.member.Member.{Member}
use Rattle.hub_import.specs.Imported.{contents_of}
use Rattle.hub_preferences.specs.Counted.{counted_bundle}
use Rattle.hub_respelled.specs.Caseless.{caseless_bundle}
use Rattle.hub_respelled.specs.Members.{members_of}
use Rattle.hub_respelled.specs.Respelled.{AreFoldsOf, IsFoldedBundle, IsOfNoRule, IsUnrespelled, SaidBy, folded_contents, like_fold, said_members, said_roots}
use Rattle.hub_respelled.specs.declared.fault.RespellFault.{RespellFault}
use Rattle.hub_respelled.specs.declared.fault.RespellFault.TheVariants as respell

abbrev pub said-by : (bundle : List ℕ) (own : BundleContents) (folds : List Bool)
    → Spells (counted_bundle (caseless_bundle bundle)) own
    → AreFoldsOf bundle (length own.profiles) folds → SaidBy bundle
said-by bundle own folds spelled is = record {
  sections = is.0;
  cut = is.1;
  own = own;
  spelled = spelled;
  count = ap length (sym is.2) ∙ is.3;
}

pub folds-said : (bundle : List ℕ) (own : BundleContents) (folds : List Bool)
    (spelled : Spells (counted_bundle (caseless_bundle bundle)) own)
    (is : AreFoldsOf bundle (length own.profiles) folds)
    → members_of folds own.profiles ≡ said_members (said-by bundle own folds spelled is)
folds-said bundle own folds spelled is = ap (λ fs. members_of fs own.profiles) is.2

pub refused-so : (bundle : List ℕ) (said : SaidBy bundle) (Ms : List Member) (e : FoldFault)
    → IsRefused unicode Ms said.own.rules e → IsUnrespelled bundle (like_fold e)
refused-so bundle said Ms (UnknownRule i) is = (said, is.1)
refused-so bundle said Ms UnwrittenRules is = tt
refused-so bundle said Ms OutOfMemory is = tt

pub no-rule : (bundle : List ℕ) (e : RespellFault) → IsOfNoRule e → IsUnrespelled bundle e
no-rule bundle (respell.UnknownRule i) is = absurd is
no-rule bundle (respell.SpelledTwice r s) is = absurd is
no-rule bundle respell.Unwritten is = tt
no-rule bundle respell.OutOfMemory is = tt

pub no-rule-err : {T : Type 0} (bundle : List ℕ) (r : Result T RespellFault) → IfErr r IsOfNoRule
    → IfErr r (IsUnrespelled bundle)
no-rule-err bundle (Ok x) is = tt
no-rule-err bundle (Err e) is = no-rule bundle e is

abbrev pub folded-so : (bundle text : List ℕ) (said : SaidBy bundle) (c : BundleContents)
    → some_fold (said_members said) ≡ true → know_rules unicode said.own.rules ≡ true
    → AreToldApart unicode (said_roots said.own) → c ≡ folded_contents said → (counted_bundle text ≡ text) × Spells text c
    → IsFoldedBundle bundle text
folded-so bundle text said c some known told same is = record {
  said = said;
  some = some;
  known = known;
  told = told;
  all = is.0;
  folded = subst (Spells text) same is.1;
}

pub folded-each : (Ms : List Member) → some_fold Ms ≡ true
    → folded_set unicode Ms ≡ map (folded_member unicode) Ms
folded-each Ms some = rw some refl

pub err-so : {T : Type 0} (bundle : List ℕ) (r : Result T RespellFault) (f : FoldFault)
    → IsErrAnd r (λ e. e ≡ like_fold f) → IsUnrespelled bundle (like_fold f)
    → IfErr r (IsUnrespelled bundle)
err-so bundle (Ok x) f is so = tt
err-so bundle (Err e) f is so = subst (IsUnrespelled bundle) (sym is) so

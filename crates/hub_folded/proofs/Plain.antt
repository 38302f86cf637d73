-- A set with folded names, and one without.
use Rattle.std.proofs.Common.{◌≡◌, true, false, List, map}
use Rattle.std.specs.Prelude.{if◌then◌else◌, Result, Ok, Err, IfOk}
use Rattle.hub_profile.specs.declared.rule.Rule.{Rule}
use Rattle.hub_folded.specs.Fold.{Folding}
use Rattle.hub_folded.specs.declared.member.Member.{Member}
use Rattle.hub_folded.specs.Lines.{folded_member, folded_rules, folded_set, fold_rule, some_fold}

module _ (F : Folding) (Ms : List Member) where
  pub plain-set : some_fold Ms ≡ false → folded_set F Ms ≡ map (λ M. M.parts) Ms
  plain-set e = λ i. if e i then map (folded_member F) Ms else map (λ M. M.parts) Ms

  pub plain-rules : (Rs : List Rule) → some_fold Ms ≡ false → folded_rules F Ms Rs ≡ Rs
  plain-rules Rs e = λ i. if e i then map (fold_rule F) Rs else Rs

  pub set-folded : some_fold Ms ≡ true → folded_set F Ms ≡ map (folded_member F) Ms
  set-folded e = λ i. if e i then map (folded_member F) Ms else map (λ M. M.parts) Ms

  pub rules-folded : (Rs : List Rule) → some_fold Ms ≡ true → folded_rules F Ms Rs ≡ map (fold_rule F) Rs
  rules-folded Rs e = λ i. if e i then map (fold_rule F) Rs else Rs

-- What follows of a result, if it is there.
pub ok-weaker : {U E : Type 0} {P Q : U → Type 0} (r : Result U E) → ((x : U) → P x → Q x) → IfOk r P
    → IfOk r Q
ok-weaker (Ok x) w h = w x h
ok-weaker (Err e) w h = tt

use Rattle.std.proofs.Common.{◌≡◌, ◌∙◌, ◌≤◌, List, length, refl, sym, ap, subst, arith}
use Rattle.std.proofs.lemmas.Option.{same_Some, slice_get_read, slice_get_within}
use Rattle.hub_profile.specs.Parts.{Parts}
use Rattle.hub_cert.specs.Refused.{IsFirstNamesake, IsFirstRepeated, NoNamesakes}
use Rattle.hub_cert.specs.declared.set.TheConstants.{PROFILES}
use Rattle.hub_cert.proofs.SetFacts.{few-named}
use Rattle.hub_cert.proofs.set.refusals.check_names.Goals as goal

pub returns-in-Some-clause-err : goal.returns-in-Some-clause-err
returns-in-Some-clause-err c = λ S ps.
    let Ps = c.args.profiles.now in
    let e : IsFirstNamesake Ps c.in-Some.later = rw c.in-Some.is at c.in_ok-later.ensures in
    let same = e.0.2 in
    let here = slice_get_read Ps _ c.in-Some.later c.index-profiles-later.result refl (slice_get_within Ps c.in-Some.later same.second same.at_second) c.index-profiles-later.is in
    let own : c.index-profiles-later.result ≡ same.second = same_Some c.index-profiles-later.result same.second (sym here ∙ same.at_second) in
    let first : IsFirstRepeated Ps c.in_ok-copy.field-0 = record {
      earlier = e.0.0;
      later = c.in-Some.later;
      before = e.0.1;
      repeated = same;
      shown = c.in_ok-copy.ensures ∙ (c.name.ensures ∙ ap (λ (P : Parts). P.name) own);
      none_before = e.1;
    } in
    (subst (λ (Qs : List Parts). length Qs ≤ PROFILES) (sym ps) (omega arith), subst (λ (Qs : List Parts). IsFirstRepeated Qs c.in_ok-copy.field-0) (sym ps) first)

pub returns-clause-ok : goal.returns-clause-ok
returns-clause-ok c = λ S ps.
    let none : NoNamesakes c.args.profiles.now = rw c.in_default.is at c.in_ok-later.ensures in
    few-named S c.args.profiles.now ps (omega arith) none

-- What kept values alone rule out.
use Rattle.std.proofs.Common.{◌≡◌, ◌∙◌, ◌⊎◌, ⊎_elim, ℕ, Bool, true, false, not, ◌&&◌, List, [], ◌∷◌, refl, sym, ap, arith}
use Rattle.std.specs.Prelude.{IsTrue, Contains}
use Rattle.std.specs.List.{list_all, list_any}
use Rattle.std.proofs.lemmas.Bool.{and_parts, false_from_ne_true}
use Rattle.hub_text.specs.laws.List.{cons-cases}
use Rattle.hub_path.specs.Path.{Path, is_over, path_of, prefixes}
use Rattle.hub_path.specs.laws.Text.{prefixes-over}
use Rattle.hub_profile.specs.Parts.{Parts, at_side, some_passes}
use Rattle.hub_profile.specs.declared.rule.Rule.{Rule}
use Rattle.hub_glob.specs.Glob.{matches}
use Rattle.hub_glob.specs.Specification.{Specification}
use Rattle.hub_reach.specs.Apart.{are_near}
use Rattle.hub_fronts.specs.Fronts.{may_meet_one}
use Rattle.hub_text.specs.laws.Test.{some-of}
use Rattle.hub_reach.specs.laws.General.{passing}
use Rattle.hub_reach.specs.Reach.{may_at, reach, write, writes_at}
use Rattle.hub_cert.specs.Aim.{Aim, Breaching, Clashing, accepts, holds, is_open_aim, shows}
use Rattle.hub_cert.specs.Apart.{is_apart, is_apart_goal}
use Rattle.hub_cert.specs.Goals.{AllSilent, goals}
use Rattle.hub_cert.specs.Set.{Members}
use Rattle.hub_cert.specs.declared.goal.Goal.{Goal}
use Rattle.hub_cert.specs.declared.goal.Place.{Place}
use Rattle.hub_cert.specs.declared.goal.Place.TheVariants.{Replica, Archive}
use Rattle.hub_cert.proofs.GoalList.{listed}

-- What profiles reach whose kept values are apart.
abbrev pub ReachApart : Type 0
ReachApart = (P Q : Parts) (p q : Path) → are_near P.paths Q.paths ≡ false → IsTrue (is_over p q) → IsTrue (reach P p) → IsTrue (reach Q q) → ⊥

-- What profiles reach whose kept values differ from the literal prefix of a specification.
abbrev pub NothingMatched : Type 0
NothingMatched = (P : Parts) (s : Specification) (p : Path) → may_meet_one s P.paths ≡ false → IsTrue (reach P p) → matches s p ≡ true → ⊥

-- What a writer holds it reaches.
holds-reach : (W : Parts) (place : Place) (p : Path) → holds W place p ≡ true → reach W p ≡ true
holds-reach W (Replica side) p h =
    let r = passing (λ r. write W r p) (at_side W.roots side) h in
    (and_parts (writes_at W r.0 p) (reach W p) r.2).1
holds-reach W Archive p h = h

shown-near : (W Q : Parts) (place : Place) (q : Path) → ReachApart → are_near W.paths Q.paths ≡ false → shows (Clashing W Q place) q ≡ true → ⊥
shown-near W Q place q law apart shown =
    let parts = and_parts (reach Q q) (list_any (holds W place) (prefixes q)) shown in
    let p = some-of (λ p. is_over p q) (holds W place) (prefixes q) (prefixes-over q) parts.1 in
    law W Q p.0 q apart p.1 (holds-reach W place p.0 p.2) parts.0

turned : (b : Bool) → not b ≡ true → b ≡ false
turned true h = cc
turned false h = refl

shown-met : (P : Parts) (R : Rule) (q : Path) → NothingMatched → may_meet_one R.spec P.paths ≡ false → shows (Breaching P R) q ≡ true → ⊥
shown-met P R q law apart shown =
    let parts = and_parts (reach P q) (may_at P R.root q R.verb && matches R.spec q) shown in
    law P R.spec q apart parts.0 (and_parts (may_at P R.root q R.verb) (matches R.spec q) parts.1).1

-- Where kept values rule a goal out, it accepts no text.
pub apart-silent : ReachApart → NothingMatched → (a : Aim) (t : List ℕ) → is_apart a ≡ true → accepts a t ≡ false
apart-silent law other (Clashing W Q place) t h =
    false_from_ne_true (accepts (Clashing W Q place) t) (λ shown. shown-near W Q place (path_of t) law (turned (are_near W.paths Q.paths) h) shown)
apart-silent law other (Breaching P R) t h =
    false_from_ne_true (accepts (Breaching P R) t) (λ shown. shown-met P R (path_of t) other (turned (may_meet_one R.spec P.paths) h) shown)

-- What all goals of a list pass, each of them does.
all-in : (f : Goal → Bool) (gs : List Goal) (g : Goal) → list_all f gs ≡ true → Contains gs g → f g ≡ true
all-in f [] g all m = let l = m.1 in absurd (omega (arith, l))
all-in f (h ∷ gs) g all m =
    let w = and_parts (f h) (list_all f gs) all in
    ⊎_elim (λ same. sym (ap f same) ∙ w.0) (λ rest. all-in f gs g w.1 rest) (cons-cases h g gs m)

-- Where they rule out each goal of a set, no text accepts any of them.
pub all-apart : (S : Members) (gs : List Goal) → ((a : Aim) (t : List ℕ) → IsTrue (is_apart a) → accepts a t ≡ false) → gs ≡ goals S → list_all (is_apart_goal S) gs ≡ true → AllSilent S
all-apart S gs law same all g a at is_open t =
    let m = (listed S g).0 (ap (some_passes is_open_aim) at ∙ is_open) in
    let one = all-in (is_apart_goal S) (goals S) g (ap (list_all (is_apart_goal S)) (sym same) ∙ all) m in
    law a t (sym (ap (some_passes is_apart) at) ∙ one)

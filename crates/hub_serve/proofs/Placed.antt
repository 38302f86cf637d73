-- Each profile of a plan is in its order or is refused, and that once.
use Rattle.std.proofs.Common.{◌≡◌, ◌∙◌, ◌<◌, ◌≤◌, ◌==◌, ◌&&◌, ◌+◌, ℕ, zero, suc, Bool, true, false, cond, List, [], ◌∷◌, ◌++◌, length, Result, Ok, Err, refl, sym, ap, subst, arith, length-append}
use Rattle.std.specs.Prelude.{nat_le}
use Rattle.std.proofs.lemmas.Bool.Decides.{nat_tests}
use Rattle.std.proofs.lemmas.List.{map-append}
use Rattle.hub_path.specs.Path.{Name}
use Rattle.hub_profile.specs.Parts.{Parts}
use Rattle.hub_profile.specs.Reading.{profile_in}
use Rattle.hub_profile.specs.Rules.{rules_in}
use Rattle.hub_profile.specs.declared.fault.ProfileFault.{ProfileFault}
use Rattle.hub_profile.specs.declared.rule.Rule.{Rule}
use Rattle.hub_cert.specs.declared.fault.CheckFault.{CheckFault}
use Rattle.hub_bundle.specs.Bundle.{SectionValue}
use Rattle.hub_bundle.specs.declared.bundle.Heading.{Heading}
use Rattle.hub_bundle.specs.declared.bundle.Heading.TheVariants as heading
use Rattle.hub_bundle.specs.declared.sections.SectionFault.{SectionFault}
use Rattle.hub_preferences.specs.Counted.{counted_bundle}
use Rattle.hub_report.specs.Plan.{is_refused, order_of, read_order, run_alone, unread_numbers, unread_order}
use Rattle.hub_report.specs.declared.plan.Roster.{Roster}
use Rattle.hub_report.specs.declared.plan.Unread.{Unread}
use Rattle.hub_serve.proofs.WrittenSections.{taken-ok, takes-on}
use Rattle.hub_serve.specs.Plans.{AreEachOnce, IsPlan, PlacesEach, Takes, names_with, no_profiles, read_refused, refused_of, take_section, take_under, taking, times_in, unread_refused, with_profile, with_rules}
use Rattle.hub_serve.specs.declared.taken.Taken.{Taken}

times-append : (k : ℕ) (xs ys : List ℕ) → times_in k (xs ++ ys) ≡ times_in k xs + times_in k ys
times-append k [] ys = omega arith
times-append k (x ∷ xs) ys = let h = times-append k xs ys in omega (arith, h)

-- A profile that is read is in the order or is refused.
read-split : (k : ℕ) (es : List CheckFault) (i : ℕ) (ns : List ℕ) → times_in k (read_order es i ns) + times_in k (read_refused es i ns) ≡ times_in k ns
read-split k es i [] = refl
read-split k es i (n ∷ ns) = go (is_refused es i) (read-split k es (i + 1) ns)
  where
    later : List ℕ
    later = read_order es (i + 1) ns

    others : List ℕ
    others = read_refused es (i + 1) ns

    go : (b : Bool) → times_in k later + times_in k others ≡ times_in k ns
        → times_in k (cond b [] (n ∷ []) ++ later) + times_in k (cond b (n ∷ []) [] ++ others) ≡ times_in k (n ∷ ns)
    go true h = omega (arith, h)
    go false h = omega (arith, h)

-- So is one that isn't.
unread-split : (k : ℕ) (r : Roster) (Rs : List Rule) → times_in k (unread_order Rs r.unread) + times_in k (unread_refused r Rs) ≡ times_in k (unread_numbers r.unread)
unread-split k r Rs = go (run_alone Rs)
  where
    go : (b : Bool) → times_in k (cond b (unread_numbers r.unread) []) + times_in k (cond b [] (unread_numbers r.unread)) ≡ times_in k (unread_numbers r.unread)
    go true = omega arith
    go false = omega arith

all-split : (k : ℕ) (r : Roster) (Rs : List Rule) (es : List CheckFault)
    → times_in k (order_of r Rs es) + times_in k (refused_of r Rs es) ≡ times_in k r.numbers + times_in k (unread_numbers r.unread)
all-split k r Rs es =
    let first = times-append k (read_order es 0 r.numbers) (unread_order Rs r.unread) in
    let second = times-append k (read_refused es 0 r.numbers) (unread_refused r Rs) in
    let read = read-split k es 0 r.numbers in
    let unread = unread-split k r Rs in
    omega (arith, first, second, read, unread)

-- Whether a number is one of the first ones, so many of them.
abbrev among : ℕ → ℕ → ℕ
among k n = cond (nat_le 1 k && nat_le k n) 1 0

among-more : (k n : ℕ) → among k n + cond ((n + 1) == k) 1 0 ≡ among k (n + 1)
among-more k n = go (nat_le 1 k) (nat_le k n) ((n + 1) == k) (nat_le k (n + 1)) refl refl refl refl
  where
    go : (a b c d : Bool) → nat_le 1 k ≡ a → nat_le k n ≡ b → ((n + 1) == k) ≡ c → nat_le k (n + 1) ≡ d → cond (a && b) 1 0 + cond c 1 0 ≡ cond (a && d) 1 0
    go true true true d e f g h = absurd (grind (arith, nat_tests, f, g))
    go true true false true e f g h = refl
    go true true false false e f g h = absurd (grind (arith, nat_tests, f, h))
    go true false true true e f g h = refl
    go true false true false e f g h = absurd (grind (arith, nat_tests, g, h))
    go true false false true e f g h = absurd (grind (arith, nat_tests, f, g, h))
    go true false false false e f g h = refl
    go false b true d e f g h = absurd (grind (arith, nat_tests, e, g))
    go false b false d e f g h = refl

-- The numbers of what is taken are the first ones, one for each name.
abbrev AreNumbered : Taken → Type 0
AreNumbered t =
    (k : ℕ) → times_in k t.roster.numbers + times_in k (unread_numbers t.roster.unread) ≡ among k (length t.roster.names)

one-more : (k n m : ℕ) (names : List Name) (name : Name) → n ≡ among k (length names) → m ≡ length (names ++ name ∷ []) → n + cond (m == k) 1 0 ≡ among k m
one-more k n m names name is last =
    let more : m ≡ length names + 1 = last ∙ length-append names (name ∷ []) in
    subst (λ (l : ℕ). n + cond (l == k) 1 0 ≡ among k l) (sym more)
    (ap (λ (l : ℕ). l + cond ((length names + 1) == k) 1 0) is ∙ among-more k (length names))

profile-numbered : (t : Taken) (name : Name) (r : Result Parts ProfileFault) → AreNumbered t → AreNumbered (with_profile t name r)
profile-numbered t name (Ok P) h k =
    let m = length (names_with t name) in
    let before = times-append k t.roster.numbers (m ∷ []) in
    let more = one-more k (times_in k t.roster.numbers + times_in k (unread_numbers t.roster.unread)) m t.roster.names name (h k) refl in
    omega (arith, before, more)
profile-numbered t name (Err f) h k =
    let m = length (names_with t name) in
    let own : List Unread = (record { number = m; fault = f }) ∷ [] in
    let mapped : times_in k (unread_numbers (t.roster.unread ++ own)) ≡ times_in k (unread_numbers t.roster.unread ++ m ∷ []) =
    ap (times_in k) (map-append (λ (u : Unread). u.number) t.roster.unread own) in
    let before = times-append k (unread_numbers t.roster.unread) (m ∷ []) in
    let more = one-more k (times_in k t.roster.numbers + times_in k (unread_numbers t.roster.unread)) m t.roster.names name (h k) refl in
    omega (arith, mapped, before, more)

-- Other sections leave the roster.
same-roster : (t u : Taken) → u.roster ≡ t.roster → AreNumbered t → AreNumbered u
same-roster t u is h k =
    subst (λ (r : Roster). times_in k r.numbers + times_in k (unread_numbers r.unread) ≡ among k (length r.names)) (sym is) (h k)

rules-roster : (t : Taken) (r : Result (List Rule) ProfileFault) (x : Taken) → with_rules t r ≡ Ok x → x.roster ≡ t.roster
rules-roster t (Ok Rs) x e = ap (λ (y : Taken). y.roster) (sym (taken-ok (with_rules t (Ok Rs)) (record t { rules = Rs }) x refl e))
rules-roster t (Err f) x e = cc

section-numbered : (h : Heading) (bytes : List ℕ) (t x : Taken) → AreNumbered t → take_under t h bytes ≡ Ok x → AreNumbered x
section-numbered (heading.Profile name) bytes t x n e =
    subst AreNumbered (taken-ok (take_under t (heading.Profile name) bytes) (with_profile t name (profile_in name bytes)) x refl e)
    (profile-numbered t name (profile_in name bytes) n)
section-numbered heading.Rules bytes t x n e = same-roster t x (rules-roster t (rules_in bytes) x e) n
section-numbered heading.State bytes t x n e =
    subst AreNumbered (taken-ok (take_under t heading.State bytes) t x refl e) n
section-numbered heading.Certificates bytes t x n e =
    subst AreNumbered (taken-ok (take_under t heading.Certificates bytes) t x refl e) n

sections-numbered : (ss : List SectionValue) (t u : Taken) → AreNumbered t → taking t ss ≡ Ok u → AreNumbered u
sections-numbered [] t u n e = subst AreNumbered (taken-ok (taking t []) t u refl e) n
sections-numbered (s ∷ ss) t u n e =
    let w = takes-on (take_section t s) (λ y. taking y ss) u e in
    sections-numbered ss w.x u (section-numbered s.heading s.bytes t w.x n w.first) w.rest

first-numbered : AreNumbered no_profiles
first-numbered k = go (nat_le 1 k) (nat_le k 0) refl refl
  where
    go : (a b : Bool) → nat_le 1 k ≡ a → nat_le k 0 ≡ b → ◌≡◌ {A = ℕ} (0 + 0) (cond (a && b) 1 0)
    go true true e f = absurd (grind (arith, nat_tests, e, f))
    go true false e f = refl
    go false b e f = refl

among-one : (k n : ℕ) → 0 < k → k ≤ n → among k n ≡ 1
among-one k n l m = go (nat_le 1 k) (nat_le k n) refl refl
  where
    go : (a b : Bool) → nat_le 1 k ≡ a → nat_le k n ≡ b → ◌≡◌ {A = ℕ} (cond (a && b) 1 0) 1
    go true true e f = refl
    go true false e f = absurd (grind (arith, nat_tests, f, m))
    go false b e f = absurd (grind (arith, nat_tests, e, l))

pub each-once : (counted : List ℕ) (t : Taken) → Takes counted t → AreEachOnce t.roster
each-once counted t h k l m =
    sections-numbered h.sections no_profiles t first-numbered h.taken k ∙ among-one k (length t.roster.names) l m

pub plan-places : (bytes text : List ℕ) (whole : Bool) (p : IsPlan bytes text whole) → PlacesEach p.own.roster p.own.rules p.lines
plan-places bytes text whole p k l m =
    all-split k p.own.roster p.own.rules p.lines
    ∙ each-once (counted_bundle bytes) p.own p.takes k l m
